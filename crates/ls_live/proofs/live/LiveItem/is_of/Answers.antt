use Rattle.std.proofs.Common.{◌∙◌, sym, ap, subst, IfSome}
use Rattle.std.proofs.lemmas.Bool.{eqb-true}
use Rattle.std.specs.Arc.{arc_value}
use Rattle.ls_register.specs.Items.{ShowsItem}
use Rattle.ls_register.proofs.Showing.{shows_same}
use Rattle.ls_live.specs.Live.{shape_kept}
use Rattle.ls_live.proofs.live.LiveItem.is_of.Goals as goal

pub returns-clause-one : goal.returns-clause-one
returns-clause-one g c is =
    let same = c.is_that.ensures in
    let mine = c.again-mine.result in
    let theirs = c.again-theirs.result in
    let config = g.N.House.deed.config in
    let i = c.self.inside in
    let p = c.pass.inside in
    let mine_shows = subst (λ q. ShowsItem config q i.item i.cell.item.shape (arc_value i.chron)) (sym c.again-mine.ensures.0)
    (subst (λ o. IfSome o (λ q. ShowsItem config q i.item i.cell.item.shape (arc_value i.chron))) c.in-Some.is c.self.invariant.3) in
    let theirs_shows = subst (λ q. ShowsItem config q p.item (shape_kept p.shape) p.reader.table) (sym c.again-theirs.ensures.0)
    (subst (λ o. IfSome o (λ q. ShowsItem config q p.item (shape_kept p.shape) p.reader.table)) c.in-Some-place.is
    c.pass.invariant.2) in
    let one = shows_same config mine theirs c.is_that.new.self c.is_that.new.other i.item p.item i.cell.item.shape
    (shape_kept p.shape) (arc_value i.chron) p.reader.table mine_shows theirs_shows same.first same.second same.lists same.same.0
    same.same.1 (eqb-true mine.at theirs.at (sym same.one ∙ is)) in
    record {
      table = sym (ap (λ q. q.table) c.pass.view_is) ∙ (sym one.table_is ∙ ap (λ q. q.table) c.self.view_is);
      shape = sym (ap (λ q. q.shape) c.pass.view_is) ∙ (sym one.shape_is ∙ ap (λ q. q.shape) c.self.view_is);
    }
