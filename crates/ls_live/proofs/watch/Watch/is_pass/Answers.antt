use Rattle.std.proofs.Common.{◌∙◌, sym, ap, subst, IfSome}
use Rattle.std.proofs.lemmas.Bool.{eqb-true}
use Rattle.ls_register.specs.Items.{ShowsItem}
use Rattle.ls_register.proofs.Showing.{shows_same}
use Rattle.ls_live.specs.Live.{shape_kept}
use Rattle.ls_live.proofs.watch.Watch.is_pass.Goals as goal

pub returns-clause-one : goal.returns-clause-one
returns-clause-one g c is =
    let same = c.is_that.ensures in
    let mine = c.again-mine.result in
    let theirs = c.again-theirs.result in
    let config = g.N.House.deed.config in
    let w = c.self.inside in
    let p = c.pass.inside in
    let watching = c.self.invariant.1 in
    let mine_shows = subst (λ q. ShowsItem config q w.item watching.shape w.reader.table) (sym c.again-mine.ensures.0) watching.shows in
    let theirs_shows = subst (λ q. ShowsItem config q p.item (shape_kept p.shape) p.reader.table) (sym c.again-theirs.ensures.0)
    (subst (λ o. IfSome o (λ q. ShowsItem config q p.item (shape_kept p.shape) p.reader.table)) c.in-Some.is c.pass.invariant.2) in
    let one = shows_same config mine theirs c.is_that.new.self c.is_that.new.other w.item p.item watching.shape
    (shape_kept p.shape) w.reader.table p.reader.table mine_shows theirs_shows same.first same.second same.lists same.same.0
    same.same.1 (eqb-true mine.at theirs.at (sym same.one ∙ is)) in (
      sym (ap (λ v. v.item) c.self.view_is) ∙ (one.item_is ∙ ap (λ q. q.item) c.pass.view_is),
      sym (ap (λ v. v.table) c.self.view_is) ∙ (one.table_is ∙ ap (λ q. q.table) c.pass.view_is),
    )
