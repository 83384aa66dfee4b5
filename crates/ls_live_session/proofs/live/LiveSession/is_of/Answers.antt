use Rattle.std.proofs.Common.{IfSome, sym, ap, ◌∙◌, subst}
use Rattle.std.proofs.lemmas.Bool.{eqb-true}
use Rattle.ls_register.specs.Places.{Placed}
use Rattle.ls_joining.specs.Sights.{ShowsIt}
use Rattle.ls_joining.proofs.Shown.{one_session}
use Rattle.ls_live_session.proofs.live.LiveSession.is_of.Goals as goal

pub returns-clause-one : goal.returns-clause-one
returns-clause-one g c is =
    let that = c.is_that.ensures in
    let mine = c.again-mine.result in
    let theirs = c.place-theirs.result in
    let p = c.deref_mut.result.now in
    let t = c.args.sight.now in
    let mine_shows = subst (λ (q : Placed). ShowsIt q p.number p.history.table) (sym c.again-mine.ensures.0)
    (subst (λ o. IfSome o (λ q. ShowsIt q p.number p.history.table)) c.in-Some.is (rw c.deref_mut.ensures.value c.self.invariant.1)) in
    let theirs_shows = c.place-theirs.ensures.shows in
    let one = one_session mine theirs c.is_that.new.self.list c.is_that.new.other.list p.number t.number p.history.table t.table
    mine_shows theirs_shows that.first that.second that.lists (eqb-true mine.at theirs.at (sym that.one ∙ is)) in (
      one.0 ∙ ap (λ p. p.number) c.deref_mut.ensures.value ∙ ap (λ v. v.number) c.self.view_is,
      one.1 ∙ ap (λ p. p.history.table) c.deref_mut.ensures.value ∙ ap (λ v. v.table) c.self.view_is,
    )
