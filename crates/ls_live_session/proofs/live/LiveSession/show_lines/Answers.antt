use Rattle.std.proofs.Common.{ℕ, List, sym, ap, ◌∙◌, subst, arith}
use Rattle.ls_register.specs.Watches.{Watched}
use Rattle.ls_told.specs.Keeping.{KeepsTold}
use Rattle.ls_joining.proofs.Living.{lives_room}
use Rattle.ls_live_session.proofs.live.LiveSession.show_lines.Goals as goal

pub show_lines-requires-clause-few : goal.show_lines-requires-clause-few
show_lines-requires-clause-few g c =
    let s = c.deref_mut.result.now in
    let room = lives_room g.N.House.deed.config s.number s.history.list s.watches.items s.subs.items s.session (rw c.deref_mut.ensures.value c.self.invariant.0) in
    omega (arith, room)

pub show_lines-requires-clause-told : goal.show_lines-requires-clause-told
show_lines-requires-clause-told g c =
    let s = c.deref_mut.result.now in
    let config = g.N.House.deed.config in
    let r = c.self.invariant.0.0 in
    let l = rw (sym c.deref_mut.ensures.value) at c.self.invariant.0.1 in
    let number = ap (λ p. p.number) c.deref_mut.ensures.value ∙ ap (λ v. v.number) c.self.view_is ∙ sym c.requires.of.0 in
    let watches = ap (λ p. p.watches.items) c.deref_mut.ensures.value ∙ ap (λ v. v.watches) c.self.view_is ∙ sym c.requires.items in (
      r.session,
      subst (λ (n : ℕ). KeepsTold config n s.history.list c.args.sight.now.watches r.session) number
          (subst (λ (ws : List Watched). KeepsTold config s.number s.history.list ws r.session) watches l.told),
    )
