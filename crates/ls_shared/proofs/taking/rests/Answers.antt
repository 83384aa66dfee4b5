use Rattle.std.proofs.Common.{◌≡◌, ◌≤◌, ℕ, ◌∙◌, ap, sym, subst, arith, List, length}
use Rattle.ls_register.specs.declared.told.Told.{Told}
use Rattle.ls_session.specs.declared.session.Session.{Session as Kept}
use Rattle.ls_session.specs.Record.{Record, Question, passed_over}
use Rattle.ls_told.specs.Seen.{Watched, seen_of}
use Rattle.ls_live_session.specs.Groups.{SubSeen}
use Rattle.ls_live_session.specs.Lives.{LivesAs, HasNothing}
use Rattle.ls_live_session.specs.Taking.{IsAskedFrom}
use Rattle.ls_shared.proofs.taking.rests.Goals as goal

pub returns-clause-rests : goal.returns-clause-rests
returns-clause-rests g c = λ yes r q now asked.
    let config = g.N.House.deed.config in
    let mid = c.count.new.self in
    let said =
    subst
    (λ (t : ℕ × List Told × List Watched × List SubSeen × Kept). IsAskedFrom config t.0 t.1 t.2 t.3 t.4 r q c.args.ask now
    → LivesAs config t.0 t.1 t.2 t.3 c.rest_quiet.new.self.session (passed_over r) × HasNothing (seen_of t.2 q.live.item) q.live.slot
    × (q.live.slot.last ≡ c.in-Some.events))
    (λ i. (
      ap (λ p. p.number) c.count.ensures.rest i,
      ap (λ p. p.history.list) c.count.ensures.rest i,
      c.count.ensures.same i,
      ap (λ p. p.subs.items) c.count.ensures.rest i,
      ap (λ p. p.session) c.count.ensures.rest i,
    )) (c.rest_quiet.ensures.rests yes r q now) asked in (
      said.0,
      said.1,
      omega (
        arith,
        subst (λ (n : ℕ). length (seen_of c.args.parts.now.watches.items n) ≤ c.in-Some.events) (ap (λ a. a.slot.item) asked.ask_is)
            c.in-Some.ensures.count,
        said.2,
      ),
    )
