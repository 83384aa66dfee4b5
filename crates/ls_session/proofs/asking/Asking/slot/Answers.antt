use Rattle.std.proofs.Common.{◌≡◌, true, subst, sym, ap}
use Rattle.ls_turns.specs.Round.{Round, has_slot}
use Rattle.ls_turns.specs.declared.slot_ref.SlotRef.{SlotRef}
use Rattle.ls_session.specs.Asking.{Asking}
use Rattle.ls_session.proofs.Seats.{has_at}
use Rattle.ls_session.proofs.asking.Asking.slot.Goals as goal

pub returns-in-Some-clause-named : goal.returns-in-Some-clause-named
returns-in-Some-clause-named c =
    let s = c.self.invariant.0.next c.in-Some.node c.in-Some.is in
    subst (λ (t : Round). has_slot c.slot.result.sub c.slot.result.place t ≡ true) (ap (λ (a : Asking). a.turns) c.self.view_is)
    (subst (λ (x : SlotRef). has_slot x.sub x.place c.self.inside.turns ≡ true) (sym (c.slot.ensures s.0 s.1 s.2 s.3)) (has_at c.self.inside.turns s.0 s.1 s.2))
