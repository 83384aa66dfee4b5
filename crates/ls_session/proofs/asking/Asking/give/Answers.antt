use Rattle.std.proofs.Common.{length, ap, arith, subst, sym}
use Rattle.ls_turns.specs.Round.{Round, IsSeated}
use Rattle.ls_session.proofs.Seats.{held_anew, gave_few, gave_seated}
use Rattle.ls_session.proofs.asking.Asking.give.Goals as goal

pub invariant_of-self : goal.invariant_of-self
invariant_of-self c = (
  held_anew c.gave.new.self _ _ c.first-self-inside.ensures
      (omega (
        arith,
        ap (λ (t : Round). length t.seats) c.gave.ensures.seats,
        gave_few c.args.slot.now.sub c.args.slot.now.place c.self.inside.turns,
        c.self.invariant.0.room,
      )),
  c.self.invariant.1,
  λ f e. subst (λ (t : Round). IsSeated t f.node) (sym c.gave.ensures.seats)
      (gave_seated c.args.slot.now.sub c.args.slot.now.place c.self.inside.turns f.node (c.self.invariant.2 f e)),
  c.self.invariant.3,
)
