use Rattle.std.proofs.Common.{length, ap, arith}
use Rattle.ls_turns.specs.Round.{Round}
use Rattle.ls_session.proofs.Seats.{no_front, held_anew, left_few}
use Rattle.ls_session.proofs.asking.Asking.leave.Goals as goal

pub invariant_of-self : goal.invariant_of-self
invariant_of-self c = (
  held_anew c.leave.new.self _ _ c.first-self-inside.ensures
      (omega (arith, ap (λ (t : Round). length t.seats) c.leave.ensures.seats, left_few c.args.sub c.self.inside.turns, c.self.invariant.0.room)),
  c.self.invariant.1,
  no_front _,
  c.self.invariant.3,
)
