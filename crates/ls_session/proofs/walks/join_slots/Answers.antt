use Rattle.std.proofs.Common.{refl, arith}
use Rattle.ls_session.proofs.Seats.{none_named}
use Rattle.ls_session.proofs.walks.join_slots.Goals as goal

pub loop-i-init : goal.loop-i-init
loop-i-init c = record {
  spare = omega (arith, c.requires.spare);
  absent = λ place low. none_named c.args.sub place c.args.turns.now.seats c.requires.absent;
  rest = refl;
}
