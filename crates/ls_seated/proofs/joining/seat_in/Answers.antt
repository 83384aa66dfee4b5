use Rattle.std.proofs.Common.{arith}
use Rattle.ls_seated.proofs.Seating.{free_some}
use Rattle.ls_seated.proofs.joining.seat_in.Goals as goal

pub index_of-index-requires : goal.index_of-index-requires
index_of-index-requires g c = omega (arith, c.requires.number, free_some c.args.sides.now.items)
