use Rattle.std.proofs.Common.{arith}
use Rattle.ls_cell.proofs.Changes.{free_from, free_long}
use Rattle.ls_cell.proofs.slots.free_from.Goals as goal

pub loop-i-init : goal.loop-i-init
loop-i-init c = (omega (arith, c.requires, free_long c.args.slots.now), free_from _ _ c.requires)
