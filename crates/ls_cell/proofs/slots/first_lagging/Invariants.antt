use Rattle.std.proofs.Common.{◌≡◌, ◌+◌, drop}
use Rattle.ls_cell.specs.Any.{any_last}
use Rattle.ls_cell.specs.Numbered.{first_lagging}
use Rattle.ls_cell.proofs.slots.first_lagging.Given as goal

abbrev pub invariant-loop-i : goal.invariant-loop-i
invariant-loop-i l = first_lagging any_last l.number 1 l.slots ≡ first_lagging any_last l.number (l.i + 1) (drop l.i l.slots)
