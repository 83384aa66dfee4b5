use Rattle.std.proofs.Common.{◌≡◌, ◌≤◌, ◌+◌, drop, length}
use Rattle.ls_cell.specs.Numbered.{free_number}
use Rattle.ls_cell.proofs.slots.free_from.Given as goal

abbrev pub invariant-loop-i : goal.invariant-loop-i
invariant-loop-i l = (l.i ≤ length l.slots) × (free_number l.slots ≡ l.i + free_number (drop l.i l.slots))
