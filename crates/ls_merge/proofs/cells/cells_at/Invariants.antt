use Rattle.std.proofs.Common.{◌≡◌, ◌++◌, drop, length}
use Rattle.ls_event.specs.Cuts.{flagged_cells}
use Rattle.ls_merge.proofs.cells.cells_at.Given as goal

abbrev pub invariant-loop-i : goal.invariant-loop-i
invariant-loop-i l = (l.cells.items ++ flagged_cells (drop l.i l.flags) (drop l.i l.row) ≡ flagged_cells l.flags l.row) × (length l.cells.items ≡ l.i)
