use Rattle.std.proofs.Common.{◌≡◌, ◌++◌, drop}
use Rattle.ls_event.specs.Cuts.{flagged_cells}
use Rattle.ls_plain.proofs.merge.cells_at.Given as goal

-- the cells so far and those that the rest gives are those of all fields
abbrev pub invariant-loop-i : goal.invariant-loop-i
invariant-loop-i l = l.cells.items ++ flagged_cells (drop l.i l.flags) (drop l.i l.row) ≡ flagged_cells l.flags l.row
