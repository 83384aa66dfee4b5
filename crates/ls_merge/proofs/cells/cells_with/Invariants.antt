use Rattle.std.proofs.Common.{◌≡◌, ◌++◌, drop, length}
use Rattle.ls_value.specs.Values.{applied}
use Rattle.ls_event.specs.Cuts.{flagged_cells, touched_cells}
use Rattle.ls_merge.proofs.cells.cells_with.Given as goal

-- the cells so far and those that the rest gives are those of all fields
abbrev pub invariant-loop-i : goal.invariant-loop-i
invariant-loop-i l =
    (
    l.cells.items ++ flagged_cells (touched_cells (drop l.i l.flags) (drop l.i l.update)) (applied (drop l.i l.row) (drop l.i l.update))
    ≡ flagged_cells (touched_cells l.flags l.update) (applied l.row l.update)
    )
    × (length l.cells.items ≡ l.i)
