use Rattle.std.proofs.Common.{◌≡◌, ◌++◌, take, drop}
use Rattle.ls_event.specs.Cuts.{touched_cells}
use Rattle.ls_merge.proofs.cells.touch.Given as goal

-- the flags so far and those that the rest gives are those of all cells
abbrev pub invariant-loop-i : goal.invariant-loop-i
invariant-loop-i l = take l.i l.flags ++ touched_cells (drop l.i l.flags) (drop l.i l.cells) ≡ touched_cells l.initial.flags l.cells
