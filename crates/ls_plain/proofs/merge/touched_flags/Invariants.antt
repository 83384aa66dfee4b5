use Rattle.std.proofs.Common.{◌≡◌, ◌++◌, drop}
use Rattle.ls_event.specs.Cuts.{touched_cells}
use Rattle.ls_plain.proofs.merge.touched_flags.Given as goal

-- the flags so far and those that the rest gives are those of all cells
abbrev pub invariant-loop-i : goal.invariant-loop-i
invariant-loop-i l = l.touched.items ++ touched_cells (drop l.i l.flags) (drop l.i l.cells) ≡ touched_cells l.flags l.cells
