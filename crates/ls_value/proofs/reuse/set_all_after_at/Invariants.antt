use Rattle.std.proofs.Common.{◌≡◌, ◌++◌, take, drop, length}
use Rattle.ls_value.specs.Values.{applied, projected_cells}
use Rattle.ls_value.proofs.reuse.set_all_after_at.Given as goal

-- the values so far and those to come are the whole row
abbrev pub invariant-loop-i : goal.invariant-loop-i
invariant-loop-i l = (length l.values ≡ length l.row)
    × (take l.i l.values ++ applied (drop l.i l.row) (projected_cells l.cells (drop l.i l.places))
    ≡ applied l.row (projected_cells l.cells l.places))
