use Rattle.std.proofs.Common.{◌≡◌, ◌++◌, take, drop, length}
use Rattle.ls_value.specs.Values.{applied}
use Rattle.ls_value.proofs.reuse.set_all_after.Given as goal

-- the values so far and those to come are the whole row
abbrev pub invariant-loop-i : goal.invariant-loop-i
invariant-loop-i l = (length l.values ≡ length l.row) × (take l.i l.values ++ applied (drop l.i l.row) (drop l.i l.cells) ≡ applied l.row l.cells)
