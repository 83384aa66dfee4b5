use Rattle.std.proofs.Common.{◌≡◌, ◌++◌, drop}
use Rattle.ls_value.specs.Values.{applied}
use Rattle.ls_plain.proofs.keyed.values_after.Given as goal

-- the values so far and those that the rest gives are those of the whole row
abbrev pub invariant-loop-i : goal.invariant-loop-i
invariant-loop-i l = l.values.items ++ applied (drop l.i l.row) (drop l.i l.cells) ≡ applied l.row l.cells
