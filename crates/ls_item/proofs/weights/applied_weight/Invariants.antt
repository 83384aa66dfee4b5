use Rattle.std.proofs.Common.{◌≡◌, ◌≤◌, ◌+◌, ◌-◌, ◌^◌, drop, min}
use Rattle.ls_value.specs.Values.{weight_of, applied}
use Rattle.ls_item.proofs.weights.applied_weight.Given as goal

-- the bytes so far and those of the rest are those of all
abbrev pub invariant-loop-i : goal.invariant-loop-i
invariant-loop-i l = (l.bytes ≤ 2 ^ 64 - 1)
    × (min (l.bytes + weight_of (applied (drop l.i l.row) (drop l.i l.cells))) (2 ^ 64 - 1) ≡ min (weight_of (applied l.row l.cells)) (2 ^ 64 - 1))
