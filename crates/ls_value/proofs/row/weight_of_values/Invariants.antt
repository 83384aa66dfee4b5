use Rattle.std.proofs.Common.{◌≡◌, ◌-◌, ◌^◌, take, min}
use Rattle.ls_value.specs.Values.{weight_of}
use Rattle.ls_value.proofs.row.weight_of_values.Given as goal

abbrev pub invariant-loop-value : goal.invariant-loop-value
invariant-loop-value l = l.bytes ≡ min (weight_of (take l.value-index l.values)) (2 ^ 64 - 1)
