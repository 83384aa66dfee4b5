use Rattle.std.proofs.Common.{◌≡◌, ◌-◌, ◌^◌, take, min, sum_by}
use Rattle.ls_value.specs.Values.{weight_of_cell}
use Rattle.ls_item.proofs.weights.cells_weight.Given as goal

-- the bytes so far
abbrev pub invariant-loop-cell : goal.invariant-loop-cell
invariant-loop-cell l = l.bytes ≡ min (sum_by weight_of_cell (take l.cell-index l.cells)) (2 ^ 64 - 1)
