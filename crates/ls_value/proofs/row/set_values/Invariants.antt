use Rattle.std.proofs.Common.{◌≡◌, ◌≤◌, length}
use Rattle.ls_value.specs.Values.{applied}
use Rattle.ls_value.proofs.row.set_values.Given as goal

-- what the cells left make of the row is what all make of the first one
abbrev pub invariant-loop-cell : goal.invariant-loop-cell
invariant-loop-cell l = (length l.rest.items ≤ length l.row) × (applied l.row l.rest.items ≡ applied l.initial.row l.fn.cells.items)

-- a cell is taken away at each turn
abbrev pub decreases-loop-cell : goal.decreases-loop-cell
decreases-loop-cell l = length l.rest.items
