use Rattle.std.proofs.Common.{◌≡◌, take}
use Rattle.ls_event.specs.Updates.{own_row}
use Rattle.ls_event.proofs.orders.own_values.Given as goal

-- the values of the cells so far
abbrev pub invariant-loop-cell : goal.invariant-loop-cell
invariant-loop-cell l = l.values.items ≡ own_row (take l.cell-index l.cells)
