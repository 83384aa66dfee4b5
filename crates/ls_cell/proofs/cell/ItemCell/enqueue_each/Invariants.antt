use Rattle.ls_cell.specs.Cell.{Going}
use Rattle.ls_cell.proofs.cell.ItemCell.enqueue_each.Given as goal

abbrev pub invariant-loop : goal.invariant-loop
invariant-loop l = Going l.initial.self l.self l.slot l.counter
