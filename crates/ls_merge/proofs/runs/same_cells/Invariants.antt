use Rattle.std.proofs.Common.{◌≡◌, replicate}
use Rattle.ls_value.specs.declared.row.Cell.TheVariants as cell
use Rattle.ls_merge.proofs.runs.same_cells.Given as goal

abbrev pub invariant-loop : goal.invariant-loop
invariant-loop l = l.cells.items ≡ replicate l.counter cell.Same
