use Rattle.std.proofs.Common.{◌≡◌, take}
use Rattle.ls_value.specs.Each.{Each}
use Rattle.ls_value.specs.Textual.{IsTextual}
use Rattle.ls_value.proofs.row.copy_cells.Given as goal

abbrev pub invariant-loop-cell : goal.invariant-loop-cell
invariant-loop-cell l = record {
  copied : l.copied.items ≡ take l.cell-index l.cells;
  textual : Each IsTextual l.copied.items;
}
