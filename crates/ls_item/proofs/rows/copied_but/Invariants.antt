use Rattle.std.proofs.Common.{◌≡◌, set, take}
use Rattle.ls_value.specs.declared.row.Cell.TheVariants as cell
use Rattle.ls_item.proofs.rows.copied_but.Given as goal

-- the cells so far are copied, but for the one at the place
abbrev pub invariant-loop-i : goal.invariant-loop-i
invariant-loop-i l = l.kept.items ≡ take l.i (set l.cells l.place cell.Null)
