use Rattle.std.proofs.Common.{subst, sym, ◌∙◌}
use Rattle.ls_cell.specs.Standing.{StandsSlot}
use Rattle.ls_cell.specs.Cell.{StandsCell}
use Rattle.ls_cell.proofs.Recorded.{same_has}
use Rattle.ls_cell.proofs.cell.ItemCell.has.Goals as goal

pub returns-clause-records : goal.returns-clause-records
returns-clause-records c = λ ss h st.
    let held = subst (λ v. StandsCell v ss h) (sym c.self.view_is) st in
    c.has.ensures ∙ same_has (StandsSlot c.self.inside.item.shape) c.self.inside.slots ss h c.args.slot held.slots
