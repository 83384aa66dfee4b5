use Rattle.std.proofs.Common.{subst, sym, ◌∙◌}
use Rattle.ls_cell.specs.Standing.{StandsSlot}
use Rattle.ls_cell.specs.Cell.{StandsCell}
use Rattle.ls_cell.proofs.Changes.{same_live}
use Rattle.ls_cell.proofs.cell.ItemCell.slots.Goals as goal

pub returns-clause-records : goal.returns-clause-records
returns-clause-records c = λ ss h st.
    let held = subst (λ v. StandsCell v ss h) (sym c.self.view_is) st in
    c.live.ensures ∙ same_live (StandsSlot c.self.inside.item.shape) c.self.inside.slots ss h held.slots
