use Rattle.std.proofs.Common.{subst, sym, ◌-◌, None}
use Rattle.ls_cell.specs.Numbered.{EachSlot, StandsAll, set_slot}
use Rattle.ls_cell.specs.Standing.{IsSlotOf, StandsSlot}
use Rattle.ls_cell.specs.Cell.{StandsCell}
use Rattle.ls_cell.proofs.Changes.{each_set, stands_set}
use Rattle.ls_cell.proofs.Sound.{sound_slots}
use Rattle.ls_cell.proofs.CellStands.{stands_slots}
use Rattle.ls_cell.proofs.cell.ItemCell.leave.Goals as goal

pub invariant_of-self : goal.invariant_of-self
invariant_of-self c =
    sound_slots _ c.leave.new.self c.self.invariant
    (subst (EachSlot (IsSlotOf _ _ _)) (sym c.leave.ensures) (each_set (IsSlotOf _ _ _) _ (c.args.slot - 1) None
    c.self.invariant.slots tt))

pub returns-clause-stands : goal.returns-clause-stands
returns-clause-stands c = λ ss h st.
    let held = subst (λ v. StandsCell v ss h) (sym c.self.view_is) st in
    stands_slots _ c.leave.new.self ss (set_slot ss c.args.slot None) h held
    (subst (λ bs. StandsAll (StandsSlot c.self.inside.item.shape) bs (set_slot ss c.args.slot None) h)
    (sym c.leave.ensures)
    (stands_set (StandsSlot c.self.inside.item.shape) _ ss h (c.args.slot - 1) None None held.slots tt))
