use Rattle.std.proofs.Common.{subst, sym, Some}
use Rattle.ls_event.specs.Slots.{passed}
use Rattle.ls_cell.specs.Numbered.{set_slot}
use Rattle.ls_cell.specs.Cell.{StandsCell}
use Rattle.ls_cell.proofs.Sound.{sound_slots}
use Rattle.ls_cell.proofs.CellStands.{stands_slots}
use Rattle.ls_cell.proofs.cell.ItemCell.pass.Goals as goal

pub invariant_of-self : goal.invariant_of-self
invariant_of-self c = sound_slots _ c.pass.new.self c.self.invariant (c.pass.ensures.sound _ _ _ c.self.invariant.slots)

pub returns-clause-stands : goal.returns-clause-stands
returns-clause-stands c = λ ss h s t st is next.
    let held = subst (λ v. StandsCell v ss h) (sym c.self.view_is) st in
    stands_slots _ c.pass.new.self ss (set_slot ss c.args.slot (Some (passed s t))) h held
    (c.pass.ensures.stands _ ss h s t held.slots is next)
