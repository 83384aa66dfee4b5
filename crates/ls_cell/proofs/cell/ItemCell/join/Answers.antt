use Rattle.std.proofs.Common.{subst, sym, ap, ◌∙◌, IsSome, is_some}
use Rattle.ls_event.specs.Slots.{Slot}
use Rattle.ls_event.specs.Joining.{plan_of, joined, rows_asked}
use Rattle.ls_cell.specs.Numbered.{slot_at, put_slot, free_number, EachSlot, StandsAll}
use Rattle.ls_cell.specs.Standing.{IsSlotOf, StandsSlot}
use Rattle.ls_cell.specs.Cell.{Held, StandsCell}
use Rattle.ls_cell.proofs.Changes.{each_put, stands_put, same_free, put_at}
use Rattle.ls_cell.proofs.Sound.{sound_slots}
use Rattle.ls_cell.proofs.Arrivals.{slot_joined, stands_joined}
use Rattle.ls_cell.proofs.CellStands.{stands_slots}
use Rattle.ls_cell.proofs.cell.ItemCell.join.Goals as goal

pub invariant_of-self-2 : goal.invariant_of-self-2
invariant_of-self-2 c =
    sound_slots _ c.join.new.self c.self.invariant
    (subst (EachSlot (IsSlotOf _ _ _)) (sym c.in_ok-slot.ensures.ok)
    (each_put (IsSlotOf _ _ _) _ c.in_ok-buffer.buffer c.self.invariant.slots
    (slot_joined _ _ _ c.in_ok-buffer.ensures)))

pub returns-clause-records : goal.returns-clause-records
returns-clause-records c = λ ss h st.
    let held = subst (λ v. StandsCell v ss h) (sym c.self.view_is) st in
    ap (λ n. record { slot = n; base = c.self.inside.number })
    (c.in_ok-slot.ensures.number ∙ same_free (StandsSlot c.self.inside.item.shape) _ ss h held.slots)
    ∙ ap (λ n. record { slot = free_number ss; base = n }) held.number

pub returns-clause-live : goal.returns-clause-live
returns-clause-live c =
    subst (λ bs. IsSome (slot_at bs c.in_ok-slot.slot)) (sym c.in_ok-slot.ensures.ok)
    (ap is_some (ap (slot_at (put_slot c.self.inside.slots c.in_ok-buffer.buffer)) c.in_ok-slot.ensures.number
    ∙ put_at c.self.inside.slots c.in_ok-buffer.buffer))

pub returns-clause-stands : goal.returns-clause-stands
returns-clause-stands c = λ ss h st.
    let held = subst (λ v. StandsCell v ss h) (sym c.self.view_is) st in
    let r : Slot = joined (plan_of c.self.inside.item.shape h c.args.mode c.args.n) h (rows_asked c.args.snapshot) in
    let all : StandsAll (StandsSlot c.self.inside.item.shape) c.join.new.self (put_slot ss r) h =
    subst (λ bs. StandsAll (StandsSlot c.self.inside.item.shape) bs (put_slot ss r) h)
    (sym c.in_ok-slot.ensures.ok)
    (stands_put (StandsSlot c.self.inside.item.shape) _ ss h c.in_ok-buffer.buffer r held.slots
    (stands_joined _ _ h c.in_ok-buffer.ensures held.number held.state)) in
    let new : Held = record {
      item = c.self.inside.item;
      number = c.self.inside.number;
      tail =
          c.self.inside.tail.items;
      seqs = c.self.inside.seqs.items;
      slots = c.join.new.self;
    } in
    subst (λ (v : Held). StandsCell new
    (put_slot ss (joined (plan_of v.item.shape h c.args.mode c.args.n) h (rows_asked c.args.snapshot))) h)
    c.self.view_is
    (stands_slots _ c.join.new.self ss (put_slot ss r) h held all)
