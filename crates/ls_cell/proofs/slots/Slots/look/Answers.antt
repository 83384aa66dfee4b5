use Rattle.std.proofs.Common.{subst, sym, IsSome, ◌∙◌, ap, option_and_then}
use Rattle.ls_cell.specs.Any.{any_cut}
use Rattle.ls_cell.specs.Numbered.{slot_at, EachSlot}
use Rattle.ls_cell.specs.Standing.{IsSlotOf}
use Rattle.ls_cell.proofs.Changes.{slot_read, slot_each}
use Rattle.ls_cell.proofs.slots.Slots.look.Goals as goal

pub returns-clause-head : goal.returns-clause-head
returns-clause-head c =
    let live : IsSome (slot_at c.self.inside.slots.items c.args.slot) =
    subst (λ t. IsSome (slot_at t c.args.slot)) (sym c.self.view_is) c.requires in
    c.in_ok-taken.ensures.head ∙ ap (option_and_then any_cut) (slot_read _ c.args.slot _ live c.index.ensures)
    ∙ ap (λ t. option_and_then any_cut (slot_at t c.args.slot)) c.self.view_is

pub returns-clause-fits : goal.returns-clause-fits
returns-clause-fits c = λ p number kept each.
    let all : EachSlot (IsSlotOf p number kept) c.self.inside.slots.items =
    subst (EachSlot (IsSlotOf p number kept)) (sym c.self.view_is) each in
    let live : IsSome (slot_at c.self.inside.slots.items c.args.slot) =
    subst (λ t. IsSome (slot_at t c.args.slot)) (sym c.self.view_is) c.requires in
    c.in_ok-taken.ensures.fits p number kept (slot_each (IsSlotOf p number kept) _ c.args.slot _ live c.index.ensures
    all)
