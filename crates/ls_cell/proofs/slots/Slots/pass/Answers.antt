use Rattle.std.proofs.Common.{◌≤◌, ◌-◌, arith, subst, sym, IsSome, None, get_or}
use Rattle.std.proofs.lemmas.List.{length-set}
use Rattle.ls_cell.specs.Any.{any_cut, any_last}
use Rattle.ls_cell.specs.Numbered.{slot_at, EachSlot, StandsAll}
use Rattle.ls_cell.specs.Standing.{IsSlotOf, StandsSlot}
use Rattle.ls_cell.proofs.Changes.{each_set, slot_each, stands_set, slot_stands, live_at, live_kept, free_kept, some_of, read_live}
use Rattle.ls_cell.proofs.Least.{least_kept}
use Rattle.ls_cell.proofs.slots.Slots.pass.Goals as goal

pub invariant_of-self : goal.invariant_of-self
invariant_of-self c =
    let live : IsSome (get_or c.self.inside.slots.items (c.args.slot - 1) None) =
    live_at _ c.args.slot (subst (λ t. IsSome (slot_at t c.args.slot)) (sym c.self.view_is) (some_of any_cut _ c.requires)) in
    let i = c.self.invariant in
    let before : IsSome (slot_at c.self.inside.slots.items c.args.slot) =
    subst (λ t. IsSome (slot_at t c.args.slot)) (sym c.self.view_is) (some_of any_cut _ c.requires) in
    let read = read_live c.self.inside.slots.items c.args.slot _ before c.index_mut.ensures.value in
    let own = slot_each (λ b. c.self.inside.least ≤ any_last b) _ c.args.slot _ before c.index_mut.ensures.value i.3 in
    rw (
      length-set c.self.inside.slots.items (c.args.slot - 1) c.pass_at.new.slot,
      live_kept _ _ c.pass_at.new.slot live c.pass_at.ensures.live,
      free_kept _ _ c.pass_at.new.slot live c.pass_at.ensures.live,
    ) (
      i.0,
      i.1,
      i.2,
      each_set (λ b. c.self.inside.least ≤ any_last b) _ (c.args.slot - 1) _ i.3
          (least_kept c.self.inside.least _ c.pass_at.new.slot read (omega (arith, c.pass_at.ensures.last)) own),
    )

pub returns-clause-sound : goal.returns-clause-sound
returns-clause-sound c = λ p number kept each.
    let all : EachSlot (IsSlotOf p number kept) c.self.inside.slots.items =
    subst (EachSlot (IsSlotOf p number kept)) (sym c.self.view_is) each in
    let live : IsSome (slot_at c.self.inside.slots.items c.args.slot) =
    subst (λ t. IsSome (slot_at t c.args.slot)) (sym c.self.view_is) (some_of any_cut _ c.requires) in
    each_set (IsSlotOf p number kept) _ (c.args.slot - 1) _ all
    (c.pass_at.ensures.sound p number kept (slot_each (IsSlotOf p number kept) _ c.args.slot _ live
    c.index_mut.ensures.value all))

pub returns-clause-stands : goal.returns-clause-stands
returns-clause-stands c = λ p ss h s t st is next.
    let all : StandsAll (StandsSlot p) c.self.inside.slots.items ss h =
    subst (λ x. StandsAll (StandsSlot p) x ss h) (sym c.self.view_is) st in
    let live : IsSome (slot_at c.self.inside.slots.items c.args.slot) =
    subst (λ x. IsSome (slot_at x c.args.slot)) (sym c.self.view_is) (some_of any_cut _ c.requires) in
    stands_set (StandsSlot p) _ ss h (c.args.slot - 1) _ _ all
    (c.pass_at.ensures.stands p s h t (slot_stands (StandsSlot p) _ ss h c.args.slot _ s live c.index_mut.ensures.value
    all is) next)
