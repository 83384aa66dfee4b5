use Rattle.std.proofs.Common.{subst, sym, ap, ◌∙◌, ◌≡◌, ◌+◌, ◌-◌, ◌≤◌, None, IsSome, get_or, arith}
use Rattle.std.proofs.lemmas.List.{length-set}
use Rattle.std.specs.Option.{ForSome}
use Rattle.ls_cell.specs.Any.{AnyAdmits, any_last}
use Rattle.ls_cell.specs.Numbered.{slot_at, set_slot, IsAt, EachSlot, StandsAll}
use Rattle.ls_cell.specs.Standing.{IsSlotOf, StandsSlot, last_at}
use Rattle.ls_cell.proofs.Changes.{here, put_there, each_set, slot_each, stands_set, slot_stands, live_at, live_kept, free_kept, read_live}
use Rattle.ls_cell.proofs.Least.{least_kept}
use Rattle.ls_cell.proofs.slots.Slots.enqueue.Goals as goal

pub enqueue_at-requires-clause-live : goal.enqueue_at-requires-clause-live
enqueue_at-requires-clause-live c = subst (λ o. IsSome o) (sym (here c.self.inside.slots.items c.args.self.now c.args.slot c.index_mut.result.now
    c.self.view_is c.requires.live c.index_mut.ensures.value)) c.requires.live

pub enqueue_at-requires-clause-next : goal.enqueue_at-requires-clause-next
enqueue_at-requires-clause-next c = subst (λ o. c.args.event.now.no ≡ last_at o + 1) (sym (here c.self.inside.slots.items c.args.self.now c.args.slot c.index_mut.result.now
    c.self.view_is c.requires.live c.index_mut.ensures.value)) c.requires.next

pub enqueue_at-requires-clause-admits : goal.enqueue_at-requires-clause-admits
enqueue_at-requires-clause-admits c =
    subst (λ o. ForSome o (λ b. AnyAdmits b c.args.event.now.event)) (sym (here c.self.inside.slots.items c.args.self.now c.args.slot c.index_mut.result.now
    c.self.view_is c.requires.live c.index_mut.ensures.value)) c.requires.admits

pub returns-clause-one : goal.returns-clause-one
returns-clause-one c =
    let put = sym (put_there c.self.inside.slots.items c.args.self.now c.args.slot c.enqueue_at.new.slot c.self.view_is c.requires.live) in
    λ k. set_slot (c.self.view_is k) c.args.slot (put k)

pub returns-clause-live : goal.returns-clause-live
returns-clause-live c =
    let put = put_there c.self.inside.slots.items c.args.self.now c.args.slot c.enqueue_at.new.slot c.self.view_is c.requires.live in
    subst (λ o. IsSome o) (sym put) c.in_ok-enqueue_at.ensures.live

pub returns-clause-last : goal.returns-clause-last
returns-clause-last c =
    let put = put_there c.self.inside.slots.items c.args.self.now c.args.slot c.enqueue_at.new.slot c.self.view_is c.requires.live in
    ap last_at put ∙ c.in_ok-enqueue_at.ensures.last

pub invariant_of-self : goal.invariant_of-self
invariant_of-self c =
    let live : IsSome (get_or c.self.inside.slots.items (c.args.slot - 1) None) =
    live_at _ c.args.slot (subst (λ t. IsSome (slot_at t c.args.slot)) (sym c.self.view_is) c.requires.live) in
    let new : IsSome c.enqueue_at.new.slot = subst (λ o. IsSome o) (sym (c.in_err-enqueue_at.ensures.err ∙ here c.self.inside.slots.items c.args.self.now c.args.slot c.index_mut.result.now
    c.self.view_is c.requires.live c.index_mut.ensures.value)) c.requires.live in
    let i = c.self.invariant in
    let before : IsSome (slot_at c.self.inside.slots.items c.args.slot) =
    subst (λ t. IsSome (slot_at t c.args.slot)) (sym c.self.view_is) c.requires.live in
    let own = slot_each (λ b. c.self.inside.least ≤ any_last b) _ c.args.slot _ before c.index_mut.ensures.value i.3 in
    rw (
      length-set c.self.inside.slots.items (c.args.slot - 1) c.enqueue_at.new.slot,
      live_kept _ _ c.enqueue_at.new.slot live new,
      free_kept _ _ c.enqueue_at.new.slot live new,
    ) (
      i.0,
      i.1,
      i.2,
      each_set (λ b. c.self.inside.least ≤ any_last b) _ (c.args.slot - 1) _ i.3
          (subst (IsAt (λ b. c.self.inside.least ≤ any_last b)) (sym c.in_err-enqueue_at.ensures.err) own),
    )

pub invariant_of-self-2 : goal.invariant_of-self-2
invariant_of-self-2 c =
    let live : IsSome (get_or c.self.inside.slots.items (c.args.slot - 1) None) =
    live_at _ c.args.slot (subst (λ t. IsSome (slot_at t c.args.slot)) (sym c.self.view_is) c.requires.live) in
    let i = c.self.invariant in
    let before : IsSome (slot_at c.self.inside.slots.items c.args.slot) =
    subst (λ t. IsSome (slot_at t c.args.slot)) (sym c.self.view_is) c.requires.live in
    let read = read_live c.self.inside.slots.items c.args.slot _ before c.index_mut.ensures.value in
    let own = slot_each (λ b. c.self.inside.least ≤ any_last b) _ c.args.slot _ before c.index_mut.ensures.value i.3 in
    let stood = here c.self.inside.slots.items c.args.self.now c.args.slot c.index_mut.result.now c.self.view_is c.requires.live
    c.index_mut.ensures.value in
    let rises : last_at c.index_mut.result.now ≤ last_at c.enqueue_at.new.slot =
    omega (arith, ap last_at stood, c.requires.next, c.in_ok-enqueue_at.ensures.last) in
    rw (
      length-set c.self.inside.slots.items (c.args.slot - 1) c.enqueue_at.new.slot,
      live_kept _ _ c.enqueue_at.new.slot live c.in_ok-enqueue_at.ensures.live,
      free_kept _ _ c.enqueue_at.new.slot live c.in_ok-enqueue_at.ensures.live,
    ) (
      i.0,
      i.1,
      i.2,
      each_set (λ b. c.self.inside.least ≤ any_last b) _ (c.args.slot - 1) _ i.3
          (least_kept c.self.inside.least _ c.enqueue_at.new.slot read rises own),
    )

pub returns-clause-sound : goal.returns-clause-sound
returns-clause-sound c = λ p number kept low fields after each.
    let all : EachSlot (IsSlotOf p number kept) c.self.inside.slots.items =
    subst (EachSlot (IsSlotOf p number kept)) (sym c.self.view_is) each in
    let live : IsSome (slot_at c.self.inside.slots.items c.args.slot) =
    subst (λ t. IsSome (slot_at t c.args.slot)) (sym c.self.view_is) c.requires.live in
    each_set (IsSlotOf p number kept) _ (c.args.slot - 1) _ all
    (c.in_ok-enqueue_at.ensures.sound p number kept low fields after
    (slot_each (IsSlotOf p number kept) _ c.args.slot _ live c.index_mut.ensures.value all))

pub returns-clause-stands : goal.returns-clause-stands
returns-clause-stands c = λ p ss h s st is next.
    let all : StandsAll (StandsSlot p) c.self.inside.slots.items ss h =
    subst (λ t. StandsAll (StandsSlot p) t ss h) (sym c.self.view_is) st in
    let live : IsSome (slot_at c.self.inside.slots.items c.args.slot) =
    subst (λ t. IsSome (slot_at t c.args.slot)) (sym c.self.view_is) c.requires.live in
    stands_set (StandsSlot p) _ ss h (c.args.slot - 1) _ _ all
    (c.in_ok-enqueue_at.ensures.stands p s h (slot_stands (StandsSlot p) _ ss h c.args.slot _ s live
    c.index_mut.ensures.value all is) next)
