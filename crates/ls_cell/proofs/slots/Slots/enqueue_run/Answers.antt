use Rattle.std.proofs.Common.{subst, sym, ap, ◌∙◌, ◌+◌, ◌-◌, ◌≤◌, None, IsSome, All, get_or, length, drop, arith}
use Rattle.std.proofs.lemmas.List.{length-set}
use Rattle.std.specs.Option.{ForSome}
use Rattle.ls_value.specs.declared.limits.TheConstants.{GREATEST_NUMBER}
use Rattle.ls_event.specs.declared.event.Stored.{Stored}
use Rattle.ls_cell.specs.Any.{AnyAdmits, any_last}
use Rattle.ls_cell.specs.Numbered.{slot_at, set_slot, IsAt, EachSlot, StandsAll}
use Rattle.ls_cell.specs.Standing.{IsSlotOf, StandsSlot, last_at}
use Rattle.ls_cell.proofs.Changes.{each_set, slot_each, stands_set, slot_stands, live_at, live_kept, free_kept, read_live, here, put_there}
use Rattle.ls_cell.proofs.Least.{least_kept}
use Rattle.ls_cell.proofs.slots.Slots.enqueue_run.Goals as goal

pub enqueue_run_at-requires-clause-live : goal.enqueue_run_at-requires-clause-live
enqueue_run_at-requires-clause-live c = subst (λ o. IsSome o) (sym (here c.self.inside.slots.items c.args.self.now c.args.slot c.index_mut.result.now
    c.self.view_is c.requires.live c.index_mut.ensures.value)) c.requires.live

pub enqueue_run_at-requires-clause-few : goal.enqueue_run_at-requires-clause-few
enqueue_run_at-requires-clause-few c =
    subst (λ o. last_at o + (length c.args.events.now.items - c.args.from) ≤ GREATEST_NUMBER) (sym (here c.self.inside.slots.items c.args.self.now c.args.slot c.index_mut.result.now
    c.self.view_is c.requires.live c.index_mut.ensures.value)) c.requires.few

pub enqueue_run_at-requires-clause-admits : goal.enqueue_run_at-requires-clause-admits
enqueue_run_at-requires-clause-admits c =
    subst (λ o. ForSome o (λ b. All (λ (x : Stored). AnyAdmits b x.event) (drop c.args.from c.args.events.now.items))) (sym (here c.self.inside.slots.items c.args.self.now c.args.slot c.index_mut.result.now
    c.self.view_is c.requires.live c.index_mut.ensures.value)) c.requires.admits

pub returns-clause-one : goal.returns-clause-one
returns-clause-one c =
    let put = sym (put_there c.self.inside.slots.items c.args.self.now c.args.slot c.enqueue_run_at.new.slot c.self.view_is c.requires.live) in
    λ k. set_slot (c.self.view_is k) c.args.slot (put k)

pub returns-clause-live : goal.returns-clause-live
returns-clause-live c =
    let put = put_there c.self.inside.slots.items c.args.self.now c.args.slot c.enqueue_run_at.new.slot c.self.view_is c.requires.live in
    subst (λ o. IsSome o) (sym put) c.in_ok-taken.ensures.live

pub returns-clause-last : goal.returns-clause-last
returns-clause-last c =
    let put = put_there c.self.inside.slots.items c.args.self.now c.args.slot c.enqueue_run_at.new.slot c.self.view_is c.requires.live in
    ap last_at put ∙ c.in_ok-taken.ensures.last
    ∙ ap (λ o. last_at o + c.in_ok-taken.taken) (here c.self.inside.slots.items c.args.self.now c.args.slot c.index_mut.result.now
    c.self.view_is c.requires.live c.index_mut.ensures.value)

pub invariant_of-self : goal.invariant_of-self
invariant_of-self c =
    let live : IsSome (get_or c.self.inside.slots.items (c.args.slot - 1) None) =
    live_at _ c.args.slot (subst (λ t. IsSome (slot_at t c.args.slot)) (sym c.self.view_is) c.requires.live) in
    let new : IsSome c.enqueue_run_at.new.slot = subst (λ o. IsSome o) (sym (c.in_err-taken.ensures.err ∙ here c.self.inside.slots.items c.args.self.now c.args.slot c.index_mut.result.now
    c.self.view_is c.requires.live c.index_mut.ensures.value)) c.requires.live in
    let i = c.self.invariant in
    let before : IsSome (slot_at c.self.inside.slots.items c.args.slot) =
    subst (λ t. IsSome (slot_at t c.args.slot)) (sym c.self.view_is) c.requires.live in
    let own = slot_each (λ b. c.self.inside.least ≤ any_last b) _ c.args.slot _ before c.index_mut.ensures.value i.3 in
    rw (
      length-set c.self.inside.slots.items (c.args.slot - 1) c.enqueue_run_at.new.slot,
      live_kept _ _ c.enqueue_run_at.new.slot live new,
      free_kept _ _ c.enqueue_run_at.new.slot live new,
    ) (
      i.0,
      i.1,
      i.2,
      each_set (λ b. c.self.inside.least ≤ any_last b) _ (c.args.slot - 1) _ i.3
          (subst (IsAt (λ b. c.self.inside.least ≤ any_last b)) (sym c.in_err-taken.ensures.err) own),
    )

pub invariant_of-self-2 : goal.invariant_of-self-2
invariant_of-self-2 c =
    let live : IsSome (get_or c.self.inside.slots.items (c.args.slot - 1) None) =
    live_at _ c.args.slot (subst (λ t. IsSome (slot_at t c.args.slot)) (sym c.self.view_is) c.requires.live) in
    let i = c.self.invariant in
    let before : IsSome (slot_at c.self.inside.slots.items c.args.slot) =
    subst (λ t. IsSome (slot_at t c.args.slot)) (sym c.self.view_is) c.requires.live in
    let read = read_live c.self.inside.slots.items c.args.slot _ before c.index_mut.ensures.value in
    let own = slot_each (λ b. c.self.inside.least ≤ any_last b) _ c.args.slot _ before c.index_mut.ensures.value i.3 in
    let rises : last_at c.index_mut.result.now ≤ last_at c.enqueue_run_at.new.slot =
    omega (arith, c.in_ok-taken.ensures.last) in
    rw (
      length-set c.self.inside.slots.items (c.args.slot - 1) c.enqueue_run_at.new.slot,
      live_kept _ _ c.enqueue_run_at.new.slot live c.in_ok-taken.ensures.live,
      free_kept _ _ c.enqueue_run_at.new.slot live c.in_ok-taken.ensures.live,
    ) (
      i.0,
      i.1,
      i.2,
      each_set (λ b. c.self.inside.least ≤ any_last b) _ (c.args.slot - 1) _ i.3
          (least_kept c.self.inside.least _ c.enqueue_run_at.new.slot read rises own),
    )

pub returns-clause-sound : goal.returns-clause-sound
returns-clause-sound c = λ p number kept low each.
    let all : EachSlot (IsSlotOf p number kept) c.self.inside.slots.items =
    subst (EachSlot (IsSlotOf p number kept)) (sym c.self.view_is) each in
    let live : IsSome (slot_at c.self.inside.slots.items c.args.slot) =
    subst (λ t. IsSome (slot_at t c.args.slot)) (sym c.self.view_is) c.requires.live in
    each_set (IsSlotOf p number kept) _ (c.args.slot - 1) _ all
    (c.in_ok-taken.ensures.sound p number kept (subst (λ o. last_at o + c.in_ok-taken.taken ≤ number) (sym (here c.self.inside.slots.items c.args.self.now c.args.slot c.index_mut.result.now
    c.self.view_is c.requires.live c.index_mut.ensures.value)) low)
    (slot_each (IsSlotOf p number kept) _ c.args.slot _ live c.index_mut.ensures.value all))

pub returns-clause-stands : goal.returns-clause-stands
returns-clause-stands c = λ p ss h s st is run.
    let all : StandsAll (StandsSlot p) c.self.inside.slots.items ss h =
    subst (λ t. StandsAll (StandsSlot p) t ss h) (sym c.self.view_is) st in
    let live : IsSome (slot_at c.self.inside.slots.items c.args.slot) =
    subst (λ t. IsSome (slot_at t c.args.slot)) (sym c.self.view_is) c.requires.live in
    stands_set (StandsSlot p) _ ss h (c.args.slot - 1) _ _ all
    (c.in_ok-taken.ensures.stands p s h (slot_stands (StandsSlot p) _ ss h c.args.slot _ s live
    c.index_mut.ensures.value all is) run)
