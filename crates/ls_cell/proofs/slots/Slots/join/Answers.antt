use Rattle.std.proofs.Common.{◌≡◌, ◌<◌, ◌≤◌, ◌+◌, ◌∙◌, ap, arith, subst, sym}
use Rattle.ls_event.specs.declared.limits.TheConstants.{MOST_SLOTS}
use Rattle.ls_cell.specs.Any.{any_last}
use Rattle.ls_cell.specs.Numbered.{free_number, live_slots}
use Rattle.ls_cell.proofs.Changes.{free_low, length_put, live_put, free_put, each_put, each_weaker}
use Rattle.ls_cell.proofs.slots.Slots.join.Goals as goal

pub invariant_of-self-2 : goal.invariant_of-self-2
invariant_of-self-2 c =
    let few : live_slots c.self.inside.slots.items < MOST_SLOTS =
    subst (λ t. live_slots t < MOST_SLOTS) (sym c.self.view_is) c.requires in
    let free : c.free_from-index.result + 1 ≡ free_number c.self.inside.slots.items =
    c.free_from-index.ensures ∙ ap free_number c.deref.ensures.value in
    rw c.in_ok-put.ensures.ok (
      length_put _ _ MOST_SLOTS c.self.invariant.0 (omega (arith, few, free_low c.self.inside.slots.items)),
      omega (arith, c.self.invariant.1, live_put c.self.inside.slots.items c.args.buffer),
      omega (arith, free, free_put c.self.inside.slots.items c.args.buffer),
      each_put (λ b. c.min-self-inside.result ≤ any_last b) _ c.args.buffer
          (each_weaker (λ b. c.self.inside.least ≤ any_last b) (λ b. c.min-self-inside.result ≤ any_last b) (λ b most. omega (arith, most, c.min-self-inside.ensures)) _ c.self.invariant.3)
          (omega (arith, c.min-self-inside.ensures, c.last-last.ensures)),
    )

pub invariant_of-self : goal.invariant_of-self
invariant_of-self c = rw c.in_err-put.ensures.err c.self.invariant
