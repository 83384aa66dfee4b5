use Rattle.std.proofs.Common.{◌≤◌, ◌-◌, IsSome, None, arith, get_or, subst, sym}
use Rattle.std.proofs.lemmas.List.{length-set}
use Rattle.ls_cell.specs.Any.{any_last}
use Rattle.ls_cell.specs.Numbered.{slot_at}
use Rattle.ls_cell.proofs.Changes.{each_set, live_at, live_left, free_left}
use Rattle.ls_cell.proofs.slots.Slots.leave.Goals as goal

pub overflow_sub-self : goal.overflow_sub-self
overflow_sub-self c =
    let live : IsSome (get_or c.self.inside.slots.items (c.args.slot - 1) None) =
    live_at _ c.args.slot (subst (λ t. IsSome (slot_at t c.args.slot)) (sym c.self.view_is) c.requires) in
    omega (arith, c.self.invariant.1, live_left c.self.inside.slots.items (c.args.slot - 1) live)

pub invariant_of-self : goal.invariant_of-self
invariant_of-self c =
    let live : IsSome (get_or c.self.inside.slots.items (c.args.slot - 1) None) =
    live_at _ c.args.slot (subst (λ t. IsSome (slot_at t c.args.slot)) (sym c.self.view_is) c.requires) in (
      omega (arith, c.self.invariant.0, length-set c.self.inside.slots.items (c.args.slot - 1) None),
      omega (arith, c.self.invariant.1, live_left c.self.inside.slots.items (c.args.slot - 1) live),
      free_left _ _ _ (omega (arith, c.min-self-inside.ensures, c.self.invariant.2))
          (omega (arith, c.min-self-inside.ensures)),
      each_set (λ b. c.self.inside.least ≤ any_last b) _ (c.args.slot - 1) None c.self.invariant.3 tt,
    )
