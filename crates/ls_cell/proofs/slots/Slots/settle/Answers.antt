use Rattle.std.proofs.Common.{◌≤◌, subst}
use Rattle.ls_cell.specs.Any.{any_last}
use Rattle.ls_cell.specs.Numbered.{EachSlot}
use Rattle.ls_cell.proofs.slots.Slots.settle.Goals as goal

pub invariant_of-self : goal.invariant_of-self
invariant_of-self c =
    let i = c.self.invariant in (
      i.0,
      i.1,
      i.2,
      subst (EachSlot (λ b. c.least_last-self-inside.result ≤ any_last b)) c.deref.ensures.value c.least_last-self-inside.ensures,
    )
