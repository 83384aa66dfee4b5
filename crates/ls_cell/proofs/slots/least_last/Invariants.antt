use Rattle.std.proofs.Common.{ℕ, ◌≤◌, drop}
use Rattle.ls_cell.specs.Any.{any_last}
use Rattle.ls_cell.specs.Numbered.{EachSlot}
use Rattle.ls_cell.proofs.slots.least_last.Given as goal

abbrev pub invariant-loop-i : goal.invariant-loop-i
invariant-loop-i l = (m : ℕ) → m ≤ l.least → EachSlot (λ b. m ≤ any_last b) (drop l.i l.slots)
    → EachSlot (λ b. m ≤ any_last b) l.slots
