-- A number that no slot's last one is below.
use Rattle.std.proofs.Common.{ℕ, ◌≤◌, Option, None, Some, IsSome, arith}
use Rattle.ls_cell.specs.Any.{any_last}
use Rattle.ls_cell.specs.Numbered.{IsAt}
use Rattle.ls_cell.specs.Standing.{last_at}
use Rattle.ls_cell.specs.declared.any.AnyBuffer.{AnyBuffer}

-- it stays so where a slot's last number doesn't fall
pub least_kept : (least : ℕ) (a b : Option AnyBuffer) → IsSome a → last_at a ≤ last_at b → IsAt (λ x. least ≤ any_last x) a
    → IsAt (λ x. least ≤ any_last x) b
least_kept least a None some rises at = tt
least_kept least None (Some b) some rises at = cc
least_kept least (Some a) (Some b) some rises at = omega (arith, rises, at)
