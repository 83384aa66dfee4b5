-- Ranges of what lines tell: numbers, and texts that are UTF-8 (TLCP 2.1, notifications).
use Rattle.std.specs.Prelude.{◌≤◌, ℕ}
use Rattle.ls_value.specs.declared.limits.TheConstants.{GREATEST_ORDINAL}
use Rattle.ls_value.specs.declared.row.Cell.TheVariants as cell

-- a number of a subscription, an item or a field
pub record IsOrdinal (n : ℕ) : Type 0 where
  pub some : 1 ≤ n
  pub most : n ≤ GREATEST_ORDINAL
