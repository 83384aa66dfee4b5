-- With what a subscription began, as the entry of its line tells contracts (TLCP 2.1, SUBOK and SUBCMD).
use Rattle.std.specs.Prelude.{ℕ, List}
use Rattle.ls_register.specs.declared.begun.SlotBegun.{SlotBegun}

-- the names of its fields, and its slots in the order of its items, from rank 1 on
pub record BegunSeen : Type 0 where
  pub schema : List (List ℕ)
  pub slots : List SlotBegun
