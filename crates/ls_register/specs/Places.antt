-- Places in the register.
use Rattle.std.specs.Prelude.{ℕ, List}
use Rattle.ls_register.specs.declared.made.Made.{Made}

-- a place, from 0, and a beginning of the register that has it
pub record Placed : Type 0 where
  pub at : ℕ
  pub list : List Made
