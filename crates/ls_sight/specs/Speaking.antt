-- What contracts see of a session in threads (this project's profile).
use Rattle.std.specs.Prelude.{ℕ, List, Option}
use Rattle.atomic_table.specs.Seated.{TableId}
use Rattle.ls_register.specs.Places.{Placed}
use Rattle.ls_register.specs.Watches.{Watched}
use Rattle.ls_register.specs.declared.told.Told.{Told}

-- a session: its number, its place in the register, where it has one, the table on which its history stands, its
-- history, and what it has seen of its items
pub record Speaking : Type 0 where
  pub number : ℕ
  pub place : Option Placed
  pub table : TableId
  pub lines : List Told
  pub watches : List Watched
