-- What was seen of an item.
use Rattle.std.specs.Prelude.{ℕ, List}
use Rattle.atomic_table.specs.Seated.{TableId}
use Rattle.ls_event.specs.declared.event.Entry.{Entry}

-- an item, by its number from 0 and its place in the register, the table on which its history stands, and what was seen
-- of the history
pub record Watched : Type 0 where
  pub item : ℕ
  pub at : ℕ
  pub table : TableId
  pub list : List Entry
