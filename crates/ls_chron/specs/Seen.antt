-- What a contract sees of a writer or a reader of a shared history.
use Rattle.std.specs.Prelude.{List}
use Rattle.atomic_table.specs.Seated.{TableId}

-- the table on which the history stands, and a beginning of the history, which for the writer is the whole
pub record Seen (E : Type 0) : Type 0 where
  pub table : TableId
  pub list : List E
