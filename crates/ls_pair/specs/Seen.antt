-- What a contract sees of a side of a tie.
use Rattle.std.specs.Prelude.{List}
use Rattle.atomic_table.specs.Seated.{TableId}

-- the table on which the tie stands, and the cuts that were passed
pub record Seen (E : Type 0) : Type 0 where
  pub table : TableId
  pub list : List E
