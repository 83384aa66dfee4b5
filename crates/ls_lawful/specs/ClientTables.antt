-- The table that a client keeps of an item, by the texts of a session's lines (TLCP 2.1, notifications).
use Rattle.std.specs.Prelude.{ℕ, List}
use Rattle.ls_line.specs.declared.line.Line.{Line as WireLine}
use Rattle.ls_mirror.specs.declared.table.Table.{Table}
use Rattle.ls_mirror.specs.Standing.{IsTableOf}
use Rattle.ls_lawful.specs.Lawful.{AreRead}

-- texts are read as lines, and of these a client makes this table of an item of a subscription
pub record HasTable (all : List (List ℕ)) (sub rank : ℕ) (t : Table) : Type 0 where
  pub lines : List WireLine
  pub read : AreRead all lines
  pub is : IsTableOf sub rank lines t
