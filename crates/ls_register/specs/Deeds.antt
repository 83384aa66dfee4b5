-- By what all of one server know it.
use Rattle.std.specs.Prelude.{ℕ, List, []}
use Rattle.atomic_table.specs.Seated.{TableId}
use Rattle.ls_event.specs.declared.item.ItemDef.{ItemDef}
use Rattle.ls_register.specs.Tables.{no_table}

-- the table on which the register stands, the name of the adapter set, and the items as they are declared
pub record Deed : Type 0 where
  pub register : TableId
  pub set : List ℕ
  pub config : List ItemDef

abbrev pub no_deed : Deed
no_deed = record { register = no_table; set = []; config = [] }
