-- What a register says of the items of a server (this project's profile).
use Rattle.std.specs.Prelude.{◌≡◌, ℕ, ◌+◌, List, [], ◌∷◌, length, Some, slice_get}
use Rattle.atomic_table.specs.Seated.{TableId}
use Rattle.ls_event.specs.declared.item.Kind.{Kind}
use Rattle.ls_event.specs.declared.item.ItemDef.{ItemDef}
use Rattle.ls_event.specs.Shapes.{Shape, shape_of}
use Rattle.ls_register.specs.declared.made.Made.{Made}
use Rattle.ls_register.specs.declared.made.Made.TheVariants.{Item, Session, Slot, Gone, Claimed, Freed}
use Rattle.ls_register.specs.Places.{Placed}

-- an item's number, from 0, how many fields it has, and its kind
pub record ItemFact : Type 0 where
  pub item : ℕ
  pub fields : ℕ
  pub kind : Kind

-- the items that were made, in order
abbrev pub items_of : List Made → List ItemFact
items_of [] = []
items_of (Item item fields kind table ∷ ms) = record { item = item; fields = fields; kind = kind } ∷ items_of ms
items_of (Session session table ∷ ms) = items_of ms
items_of (Slot item slot table ∷ ms) = items_of ms
items_of (Gone session ∷ ms) = items_of ms
items_of (Claimed slots ∷ ms) = items_of ms
items_of (Freed slots ∷ ms) = items_of ms

-- what an item of a number is, as it is declared
abbrev pub fact_of : ℕ → ItemDef → ItemFact
fact_of item d = record { item = item; fields = length d.fields; kind = d.kind }

-- declared items, whose numbers begin with this one
abbrev pub facts_from : ℕ → List ItemDef → List ItemFact
facts_from item [] = []
facts_from item (d ∷ ds) = fact_of item d ∷ facts_from (item + 1) ds

-- declared items, whose numbers begin with 0
abbrev pub facts_of : List ItemDef → List ItemFact
facts_of ds = facts_from 0 ds

-- the place shows the declared item of this number, whose shape this is and whose history stands on this table
pub record ShowsItem (config : List ItemDef) (p : Placed) (item : ℕ) (shape : Shape) (table : TableId) : Type 0 where
  pub def : ItemDef
  pub entry : slice_get p.list p.at ≡ Some (Item item (length def.fields) def.kind table)
  pub declared : slice_get config item ≡ Some def
  pub shape_is : shape ≡ shape_of def

-- the place shows the slot of this number, from 1, on the item of this number, whose tie stands on this table
pub record ShowsSlot (p : Placed) (item slot : ℕ) (table : TableId) : Type 0 where
  pub entry : slice_get p.list p.at ≡ Some (Slot item slot table)
