-- The state of an item with its shape, and what holds of it (General Concepts, items and modes; this project's profile
-- for the limits).
use Rattle.std.specs.Prelude.{◌≡◌, ℕ, ◌<◌, ◌≤◌, List, length, All, Option, None, Some, Result, Ok, Err}
use Rattle.ls_value.specs.declared.row.Value.{Value}
use Rattle.ls_event.specs.declared.event.PushRefused.{PushRefused}
use Rattle.ls_event.specs.declared.item.Kind.{Kind}
use Rattle.ls_event.specs.declared.item.Kind.TheVariants as kind
use Rattle.ls_event.specs.declared.snapshot.KeyedRow.{KeyedRow}
use Rattle.ls_event.specs.declared.snapshot.Snapshot.{Snapshot}
use Rattle.ls_event.specs.declared.snapshot.Snapshot.TheVariants as state
use Rattle.ls_event.specs.declared.limits.TheConstants.{MOST_KEYS, MOST_SNAPSHOT_ROWS}
use Rattle.ls_event.specs.Shapes.{Shape}
use Rattle.ls_item.specs.Keys.{IsOrdered}

-- an item's state and its shape
pub record KeptState : Type 0 where
  pub shape : Shape
  pub state : Snapshot

-- the last rows of a DISTINCT item of so many fields
pub record Recent : Type 0 where
  pub fields : ℕ
  pub rows : List (List Value)

-- the keys of a COMMAND item of so many fields, with the places of its key and its command
pub record KeyTable : Type 0 where
  pub fields : ℕ
  pub key : ℕ
  pub command : ℕ
  pub keys : List KeyedRow

-- the shape of an item of a kind whose events name no keys
abbrev pub keyless : Kind → ℕ → Shape
keyless k fields = record { kind = k; fields = fields; key = 0; command = 0 }

-- the shape of a COMMAND item of so many fields, with the places of its key and its command
abbrev pub keyed_shape : ℕ → ℕ → ℕ → Shape
keyed_shape fields key command = record { kind = kind.Command; fields = fields; key = key; command = command }

-- the shape of the item whose keys these are
abbrev pub shape_in : KeyTable → Shape
shape_in t = keyed_shape t.fields t.key t.command

-- each row has so many values
abbrev pub AllWide : ℕ → List (List Value) → Type 0
AllWide fields rows = All (λ row. length row ≡ fields) rows

-- each key's row has so many values
abbrev pub AllKeyedWide : ℕ → List KeyedRow → Type 0
AllKeyedWide fields ks = All (λ k. length k.row ≡ fields) ks

-- what holds of the keys of a COMMAND item of a shape
pub record IsKeyTable (p : Shape) (ks : List KeyedRow) : Type 0 where
  pub key : p.key < p.fields
  pub command : p.command < p.fields
  pub wide : AllKeyedWide p.fields ks
  pub few : length ks ≤ MOST_KEYS
  pub ordered : IsOrdered ks

-- what holds of the state of an item of a shape: it is of the shape's kind, each row has a value for each field, a
-- DISTINCT
-- item has no more rows than are kept for snapshots, and a COMMAND item no more keys than there may be, each once and
-- in
-- the order of their bytes
abbrev pub IsStateOf : Shape → Snapshot → Type 0
IsStateOf p (state.Merge row) = (p.kind ≡ kind.Merge) × (length row ≡ p.fields)
IsStateOf p (state.Distinct rows) = (p.kind ≡ kind.Distinct) ×
    (AllWide p.fields rows × (length rows ≤ MOST_SNAPSHOT_ROWS))
IsStateOf p (state.Command ks) = (p.kind ≡ kind.Command) × (AllKeyedWide p.fields ks
    × ((length ks ≤ MOST_KEYS) × IsOrdered ks))

-- the answer of a check: the cause, where there is one
abbrev pub checked : Option PushRefused → Result (Unit {0}) PushRefused
checked None = Ok tt
checked (Some cause) = Err cause
