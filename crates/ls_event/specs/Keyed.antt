-- The state of a COMMAND item: a row for each key (General Concepts, mode COMMAND).
use Rattle.std.specs.Prelude.{ℕ, List, [], ◌∷◌, set, take, Bool, true, false, Option, None, Some, nat_lt, ◌==◌}
use Rattle.std.specs.Prelude.{if◌then◌else◌, unwrap_or}
use Rattle.ls_value.specs.Values.{applied, nulls, cell_at, text_eq}
use Rattle.ls_value.specs.declared.row.Value.{Value}
use Rattle.ls_value.specs.declared.row.Value.TheVariants as value
use Rattle.ls_value.specs.declared.row.Cell.{Cell}
use Rattle.ls_value.specs.declared.row.Cell.TheVariants as cell
use Rattle.ls_event.specs.declared.event.Event.{Event}
use Rattle.ls_event.specs.declared.event.Event.TheVariants.{Update, Clear}
use Rattle.ls_event.specs.declared.event.Entry.{Entry}
use Rattle.ls_event.specs.declared.orders.Order.TheVariants as order
use Rattle.ls_event.specs.declared.snapshot.KeyedRow.{KeyedRow}
use Rattle.ls_event.specs.Orders.{word_of}
use Rattle.ls_event.specs.Shapes.{Shape}

-- whether a text stands before another in the order of their bytes
abbrev pub is_before : List ℕ → List ℕ → Bool
is_before xs [] = false
is_before [] (y ∷ ys) = true
is_before (x ∷ xs) (y ∷ ys) = if x == y then is_before xs ys else nat_lt x y

-- the text that a cell says
abbrev pub text_of_cell : Cell → List ℕ
text_of_cell cell.Same = []
text_of_cell cell.Null = []
text_of_cell (cell.Text t) = t

-- the key that an update names
abbrev pub key_of : Shape → List Cell → List ℕ
key_of p cells = text_of_cell (cell_at cells p.key)

-- whether an update deletes its key
abbrev pub deletes : Shape → List Cell → Bool
deletes p cells = text_eq (text_of_cell (cell_at cells p.command)) (word_of order.Delete)

-- the row of a key
abbrev pub row_at : List ℕ → List KeyedRow → Option (List Value)
row_at key [] = None
row_at key (k ∷ ks) = if text_eq k.key key then Some k.row else row_at key ks

-- the keys in the order of their bytes, with this row at a key
abbrev pub with_row : List ℕ → List Value → List KeyedRow → List KeyedRow
with_row key row [] = record { key = key; row = row } ∷ []
with_row key row (k ∷ ks) =
    if text_eq k.key key then record { key = key; row = row } ∷ ks
    else if is_before key k.key then record { key = key; row = row } ∷ k ∷ ks
    else k ∷ with_row key row ks

-- the keys without this one
abbrev pub without : List ℕ → List KeyedRow → List KeyedRow
without key [] = []
without key (k ∷ ks) = if text_eq k.key key then ks else k ∷ without key ks

-- the row that an update makes of a key's row, or of nulls where the key has none; its command is null
abbrev pub row_with : Shape → Option (List Value) → List Cell → List Value
row_with p row cells = set (applied (unwrap_or row (nulls p.fields)) cells) p.command value.Null

-- the keys after an event
abbrev pub keyed_after : Shape → List KeyedRow → Event → List KeyedRow
keyed_after p ks (Update cells) =
    if deletes p cells then without (key_of p cells) ks
    else with_row (key_of p cells) (row_with p (row_at (key_of p cells) ks) cells) ks
keyed_after p ks Clear = []

-- the keys after these entries
abbrev pub keyed_after_all : Shape → List KeyedRow → List Entry → List KeyedRow
keyed_after_all p ks [] = ks
keyed_after_all p ks (e ∷ es) = keyed_after_all p (keyed_after p ks e.event) es

-- the keyed state after the first i entries
abbrev pub keyed : Shape → List Entry → ℕ → List KeyedRow
keyed p h i = keyed_after_all p [] (take i h)
