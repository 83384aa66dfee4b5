-- The history of an item: its events in the order of their numbers, and the state that they make (General Concepts,
-- items and mode MERGE).
use Rattle.std.specs.Prelude.{◌≡◌, ◌==◌, ℕ, List, [], ◌∷◌, length, take, drop, sum_by, Option, None, Some}
use Rattle.std.specs.Prelude.{if◌then◌else◌}
use Rattle.ls_value.specs.Values.{applied, nulls, weight_of_cell}
use Rattle.ls_value.specs.declared.row.Value.{Value}
use Rattle.ls_event.specs.declared.event.Event.{Event}
use Rattle.ls_event.specs.declared.event.Event.TheVariants.{Update, Clear}
use Rattle.ls_event.specs.declared.event.Entry.{Entry}

-- a merged row after an event
abbrev pub row_after : List Value → Event → List Value
row_after row (Update cells) = applied row cells
row_after row Clear = nulls (length row)

-- a merged row after these entries
abbrev pub row_after_all : List Value → List Entry → List Value
row_after_all row [] = row
row_after_all row (e ∷ es) = row_after_all (row_after row e.event) es

-- the merged state of an item of so many fields after the first i entries of its history (General Concepts, mode MERGE)
abbrev pub merged : ℕ → List Entry → ℕ → List Value
merged fields h i = row_after_all (nulls fields) (take i h)

-- the entries numbered p + 1 to l
abbrev pub between : List Entry → ℕ → ℕ → List Entry
between h p l = drop p (take l h)

-- an update has this many cells
abbrev pub HasFields : ℕ → Event → Type 0
HasFields fields (Update cells) = length cells ≡ fields
HasFields fields Clear = Unit {0}

-- a row has this many values, where there is one
abbrev pub RowFits : ℕ → Option (List Value) → Type 0
RowFits fields None = Unit {0}
RowFits fields (Some row) = length row ≡ fields

-- the bytes of an event's texts
abbrev pub weight_of_event : Event → ℕ
weight_of_event (Update cells) = sum_by weight_of_cell cells
weight_of_event Clear = 0

-- the last seq of an adapter, where it was this one before
abbrev pub last_seq_from : ℕ → ℕ → List Entry → ℕ
last_seq_from seq adapter [] = seq
last_seq_from seq adapter (e ∷ es) = last_seq_from (if e.adapter == adapter then e.seq else seq) adapter es

-- the last seq of an adapter in a history, 0 where it has none
abbrev pub last_seq : ℕ → List Entry → ℕ
last_seq adapter h = last_seq_from 0 adapter h
