-- What is true of a slot of mode COMMAND: the client's table agrees with the item's at the cursor of each key (General
-- Concepts, mode COMMAND).
use Rattle.std.specs.Prelude.{◌≡◌, ◌<◌, ◌≤◌, ◌⊎◌, ℕ, List, [], ◌∷◌, ◌++◌, length, map, true, Option, None, Some}
use Rattle.std.specs.Prelude.{codes, if◌then◌else◌}
use Rattle.ls_value.specs.Values.{text_eq}
use Rattle.ls_value.specs.declared.row.Value.{Value}
use Rattle.ls_event.specs.declared.event.Event.{Event}
use Rattle.ls_event.specs.declared.event.Event.TheVariants.{Update, Clear}
use Rattle.ls_event.specs.declared.event.Entry.{Entry}
use Rattle.ls_event.specs.History.{between}
use Rattle.ls_event.specs.Shapes.{Shape}
use Rattle.ls_event.specs.Slots.{Plan, Slot, KeyCursor}
use Rattle.ls_event.specs.Updates.{last_of, last_clear}
use Rattle.ls_event.specs.Keyed.{key_of, row_at, keyed}
use Rattle.ls_event.specs.CommandCuts.{has_key}
use Rattle.ls_mirror.specs.declared.command.KeyPlaces.{KeyPlaces}
use Rattle.ls_record.specs.Came.{Came, whats}
use Rattle.ls_mirror.specs.Client.{What, Row, Cleared}
use Rattle.ls_record.specs.Tables.{place_of_field, keys_shown_at, table_at, projected_row, with_word, delete_row}
use Rattle.ls_record.specs.Cutting.{Wanted, schema_of}

-- the item has a key and a command, and the schema shows both
pub record IsKeyed (p : Plan) (places : List ℕ) : Type 0 where
  pub key : p.shape.key < p.shape.fields
  pub command : p.shape.command < p.shape.fields
  pub apart : p.shape.key ≡ p.shape.command → ⊥
  pub key_shown : place_of_field p.shape.key places < length places
  pub command_shown : place_of_field p.shape.command places < length places

-- a key's cursor, where it is noted
abbrev pub cursor_of_key : List ℕ → List KeyCursor → Option ℕ
cursor_of_key k [] = None
cursor_of_key k (n ∷ ns) = if text_eq n.key k then Some n.cursor else cursor_of_key k ns

-- a client's row of a key that had a turn is the item's at the cursor of the key, as the schema shows it; other keys
-- are absent
abbrev pub RowAgrees : List Entry → Wanted → Slot → List ℕ → Option (List Value) → Option ℕ → Type 0
RowAgrees h w s k row None = row ≡ None
RowAgrees h w s k row (Some q) =
    (s.cursor ≤ q) × (q ≤ s.last) × (row ≡ projected_row w.places (row_at k (keyed s.plan.shape h q)))

-- the row by which the word of a key's line is chosen agrees
abbrev pub AgreesAt : List Entry → Wanted → Slot → List Came → List ℕ → Option ℕ → Type 0
AgreesAt h w s cs k o = RowAgrees h w s k (table_at (schema_of w s.plan) k (whats cs)) o

-- a key that had no turn: none was asked of it, or its turn is owed, or the item doesn't have it at the slot's cursor,
-- or a Clear waits
abbrev pub NoTurn : List Entry → Wanted → Slot → List ℕ → Type 0
NoTurn h w s k =
    ((s.cursor ≡ s.plan.base) × (w.snapshot ≡ None))
    ⊎ ((has_key (last_of s.owed (map (λ x. x.key) (keyed s.plan.shape h s.plan.base))) k ≡ true)
    ⊎ ((row_at k (keyed s.plan.shape h s.cursor) ≡ None)
    ⊎ ((c : ℕ) × (last_clear h s.cursor s.last ≡ Some c))))

-- a key's turn: where a schema of so many fields shows the key and the command, the key, and the rows of it that the
-- client and the item have
pub record KeyTurn : Type 0 where
  pub at : KeyPlaces
  pub fields : ℕ
  pub key : List ℕ
  pub client : Option (List Value)
  pub item : Option (List Value)

-- its row: ADD where the item alone has one, UPDATE where both have one and they differ, DELETE where the client alone
-- has one. Else there is no row
abbrev pub IsRowOf : KeyTurn → Option (List Value) → Option (List Value) → List Value → Type 0
IsRowOf t None None r = ⊥
IsRowOf t None (Some new) r = r ≡ with_word t.at (codes "ADD") new
IsRowOf t (Some old) None r = r ≡ delete_row t.at t.fields t.key
IsRowOf t (Some old) (Some new) r = (old ≡ new → ⊥) × (r ≡ with_word t.at (codes "UPDATE") new)

abbrev pub IsKeyRow : KeyTurn → List Value → Type 0
IsKeyRow t r = IsRowOf t t.client t.item r

-- an item as a schema shows it: its shape, its history, and the places of the schema in it
pub record ShownItem : Type 0 where
  pub shape : Shape
  pub history : List Entry
  pub places : List ℕ

-- the turn of a key of it after so many events, of a client to whom this had come
abbrev pub key_turn_at : ShownItem → List What → ℕ → List ℕ → KeyTurn
key_turn_at v before i key =
    let at : KeyPlaces = keys_shown_at v.shape v.places in
    record {
      at = at;
      fields = length v.places;
      key = key;
      client = table_at at key before;
      item = projected_row v.places (row_at key (keyed v.shape v.history i));
    }

-- a row is that of the turn of a key of the item after so many events
pub record HadKey (v : ShownItem) (before : List What) (i : ℕ) (r : List Value) : Type 0 where
  pub within : i ≤ length v.history
  pub key : List ℕ
  pub row : IsKeyRow (key_turn_at v before i key) r

-- a line of mode COMMAND, by what had come before it: a row tells of all events that were enqueued then
pub record IsKeyLine (p : Shape) (h : List Entry) (places : List ℕ) (before : List What) (c : Came) : Type 0 where
  pub reached : c.upto ≤ c.at
  pub within : c.at ≤ length h
  pub rows :
      (r : List Value) → c.what ≡ Row r
      → (c.upto ≡ c.at) × HadKey (record { shape = p; history = h; places = places }) before c.upto r

-- each tells of no more than so many events
abbrev pub AreUpTo : ℕ → List Came → Type 0
AreUpTo n [] = Unit {0}
AreUpTo n (c ∷ cs) = (c.upto ≤ n) × AreUpTo n cs

-- each is such a line, the numbers that were enqueued then never fall, and a Clear tells of no fewer events than any
-- line before it
abbrev pub KeyLines : Shape → List Entry → List ℕ → ℕ → List Came → Type 0
KeyLines p h places top [] = Unit {0}
KeyLines p h places top (c ∷ cs) =
    (c.at ≤ top) × IsKeyLine p h places (whats cs) c × KeyLines p h places c.at cs
    × (c.what ≡ Cleared → AreUpTo c.upto cs)

-- no Clear behind this cursor was passed over: none stands before a number up to which a line tells
abbrev pub NoneCleared : List Entry → ℕ → List Came → Type 0
NoneCleared h cursor [] = Unit {0}
NoneCleared h cursor (c ∷ cs) = (last_clear h cursor c.upto ≡ None) × NoneCleared h cursor cs

-- a slot of mode COMMAND, and what came to its client
pub record LawfulCommand (h : List Entry) (w : Wanted) (s : Slot) (cs : List Came) : Type 0 where
  pub sound : IsKeyed s.plan w.places
  pub begun : s.plan.base ≤ s.cursor
  pub behind : s.cursor ≤ s.last
  pub within : s.last ≤ length h
  pub agrees : (k : List ℕ) → AgreesAt h w s cs k (cursor_of_key k s.key_cursors)
  pub first : (k : List ℕ) → cursor_of_key k s.key_cursors ≡ None → NoTurn h w s k
  pub lines : KeyLines s.plan.shape h w.places s.last cs
  pub clears : NoneCleared h s.cursor cs

-- the keys that updates among these entries name
abbrev pub keys_named : Plan → Event → List (List ℕ)
keys_named p (Update cells) = key_of p.shape cells ∷ []
keys_named p Clear = []

-- and all those that they name, in their order
abbrev pub touched_in : Plan → List Entry → List (List ℕ)
touched_in p [] = []
touched_in p (e ∷ es) = keys_named p e.event ++ touched_in p es

-- a key that a client is to know: with a snapshot each, and else one that an update behind the slot's first cursor
-- named
abbrev pub IsToKnow : List Entry → Wanted → Slot → List ℕ → Type 0
IsToKnow h w s k = (w.snapshot ≡ None → ⊥) ⊎ (has_key (touched_in s.plan (between h s.plan.base s.last)) k ≡ true)
