-- What a subscription wants of an item, what a cut makes of the client's row or table, and a slot's turn (General
-- Concepts, modes and buffers).
use Rattle.std.specs.Prelude.{ℕ, zero, suc, ◌+◌, List, length, Bool, ◌&&◌, Option, None, Some, if◌then◌else◌}
use Rattle.std.specs.Option.{option_map_or}
use Rattle.ls_value.specs.Values.{applied, projected, projected_cells, nulls, row_eq}
use Rattle.ls_value.specs.declared.row.Value.{Value}
use Rattle.ls_event.specs.declared.event.Entry.{Entry}
use Rattle.ls_event.specs.declared.event.Mode.{Mode}
use Rattle.ls_event.specs.declared.event.Taken.{Taken}
use Rattle.ls_event.specs.Slots.{Plan, Slot, passed}
use Rattle.ls_mirror.specs.declared.command.KeyPlaces.{KeyPlaces}
use Rattle.ls_mirror.specs.Client.{What, Row, Lost, Cleared, End}
use Rattle.ls_record.specs.Cases.{with_found}
use Rattle.ls_record.specs.Came.{Came, came_by, whats}
use Rattle.ls_record.specs.Tables.{keys_shown_at, what_of_key, table_at, projected_row}
use Rattle.ls_event.specs.Cuts.{cut}
use Rattle.ls_record.specs.Lines.{last_row}
use Rattle.ls_event.specs.declared.event.Taken.TheVariants as taken

-- the places of the schema's fields in the item, and how many rows of the snapshot were asked for, if any were
pub record Wanted : Type 0 where
  pub places : List ℕ
  pub snapshot : Option ℕ

-- what is asked of a slot that joins; the greatest frequency is in thousandths of an update per second
pub record Ask : Type 0 where
  pub item : ℕ
  pub mode : Mode
  pub size : ℕ
  pub frequency : Option ℕ
  pub wanted : Wanted

-- the client's row, which is all null before the first one
abbrev pub client_row : ℕ → List Came → List Value
client_row fields cs = option_map_or (λ r. r) (last_row cs) (nulls fields)

-- the line of a change: none where a first line was given and the client has the row already
abbrev pub what_of_change : Bool → List Value → List Value → Option What
what_of_change started old new = if started && row_eq old new then None else Some (Row new)

-- the places of the item's key and command in the schema
abbrev pub schema_of : Wanted → Plan → KeyPlaces
schema_of w p = keys_shown_at p.shape w.places

-- the line that a cut makes, if any
abbrev pub what_of_cut : Wanted → Slot → List Came → Taken → Option What
what_of_cut w s cs (taken.Row row upto) = Some (Row (projected row w.places))
what_of_cut w s cs (taken.Lost count upto) = Some (Lost count)
what_of_cut w s cs (taken.Change cells upto) =
    what_of_change s.has_started (client_row (length w.places) cs)
    (applied (client_row (length w.places) cs) (projected_cells cells w.places))
what_of_cut w s cs (taken.Key key row upto) =
    what_of_key (schema_of w s.plan) (length w.places) key (table_at (schema_of w s.plan) key (whats cs))
    (projected_row w.places row)
what_of_cut w s cs (taken.Cleared upto) = Some Cleared
what_of_cut w s cs taken.EndOfSnapshot = Some End

-- a slot after its turn, and what came by it
pub record Turn : Type 0 where
  pub slot : Slot
  pub came : Option Came

-- a turn of at most n cuts: a cut that makes a line ends it, and after another one it goes on
abbrev pub turn_within : ℕ → List Entry → Wanted → Slot → List Came → Turn
turn_within zero h w s cs = record { slot = s; came = None }
turn_within (suc n) h w s cs =
    with_found (cut h s) (record { slot = s; came = None }) (λ t.
    with_found (what_of_cut w s cs t) (turn_within n h w (passed s t) cs) (λ what.
    record { slot = passed s t; came = Some (came_by s t what) }))

-- a slot's turn: its silent cuts are dropped, up to its first line. Each cut passes an event, a row or key of the
-- snapshot or its end, so there are fewer than this many.
abbrev pub turn : List Entry → Wanted → Slot → List Came → Turn
turn h w s cs = turn_within (s.last + s.owed + 2) h w s cs
