-- What an item of a subscription tells its client, and what is kept of it.
use Rattle.std.specs.Prelude.{◌≡◌, ℕ, List, ◌++◌, length, Bool, Option, None, Some, is_some}
use Rattle.std.specs.Prelude.{option_map, if◌then◌else◌}
use Rattle.std.specs.Option.{option_map_or}
use Rattle.std.specs.FinMap as finite
use Rattle.ls_value.specs.Values.{applied, nulls, value_at, projected, projected_cells}
use Rattle.ls_value.specs.declared.row.Value.{Value}
use Rattle.ls_event.specs.declared.event.Mode.{Mode}
use Rattle.ls_event.specs.declared.event.Mode.TheVariants as mode
use Rattle.ls_event.specs.declared.event.Taken.{Taken}
use Rattle.ls_event.specs.declared.event.Taken.TheVariants as taken
use Rattle.ls_event.specs.Slots.{Slot}
use Rattle.ls_mirror.specs.Client.{What, Row, Lost, Cleared, End, row_or}
use Rattle.ls_mirror.specs.Keys.{KeyTable}
use Rattle.ls_update.specs.Reading.{HasFields}
use Rattle.ls_record.specs.Came.{Came, whats}
use Rattle.ls_record.specs.Lines.{is_update, last_row, tells_text}
use Rattle.ls_record.specs.Tables.{text_or_empty, kept_of, what_of_key, table_at, projected_row}
use Rattle.ls_record.specs.Cutting.{Wanted, schema_of, what_of_change}
use Rattle.ls_record.specs.Records.{keys_in}
use Rattle.ls_mirror.specs.declared.command.KeyPlaces.{KeyPlaces}
pub use Rattle.ls_subs.specs.Subscribed.{Subscribed}
use Rattle.ls_subs.specs.declared.followed.LineKind.{LineKind}
use Rattle.ls_subs.specs.declared.followed.LineKind.TheVariants as kind
use Rattle.ls_subs.specs.declared.cut_line.CutLine.{CutLine}
use Rattle.ls_subs.specs.declared.cut_line.CutLine.TheVariants as tells

-- what a line of a kind tells, where this is its row
abbrev pub what_in : List Value → LineKind → What
what_in row kind.Row = Row row
what_in row (kind.Lost count) = Lost count
what_in row kind.Cleared = Cleared
what_in row kind.End = End

-- a row, or so many nulls where there is none
abbrev pub row_or_nulls : ℕ → Option (List Value) → List Value
row_or_nulls fields row = option_map_or (λ r. r) row (nulls fields)

-- the client's row, which is all null before the first one
abbrev pub row_of : Subscribed → List Value
row_of u = row_or_nulls (length u.places) u.row

-- what a key's cut tells the client, by its rows of keys; without a key in the schema nothing
abbrev pub what_by_key : List ℕ → Option KeyPlaces → KeyTable → List ℕ → Option (List Value) → Option What
what_by_key places None table key row = None
what_by_key places (Some at) table key row =
    what_of_key at (length places) key (finite.get table key) (projected_row places row)

-- what a cut tells the client, by the schema's places and keys and what the client has: nothing where it has that
-- already
abbrev pub what_comes_by : List ℕ → Option KeyPlaces → Option (List Value) → KeyTable → Taken → Option What
what_comes_by places keys row table (taken.Row new upto) = Some (Row (projected new places))
what_comes_by places keys row table (taken.Lost count upto) = Some (Lost count)
what_comes_by places keys row table (taken.Change cells upto) =
    what_of_change (is_some row) (row_or_nulls (length places) row)
    (applied (row_or_nulls (length places) row) (projected_cells cells places))
what_comes_by places keys row table (taken.Key key new upto) = what_by_key places keys table key new
what_comes_by places keys row table (taken.Cleared upto) = Some Cleared
what_comes_by places keys row table taken.EndOfSnapshot = Some End

abbrev pub what_comes : Subscribed → Taken → Option What
what_comes u t = what_comes_by u.places u.keys u.row u.table t

-- the rows by key with this one of a key, or without the key
abbrev pub table_set : KeyTable → List ℕ → Option (List Value) → KeyTable
table_set table key None = finite.remove table key
table_set table key (Some kept) = finite.insert table key kept

-- the rows by key after a row
abbrev pub table_with : Option KeyPlaces → KeyTable → List Value → KeyTable
table_with None table row = table
table_with (Some at) table row = table_set table (text_or_empty (value_at row at.key)) (kept_of at row)

-- the rows by key after what came
abbrev pub keyed_with : Option KeyPlaces → KeyTable → What → KeyTable
keyed_with keys table (Row row) = table_with keys table row
keyed_with keys table (Lost count) = table
keyed_with keys table Cleared = finite.empty
keyed_with keys table End = table

-- a subscription after what came, if anything did
abbrev pub after_what : Subscribed → What → Subscribed
after_what u what = record u { row = row_or what u.row; table = keyed_with u.keys u.table what }

abbrev pub after_line : Subscribed → Option What → Subscribed
after_line u what = option_map_or (after_what u) what u

-- which line tells what came
abbrev pub told_by : What → CutLine
told_by what = if is_update what then tells.Update else tells.Other

-- a line of an item: which one it is, and its text
pub record ItemLine : Type 0 where
  pub told : CutLine
  pub text : List ℕ

-- the line that tells what came, where the last row was this one
abbrev pub item_line : Option (List Value) → ℕ → ℕ → What → ItemLine
item_line prev sub rank what = record { told = told_by what; text = tells_text prev sub rank what }

abbrev pub line_if : Subscribed → Option What → Option ItemLine
line_if u what = option_map (item_line u.row u.sub u.rank) what

-- a text to which a line was appended, or none
pub record Appended : Type 0 where
  pub told : CutLine
  pub before : List ℕ
  pub after : List ℕ

-- it was this line, or none
abbrev pub Appends : Appended → Option ItemLine → Type 0
Appends a None = (a.told ≡ tells.Nothing) × (a.after ≡ a.before)
Appends a (Some l) = (a.told ≡ l.told) × (a.after ≡ a.before ++ l.text)

-- the table holds the client's row of each key
abbrev pub HoldsKeys : Option KeyPlaces → KeyTable → List What → Type 0
HoldsKeys None table ws = Unit {0}
HoldsKeys (Some at) table ws = (k : List ℕ) → finite.get table k ≡ table_at at k ws

-- in mode MERGE a slot has started where its client has a row
abbrev pub HasStarted : Mode → Bool → Option (List Value) → Type 0
HasStarted mode.Merge started row = started ≡ is_some row
HasStarted m started row = Unit {0}

-- what is kept stands for a slot and for what came to the client of it; a row has a value for each place of the schema
pub record StandsSubscribed (u : Subscribed) (w : Wanted) (s : Slot) (cs : List Came) : Type 0 where
  pub places : u.places ≡ w.places
  pub keys : u.keys ≡ keys_in s.plan.mode (schema_of w s.plan)
  pub row : u.row ≡ last_row cs
  pub wide : HasFields (length w.places) (last_row cs)
  pub has_started : HasStarted s.plan.mode s.has_started u.row
  pub table : HoldsKeys u.keys u.table (whats cs)
