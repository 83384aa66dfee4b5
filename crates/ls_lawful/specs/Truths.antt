-- What came to a client of an item, in the words of the item's history.
use Rattle.std.specs.Prelude.{◌≡◌, ◌-◌, ◌<◌, ◌≤◌, ◌⊎◌, ℕ, List, [], ◌∷◌, ◌++◌, length, Some, slice_get}
use Rattle.ls_value.specs.Values.{projected, value_at}
use Rattle.ls_value.specs.declared.row.Value.{Value}
use Rattle.ls_event.specs.declared.event.Entry.{Entry}
use Rattle.ls_event.specs.declared.event.Mode.{Mode}
use Rattle.ls_event.specs.declared.updates.OwnRow.{OwnRow}
use Rattle.ls_event.specs.Shapes.{Shape}
use Rattle.ls_event.specs.History.{merged}
use Rattle.ls_event.specs.Updates.{updates_between, recent_rows}
use Rattle.ls_mirror.specs.declared.command.KeyPlaces.{KeyPlaces}
use Rattle.ls_mirror.specs.Client.{What, Row, Lost, Cleared, End}
use Rattle.ls_record.specs.Came.{Came, whats}
use Rattle.ls_record.specs.Tables.{text_or_empty}
use Rattle.ls_lawful.specs.CommandMode.{ShownItem, HadKey}
use Rattle.ls_event.specs.declared.event.Mode.TheVariants as mode

-- a row is the item's merged state after so many events of its history, at the places of a schema
pub record HadState (p : Shape) (h : List Entry) (places : List ℕ) (i : ℕ) (r : List Value) : Type 0 where
  pub within : i ≤ length h
  pub row : r ≡ projected (merged p.fields h i) places

-- a row is the own row of the item's event of a number, which is an update, at the places of a schema
pub record HadUpdate (h : List Entry) (places : List ℕ) (i : ℕ) (r : List Value) : Type 0 where
  pub within : i ≤ length h
  pub update : OwnRow
  pub is : updates_between h (i - 1) i ≡ update ∷ []
  pub row : r ≡ projected update.row places

-- a row is one of the snapshot after so many events of the item's history, at the places of a schema
pub record HadRecent (h : List Entry) (places : List ℕ) (i : ℕ) (r : List Value) : Type 0 where
  pub within : i ≤ length h
  pub own : List Value
  pub behind : ℕ
  pub is : slice_get (recent_rows h i) behind ≡ Some own
  pub row : r ≡ projected own places

-- what a row of a mode is, by what had come before it and the number of its line
abbrev pub HadRow : Mode → ShownItem → List What → ℕ → List Value → Type 0
HadRow mode.Merge v before i r = HadState v.shape v.history v.places i r
HadRow mode.Raw v before i r = HadUpdate v.history v.places i r
HadRow mode.Distinct v before i r = HadUpdate v.history v.places i r ⊎ HadRecent v.history v.places i r
HadRow mode.Command v before i r = HadKey v before i r

-- a later line of a mode tells of more events than an earlier one; in mode DISTINCT it begins where the earlier one
-- led, or behind, as the lines of the snapshot pass over none; and in mode COMMAND no fewer had been enqueued
abbrev pub Rises : Mode → Came → Came → Type 0
Rises mode.Merge early late = early.upto < late.upto
Rises mode.Raw early late = early.upto < late.upto
Rises mode.Distinct early late = (early.upto ≤ late.before) × (late.before ≤ late.upto)
Rises mode.Command early late = early.at ≤ late.at

-- a line tells a client of a key: its row does, and a Clear does of each key
abbrev pub TellsOf : KeyPlaces → List ℕ → What → Type 0
TellsOf at k (Row r) = text_or_empty (value_at r at.key) ≡ k
TellsOf at k (Lost n) = ⊥
TellsOf at k Cleared = Unit {0}
TellsOf at k End = ⊥

-- of what came, the newest first, each row is a state that the item had, which in the modes RAW and DISTINCT is an
-- update by itself and in mode COMMAND a key's row or its absence, told by the word that the client's own table asks
-- for; and of two lines none goes back
pub record IsTrueOf (mode : Mode) (p : Shape) (h : List Entry) (places : List ℕ) (cs : List Came) : Type 0 where
  pub had :
      (newer older : List Came) (c : Came) (r : List Value) → cs ≡ newer ++ c ∷ older → c.what ≡ Row r
      → HadRow mode (record { shape = p; history = h; places = places }) (whats older) c.upto r
  pub rise :
      (newer between older : List Came) (late early : Came) → cs ≡ newer ++ late ∷ between ++ early ∷ older
      → Rises mode early late
