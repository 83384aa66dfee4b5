-- What is true of a slot of mode RAW: rows and counts of lost updates tell of each update once, in order (General
-- Concepts, mode RAW).
use Rattle.std.specs.Prelude.{◌≡◌, ◌+◌, ◌<◌, ◌≤◌, ℕ, List, [], ◌∷◌, ◌++◌, length}
use Rattle.ls_value.specs.Values.{projected}
use Rattle.ls_event.specs.declared.event.Entry.{Entry}
use Rattle.ls_event.specs.declared.updates.OwnRow.{OwnRow}
use Rattle.ls_event.specs.Slots.{Slot}
use Rattle.ls_event.specs.Updates.{updates_between}
use Rattle.ls_mirror.specs.Client.{What, Row, Lost, Cleared, End}
use Rattle.ls_record.specs.Came.{Came}
use Rattle.ls_record.specs.Cutting.{Wanted}
use Rattle.ls_event.specs.declared.limits.TheConstants.{RAW_KEEPS}

-- what a line says of the updates that it passes over: the own row of the only one, or how many are lost
abbrev pub RawSays : List ℕ → What → List OwnRow → Type 0
RawSays places (Row r) gone = (u : OwnRow) × (gone ≡ u ∷ []) × (r ≡ projected u.row places)
RawSays places (Lost k) gone = length gone ≡ k
RawSays places Cleared gone = ⊥
RawSays places End gone = ⊥

-- the number of a row's line is that of the last update that it passes over
abbrev pub RowsAt : What → ℕ → List OwnRow → Type 0
RowsAt (Row r) upto gone = (u : OwnRow) → gone ≡ u ∷ [] → u.no ≡ upto
RowsAt (Lost k) upto gone = Unit {0}
RowsAt Cleared upto gone = Unit {0}
RowsAt End upto gone = Unit {0}

-- how many updates waited when a line came: at most as many as are kept for a row, and else these and those that are
-- lost, at least one
abbrev pub RawWaited : What → ℕ → Type 0
RawWaited (Row r) waited = waited ≤ RAW_KEEPS
RawWaited (Lost k) waited = (1 ≤ k) × (waited ≡ RAW_KEEPS + k)
RawWaited Cleared waited = Unit {0}
RawWaited End waited = Unit {0}

-- a line of mode RAW passes over the updates from the cursor before it up to its number; those from that cursor up to
-- the last that was enqueued waited
pub record IsRawLine (places : List ℕ) (h : List Entry) (c : Came) : Type 0 where
  pub rises : c.before < c.upto
  pub reached : c.upto ≤ c.at
  pub within : c.at ≤ length h
  pub waited : RawWaited c.what (length (updates_between h c.before c.at))
  pub says : RawSays places c.what (updates_between h c.before c.upto)
  pub rows : RowsAt c.what c.upto (updates_between h c.before c.upto)

-- the lines lead from the slot's first cursor to this one, each from that of the line before it
abbrev pub RawLines : List ℕ → List Entry → ℕ → ℕ → List Came → Type 0
RawLines places h base cursor [] = cursor ≡ base
RawLines places h base cursor (c ∷ cs) = (c.upto ≡ cursor) × IsRawLine places h c × RawLines places h base c.before cs

-- a slot of mode RAW, and what came to its client
pub record LawfulRaw (h : List Entry) (w : Wanted) (s : Slot) (cs : List Came) : Type 0 where
  pub begun : s.plan.base ≤ s.cursor
  pub behind : s.cursor ≤ s.last
  pub within : s.last ≤ length h
  pub lines : RawLines w.places h s.plan.base s.cursor cs

-- what came, the newest first, accounts for these updates: each is told by its own row or counted among the lost, once
-- and in order
abbrev pub Accounts : List ℕ → List OwnRow → List What → Type 0
Accounts places us [] = us ≡ []
Accounts places us (what ∷ ws) =
    (rest : List OwnRow) × (gone : List OwnRow) × (us ≡ rest ++ gone) × RawSays places what gone
    × Accounts places rest ws
