-- What is true of a slot of mode DISTINCT: the snapshot's rows and its end, and then rows of which none is older than
-- the one before (General Concepts, mode DISTINCT).
use Rattle.std.specs.Prelude.{◌≡◌, ◌+◌, ◌-◌, ◌<◌, ◌≤◌, ◌⊎◌, ℕ, List, [], ◌∷◌, ◌++◌, length, take, Bool, true, false}
use Rattle.std.specs.Prelude.{Option, None, Some, slice_get}
use Rattle.ls_value.specs.declared.row.Value.{Value}
use Rattle.ls_value.specs.Values.{projected}
use Rattle.ls_event.specs.declared.event.Entry.{Entry}
use Rattle.ls_event.specs.declared.updates.OwnRow.{OwnRow}
use Rattle.ls_event.specs.Slots.{Plan, Slot}
use Rattle.ls_event.specs.Updates.{last_of, updates_between, last_clear, recent_rows}
use Rattle.ls_event.specs.OwnCuts.{first_of_last}
use Rattle.ls_mirror.specs.Client.{What, Row, Lost, Cleared, End}
use Rattle.ls_record.specs.Came.{Came}
use Rattle.ls_record.specs.Cutting.{Wanted}

-- the rows of the snapshot of an item after so many events, where this many were asked for: no more than an item keeps
abbrev pub snapshot_rows : List Entry → ℕ → ℕ → List (List Value)
snapshot_rows h base asked = last_of asked (recent_rows h base)

-- a line of the snapshot or its end leaves the slot at its first cursor
pub record Stays (base : ℕ) (h : List Entry) (c : Came) : Type 0 where
  pub before : c.before ≡ base
  pub upto : c.upto ≡ base
  pub reached : base ≤ c.at
  pub within : c.at ≤ length h

-- the snapshot that a client is to have: these rows of an item's history up to a base, at the places of a schema
pub record Opening : Type 0 where
  pub places : List ℕ
  pub history : List Entry
  pub base : ℕ
  pub rows : List (List Value)

-- the line that follows n others tells the snapshot's row behind n others
abbrev pub SnapshotTells : Opening → List Came → Type 0
SnapshotTells o [] = Unit {0}
SnapshotTells o (c ∷ cs) =
    (r : List Value) × (slice_get o.rows (length cs) ≡ Some r) × (c.what ≡ Row (projected r o.places))
    × Stays o.base o.history c × SnapshotTells o cs

-- what a line behind the snapshot says: the own row of the update of its number, which is the first of the last n that
-- had come, where no Clear had; or the last Clear that had come
abbrev pub DistinctSays : List ℕ → ℕ → List Entry → Came → What → Type 0
DistinctSays places size h c (Row r) =
    (u : OwnRow) × (first_of_last size (updates_between h c.before c.at) ≡ Some u) × (u.no ≡ c.upto)
    × (r ≡ projected u.row places) × (last_clear h c.before c.at ≡ None)
DistinctSays places size h c (Lost k) = ⊥
DistinctSays places size h c Cleared = last_clear h c.before c.at ≡ Some c.upto
DistinctSays places size h c End = ⊥

-- a line behind the snapshot: it tells of later events than the line before it
pub record IsDistinctLine (places : List ℕ) (size : ℕ) (h : List Entry) (c : Came) : Type 0 where
  pub rises : c.before < c.upto
  pub reached : c.upto ≤ c.at
  pub within : c.at ≤ length h
  pub says : DistinctSays places size h c c.what

-- the lines behind the snapshot lead from the slot's first cursor to this one, each from that of the line before it
abbrev pub LaterLines : List ℕ → Plan → List Entry → ℕ → List Came → Type 0
LaterLines places p h cursor [] = cursor ≡ p.base
LaterLines places p h cursor (c ∷ cs) =
    (c.upto ≡ cursor) × IsDistinctLine places p.size h c × LaterLines places p h c.before cs

-- before its end all lines tell rows of the snapshot, and the others are owed
pub record SnapGoing (o : Opening) (cursor owed : ℕ) (cs : List Came) : Type 0 where
  pub stays : cursor ≡ o.base
  pub rest : length cs + owed ≡ length o.rows
  pub lines : SnapshotTells o cs

-- at its end each row had come, unless a Clear had
pub record IsSnapEnd (o : Opening) (c : Came) (sooner : List Came) : Type 0 where
  pub says : c.what ≡ End
  pub stays : Stays o.base o.history c
  pub lines : SnapshotTells o sooner
  pub whole : (length sooner ≡ length o.rows) ⊎ ((n : ℕ) × (last_clear o.history o.base c.at ≡ Some n))

-- the lines of the snapshot, its end, and those behind it
pub record SnapDone (p : Plan) (o : Opening) (cursor : ℕ) (cs : List Came) : Type 0 where
  pub later : List Came
  pub end : Came
  pub sooner : List Came
  pub are : cs ≡ later ++ end ∷ sooner
  pub ends : IsSnapEnd o end sooner
  pub lines : LaterLines o.places p o.history cursor later

-- the snapshot of so many rows, as it was when a slot joined
abbrev pub opening_of : List Entry → Wanted → Plan → ℕ → Opening
opening_of h w p asked =
    record { places = w.places; history = h; base = p.base; rows = snapshot_rows h p.base asked }

-- what came, by the rows of a snapshot that were asked for, if they were, and by whether its end is owed; without a
-- snapshot there is nothing of it
abbrev pub DistinctLines : List Entry → Wanted → Slot → List Came → Option ℕ → Bool → Type 0
DistinctLines h w s cs None true = ⊥
DistinctLines h w s cs None false = (s.owed ≡ 0) × LaterLines w.places s.plan h s.cursor cs
DistinctLines h w s cs (Some asked) true = SnapGoing (opening_of h w s.plan asked) s.cursor s.owed cs
DistinctLines h w s cs (Some asked) false = (s.owed ≡ 0) × SnapDone s.plan (opening_of h w s.plan asked) s.cursor cs

-- a slot of mode DISTINCT, and what came to its client
pub record LawfulDistinct (h : List Entry) (w : Wanted) (s : Slot) (cs : List Came) : Type 0 where
  pub some : 0 < s.plan.size
  pub begun : s.plan.base ≤ s.cursor
  pub behind : s.cursor ≤ s.last
  pub within : s.last ≤ length h
  pub lines : DistinctLines h w s cs w.snapshot s.ends

-- the updates that a line passes over without a row of their own aren't among the last n that had come
abbrev pub LeavesOut : ℕ → List Entry → Came → Type 0
LeavesOut n h c =
    updates_between h c.before (c.upto - 1) ≡ take (length (updates_between h c.before c.at) - n)
    (updates_between h c.before c.at)
