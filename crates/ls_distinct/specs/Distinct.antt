-- What a buffer of mode DISTINCT holds, and the slots that it stands for.
use Rattle.std.specs.Prelude.{◌≡◌, ℕ, ◌+◌, ◌≤◌, ◌<◌, List, [], ◌∷◌, ◌++◌, length, drop, Bool, true, false, ◌||◌, Option}
use Rattle.std.specs.Prelude.{None, Some, nat_lt, is_some, if◌then◌else◌, option_map, slice_get}
use Rattle.std.specs.Option.{option_map_or}
use Rattle.ls_value.specs.declared.row.Value.{Value}
use Rattle.ls_event.specs.declared.event.Event.{Event}
use Rattle.ls_event.specs.declared.event.Event.TheVariants.{Update, Clear}
use Rattle.ls_event.specs.declared.event.Entry.{Entry}
use Rattle.ls_event.specs.declared.event.Mode.TheVariants as mode
use Rattle.ls_event.specs.declared.event.Taken.{Taken}
use Rattle.ls_event.specs.declared.event.Taken.TheVariants as taken
use Rattle.ls_event.specs.declared.snapshot.Snapshot.{Snapshot}
use Rattle.ls_event.specs.declared.snapshot.Snapshot.TheVariants as snapshot
use Rattle.ls_event.specs.declared.updates.OwnRow.{OwnRow}
use Rattle.ls_event.specs.Slots.{Plan, Slot, fresh, fresh_with}
use Rattle.ls_event.specs.Updates.{last_of, updates_between, own_row, recent_rows, last_clear, clear_or}
use Rattle.ls_event.specs.OwnCuts.{row_taken}

-- the size, the numbers of the slot, whether the end of the snapshot is owed, the last Clear that no cut took, the rows
-- of the snapshot that are owed, and the updates that are kept
pub record Distinct : Type 0 where
  pub size : ℕ
  pub base : ℕ
  pub last : ℕ
  pub cursor : ℕ
  pub ends : Bool
  pub cleared : Option ℕ
  pub rows : List (List Value)
  pub kept : List OwnRow

-- a buffer stands for a slot on a history
pub record StandsDistinct (b : Distinct) (s : Slot) (h : List Entry) : Type 0 where
  pub mode : s.plan.mode ≡ mode.Distinct
  pub some : 0 < s.plan.size
  pub size : b.size ≡ s.plan.size
  pub base : b.base ≡ s.plan.base
  pub last : b.last ≡ s.last
  pub cursor : b.cursor ≡ s.cursor
  pub ends : b.ends ≡ s.ends
  pub based : s.plan.base ≤ s.cursor
  pub behind : s.cursor ≤ s.last
  pub within : s.last ≤ length h
  pub enough : s.owed ≤ length (recent_rows h s.plan.base)
  pub first : 0 < s.owed → (s.cursor ≡ s.plan.base) × (s.ends ≡ true)
  pub rows : b.rows ≡ last_of s.owed (recent_rows h s.plan.base)
  pub cleared : b.cleared ≡ last_clear h s.cursor s.last
  pub kept : b.kept ≡ last_of s.plan.size (updates_between h (clear_or h s.cursor s.last) s.last)

-- what a Clear gives: the end of the snapshot, where it is owed, and then itself
abbrev pub distinct_clear_head : Distinct → ℕ → Option Taken
distinct_clear_head b c = if b.ends then Some taken.EndOfSnapshot else Some (taken.Cleared c)

-- its next cut, by the last Clear that no cut took
abbrev pub distinct_head_of : Distinct → Option ℕ → Option Taken
distinct_head_of b (Some c) = distinct_clear_head b c
distinct_head_of b None =
    if nat_lt 0 (length b.rows) then option_map (λ row. taken.Row row b.base) (slice_get b.rows 0)
    else if b.ends then Some taken.EndOfSnapshot
    else option_map row_taken (slice_get b.kept 0)

-- its next cut
abbrev pub distinct_head : Distinct → Option Taken
distinct_head b = distinct_head_of b b.cleared

-- whether a row of the snapshot, its end or an event is in a cut to come
abbrev pub distinct_is_pending : Distinct → Bool
distinct_is_pending b = nat_lt 0 (length b.rows) || b.ends || nat_lt b.cursor b.last

-- after the update of the next number
abbrev pub distinct_updated : Distinct → List Value → Distinct
distinct_updated b row =
    record b { kept = last_of b.size (b.kept ++ record { row = row; no = b.last + 1 } ∷ []); last = b.last + 1 }

-- after the event of the next number: a Clear drops the updates
abbrev pub distinct_after : Distinct → Event → Distinct
distinct_after b (Update cells) = distinct_updated b (own_row cells)
distinct_after b Clear = record b { kept = []; cleared = Some (b.last + 1); last = b.last + 1 }

-- after the end of the snapshot
abbrev pub distinct_ended : Distinct → Distinct
distinct_ended b = record b { ends = false; rows = [] }

-- after a row of the snapshot
abbrev pub row_passed : Distinct → Distinct
row_passed b = record b { rows = drop 1 b.rows; cursor = b.base }

-- the number of the first update that is kept, 0 where none is
abbrev pub distinct_first_no : Distinct → ℕ
distinct_first_no b = option_map_or (λ u. u.no) (slice_get b.kept 0) 0

-- after its next cut, by the last Clear that no cut took
abbrev pub distinct_passed_of : Distinct → Option ℕ → Distinct
distinct_passed_of b (Some c) = if b.ends then distinct_ended b else record b { cursor = c; cleared = None }
distinct_passed_of b None =
    if nat_lt 0 (length b.rows) then record b { rows = drop 1 b.rows; cursor = b.base }
    else if b.ends then distinct_ended b
    else record b { kept = drop 1 b.kept; cursor = distinct_first_no b }

-- after its next cut
abbrev pub distinct_passed : Distinct → Distinct
distinct_passed b = distinct_passed_of b b.cleared

-- the rows of a snapshot of mode DISTINCT
abbrev pub distinct_rows : Option Snapshot → List (List Value)
distinct_rows (Some (snapshot.Distinct rows)) = rows
distinct_rows (Some (snapshot.Merge row)) = []
distinct_rows (Some (snapshot.Command rows)) = []
distinct_rows None = []

-- there is no snapshot, or one of mode DISTINCT
abbrev pub IsOfDistinct : Option Snapshot → Type 0
IsOfDistinct None = Unit {0}
IsOfDistinct (Some (snapshot.Distinct rows)) = Unit {0}
IsOfDistinct (Some (snapshot.Merge row)) = ⊥
IsOfDistinct (Some (snapshot.Command rows)) = ⊥

-- a buffer that is new at a number, with so many of the last rows of a snapshot, or without one
abbrev pub distinct_joining : ℕ → ℕ → Option Snapshot → ℕ → Distinct
distinct_joining base n first many =
    record {
      size = n;
      base = base;
      last = base;
      cursor = base;
      ends = is_some first;
      cleared = None;
      rows = last_of many (distinct_rows first);
      kept = [];
    }

-- what must be so of a slot that joins a history at a number
pub record IsJoining (from n : ℕ) (p : Plan) (h : List Entry) : Type 0 where
  pub mode : p.mode ≡ mode.Distinct
  pub size : p.size ≡ n
  pub base : p.base ≡ from
  pub whole : from ≡ length h

-- the slot that joins: with a snapshot it owes so many rows and its end
abbrev pub distinct_joined_slot : Plan → Option Snapshot → ℕ → Slot
distinct_joined_slot p None many = fresh p p.base
distinct_joined_slot p (Some first) many = fresh_with p many

-- a snapshot handed in is the item's state, of which so many rows are there
abbrev pub IsSnapshotOf : List Entry → Option Snapshot → ℕ → Type 0
IsSnapshotOf h None many = many ≡ 0
IsSnapshotOf h (Some first) many = (distinct_rows (Some first) ≡ recent_rows h (length h))
    × (many ≤ length (recent_rows h (length h)))
