-- What a buffer of mode MERGE holds, and the slots that it stands for.
use Rattle.std.specs.Prelude.{◌≡◌, ℕ, ◌+◌, ◌-◌, ◌≤◌, ◌<◌, List, [], ◌∷◌, ◌++◌, length, map, drop, replicate, Bool}
use Rattle.std.specs.Prelude.{false, ◌||◌, Option, None, Some, nat_lt, max, if◌then◌else◌, slice_get, All}
use Rattle.ls_value.specs.Values.{applied}
use Rattle.ls_value.specs.declared.row.Value.{Value}
use Rattle.ls_value.specs.declared.row.Cell.{Cell}
use Rattle.ls_value.specs.declared.row.Cell.TheVariants as cell
use Rattle.ls_event.specs.declared.event.Event.{Event}
use Rattle.ls_event.specs.declared.event.Event.TheVariants.{Update, Clear}
use Rattle.ls_event.specs.declared.event.Entry.{Entry}
use Rattle.ls_event.specs.declared.event.Mode.TheVariants as mode
use Rattle.ls_event.specs.declared.event.Taken.{Taken}
use Rattle.ls_event.specs.declared.event.Taken.TheVariants as taken
use Rattle.ls_event.specs.History.{between, merged}
use Rattle.ls_event.specs.Slots.{Plan, Slot}
use Rattle.ls_event.specs.Cuts.{touched_cells, flags_to, flagged_cells}

-- what an event says of each field: a Clear makes each null
abbrev pub event_cells : ℕ → Event → List Cell
event_cells fields (Update cells) = cells
event_cells fields Clear = replicate fields cell.Null

-- a state, the fields that the next cut tells of it, and what the events behind it say
pub record Merge : Type 0 where
  pub size : ℕ
  pub last : ℕ
  -- whether the state itself is in a cut to come, as a snapshot is at first
  pub owed : Bool
  pub row : List Value
  pub touched : List Bool
  pub later : List (List Cell)

-- the number of the state: that of the slot's cursor, but none before its joining, and at most the size before the last
-- number
abbrev pub row_number : Slot → ℕ
row_number s = max (max s.cursor s.plan.base) (s.last - s.plan.size)

-- whether the next cut is of that state itself
abbrev pub row_owed : Slot → Bool
row_owed s = nat_lt (max s.cursor (s.last - s.plan.size)) s.plan.base

-- the state is that of a number
pub record RowAt (b : Merge) (s : Slot) (h : List Entry) (at : ℕ) : Type 0 where
  pub row : b.row ≡ merged s.plan.shape.fields h at
  pub touched : b.touched ≡ flags_to h s at
  pub later : b.later ≡ map (λ e. event_cells s.plan.shape.fields e.event) (between h at s.last)

-- a buffer stands for a slot on a history
pub record StandsMerge (b : Merge) (s : Slot) (h : List Entry) : Type 0 where
  pub mode : s.plan.mode ≡ mode.Merge
  -- a snapshot is owed by the cursor alone
  pub owes : s.owed ≡ 0
  pub ends : s.ends ≡ false
  pub some : 0 < s.plan.size
  pub size : b.size ≡ s.plan.size
  pub last : b.last ≡ s.last
  pub behind : s.cursor ≤ s.last
  pub based : s.plan.base ≤ s.last
  pub near : s.plan.base ≤ s.cursor + 1
  pub within : s.last ≤ length h
  pub owed : b.owed ≡ row_owed s
  pub row_at : RowAt b s h (row_number s)

-- what must be so of a slot that joins a history at a number, at which this is the merged state
pub record IsJoining (n from : ℕ) (row : List Value) (p : Plan) (h : List Entry) : Type 0 where
  pub mode : p.mode ≡ mode.Merge
  pub fields : p.shape.fields ≡ length row
  pub size : p.size ≡ n
  pub base : p.base ≡ from
  pub within : from ≤ length h
  pub state : row ≡ merged p.shape.fields h from

-- with the state and the flags after the first event behind it
abbrev pub stepped : Merge → Option (List Cell) → Merge
stepped b None = b
stepped b (Some cells) =
    record b { row = applied b.row cells; touched = touched_cells b.touched cells; later = drop 1 b.later }

-- with the state and the flags of the next cut
abbrev pub due : Merge → Merge
due b = if b.owed then record b { owed = false } else stepped b (slice_get b.later 0)

-- whether it is pending
abbrev pub merge_is_pending : Merge → Bool
merge_is_pending b = b.owed || nat_lt 0 (length b.later)

-- the cut that tells the state
abbrev pub merge_change : Merge → Taken
merge_change b = taken.Change (flagged_cells b.touched b.row) (b.last - length b.later)

-- its next cut
abbrev pub merge_head : Merge → Option Taken
merge_head b = if merge_is_pending b then Some (merge_change (due b)) else None

-- with no field touched
abbrev pub untouched : Merge → Merge
untouched b = record b { touched = replicate (length b.touched) false }

-- after its next cut
abbrev pub merge_passed : Merge → Merge
merge_passed b = untouched (due b)

-- whether it holds more than the size, where an owed state counts as one
abbrev pub is_over : Merge → Bool
is_over b = nat_lt b.size (length b.later + (if b.owed then 1 else 0))

-- with the first event merged into the state, where there are more than the size
abbrev pub within_size : Merge → Merge
within_size b = if is_over b then due b else b

-- with one event more
abbrev pub with_event : Merge → Event → Merge
with_event b event = record b { last = b.last + 1; later = b.later ++ event_cells (length b.row) event ∷ [] }

-- after the event of the next number
abbrev pub merge_after : Merge → Event → Merge
merge_after b event = within_size (with_event b event)

-- what is true of each buffer: there is a flag for each field, and what is said later has a cell for each
pub record IsSoundMerge (b : Merge) : Type 0 where
  pub flags : length b.touched ≡ length b.row
  pub later : All (λ cells. length cells ≡ length b.row) b.later
