-- The record of a slot, an item in a subscription: numbers and flags.
use Rattle.std.specs.Prelude.{◌≡◌, ℕ, ◌+◌, ◌-◌, ◌<◌, List, [], ◌∷◌, ◌++◌, length, take, Bool, false, true, nat_le}
use Rattle.ls_event.specs.declared.event.Entry.{Entry}
use Rattle.ls_event.specs.declared.event.Stored.{Stored}
use Rattle.ls_event.specs.declared.event.Mode.{Mode}
use Rattle.ls_event.specs.declared.event.Taken.{Taken}
use Rattle.ls_event.specs.declared.event.Taken.TheVariants as taken
use Rattle.ls_event.specs.Shapes.{Shape}
use Rattle.ls_event.specs.States.{state_at, key_row}
use Rattle.ls_event.specs.declared.limits.TheConstants.{MOST_LAG}

-- what joining settles: the mode, what the item's definition says, the buffer's size, and the item's number
pub record Plan : Type 0 where
  pub mode : Mode
  pub shape : Shape
  pub size : ℕ
  pub base : ℕ

-- the cursor of a key
pub record KeyCursor : Type 0 where
  pub key : List ℕ
  pub cursor : ℕ

-- a slot: the last number that was enqueued, and its cursor, the number up to which its lines tell of the item
pub record Slot : Type 0 where
  pub plan : Plan
  pub last : ℕ
  pub cursor : ℕ
  -- how many rows or keys of the snapshot are owed, and whether its end is
  pub owed : ℕ
  pub ends : Bool
  -- whether a first line was given
  pub has_started : Bool
  -- the cursors of keys, the newest first; other keys have the slot's cursor
  pub key_cursors : List KeyCursor

-- a slot that joins at a cursor
abbrev pub fresh : Plan → ℕ → Slot
fresh p cursor =
    record {
      plan = p;
      last = p.base;
      cursor = cursor;
      owed = 0;
      ends = false;
      has_started = false;
      key_cursors = [];
    }

-- a slot that joins with a snapshot of so many rows or keys and its end
abbrev pub fresh_with : Plan → ℕ → Slot
fresh_with p owed = record (fresh p p.base) { owed = owed; ends = true }

-- after an enqueue
abbrev pub enqueued : Slot → Slot
enqueued s = record s { last = s.last + 1 }

-- after a cut
abbrev pub passed : Slot → Taken → Slot
passed s (taken.Row row upto) = record s { cursor = upto; owed = s.owed - 1 }
passed s (taken.Lost count upto) = record s { cursor = upto }
passed s (taken.Change cells upto) = record s { cursor = upto; has_started = true }
passed s (taken.Key key row upto) =
    record s { owed = s.owed - 1; key_cursors = record { key = key; cursor = upto } ∷ s.key_cursors }
passed s (taken.Cleared upto) = record s { cursor = upto; key_cursors = [] }
passed s taken.EndOfSnapshot = record s { owed = 0; ends = false }

-- whether a slot lags by as much as it may behind so many events
abbrev pub is_far : ℕ → Slot → Bool
is_far number s = nat_le (s.last + MOST_LAG) number

-- a stored event is the entry after the last one that was enqueued
pub record IsNext (s : Slot) (h : List Entry) (x : Stored) : Type 0 where
  pub entry : Entry
  pub more : s.last < length h
  pub next : take (s.last + 1) h ≡ take s.last h ++ entry ∷ []
  pub no : x.no ≡ s.last + 1
  pub event : x.event ≡ entry.event
  pub after : x.after ≡ key_row s.plan.shape (state_at s.plan.shape h (s.last + 1)) x.event
