-- What a buffer of mode RAW holds, and the slots that it stands for.
use Rattle.std.specs.Prelude.{◌≡◌, ℕ, ◌+◌, ◌-◌, ◌≤◌, List, [], ◌∷◌, ◌++◌, length, drop, false, Option, nat_lt}
use Rattle.std.specs.Prelude.{if◌then◌else◌, option_map, slice_get}
use Rattle.std.specs.Option.{option_map_or}
use Rattle.ls_value.specs.declared.row.Value.{Value}
use Rattle.ls_event.specs.declared.event.Event.{Event}
use Rattle.ls_event.specs.declared.event.Event.TheVariants.{Update, Clear}
use Rattle.ls_event.specs.declared.event.Entry.{Entry}
use Rattle.ls_event.specs.declared.event.Mode.TheVariants as mode
use Rattle.ls_event.specs.declared.event.Taken.{Taken}
use Rattle.ls_event.specs.declared.updates.OwnRow.{OwnRow}
use Rattle.ls_event.specs.Slots.{Plan, Slot}
use Rattle.ls_event.specs.Updates.{last_of, updates_between, own_row}
use Rattle.ls_event.specs.OwnCuts.{raw_taken}
use Rattle.ls_event.specs.declared.limits.TheConstants.{RAW_KEEPS}

-- the updates that are kept, how many before them were lost, and the slot's cursor and last number
pub record Raw : Type 0 where
  pub kept : List OwnRow
  pub lost : ℕ
  pub cursor : ℕ
  pub last : ℕ

-- a buffer stands for a slot on a history
pub record StandsRaw (b : Raw) (s : Slot) (h : List Entry) : Type 0 where
  pub mode : s.plan.mode ≡ mode.Raw
  -- there is no snapshot
  pub owes : s.owed ≡ 0
  pub ends : s.ends ≡ false
  pub last : b.last ≡ s.last
  pub cursor : b.cursor ≡ s.cursor
  pub behind : s.cursor ≤ s.last
  pub within : s.last ≤ length h
  pub kept : b.kept ≡ last_of RAW_KEEPS (updates_between h s.cursor s.last)
  pub lost : b.lost ≡ length (updates_between h s.cursor s.last) - RAW_KEEPS

-- what must be so of a slot that joins a history at a number
pub record IsJoining (from : ℕ) (p : Plan) (h : List Entry) : Type 0 where
  pub mode : p.mode ≡ mode.Raw
  pub base : p.base ≡ from
  pub within : from ≤ length h

-- its next cut
abbrev pub raw_head : Raw → Option Taken
raw_head b = option_map (raw_taken b.lost) (slice_get b.kept 0)

-- after the update of the next number
abbrev pub raw_updated : Raw → List Value → Raw
raw_updated b row =
    record b {
      kept = last_of RAW_KEEPS (b.kept ++ record { row = row; no = b.last + 1 } ∷ []);
      lost = if nat_lt (length b.kept) RAW_KEEPS then b.lost else b.lost + 1;
      last = b.last + 1;
    }

-- after the event of the next number; a Clear leaves the updates
abbrev pub raw_after : Raw → Event → Raw
raw_after b (Update cells) = raw_updated b (own_row cells)
raw_after b Clear = record b { last = b.last + 1 }

-- the number of the first update that is kept, 0 where none is
abbrev pub raw_first_no : Raw → ℕ
raw_first_no b = option_map_or (λ u. u.no) (slice_get b.kept 0) 0

-- after its next cut
abbrev pub raw_passed : Raw → Raw
raw_passed b =
    if nat_lt 0 b.lost then record b { lost = 0; cursor = raw_first_no b - 1 }
    else record b { kept = drop 1 b.kept; cursor = raw_first_no b }
