-- The slot that joins an item, by its mode (General Concepts, modes, buffers and snapshots).
use Rattle.std.specs.Prelude.{ℕ, ◌-◌, List, length, min, Bool, true, false, Option, None, Some, is_some, if◌then◌else◌}
use Rattle.ls_event.specs.declared.event.Entry.{Entry}
use Rattle.ls_event.specs.declared.event.Mode.{Mode}
use Rattle.ls_event.specs.declared.event.Mode.TheVariants as mode
use Rattle.ls_event.specs.declared.item.Kind.{Kind}
use Rattle.ls_event.specs.declared.item.Kind.TheVariants as kind
use Rattle.ls_event.specs.declared.event.Snap.{Snap}
use Rattle.ls_event.specs.declared.event.Snap.TheVariants as snap
use Rattle.ls_event.specs.Shapes.{Shape}
use Rattle.ls_event.specs.Slots.{Plan, Slot, fresh, fresh_with}
use Rattle.ls_event.specs.Updates.{recent_rows}
use Rattle.ls_event.specs.Keyed.{keyed}
use Rattle.ls_event.specs.declared.limits.TheConstants.{MOST_BUFFER_SIZE, MOST_SNAPSHOT_ROWS}

-- RAW is allowed on each item, and else the item's own mode
abbrev pub is_mode_of : Mode → Kind → Bool
is_mode_of mode.Raw k = true
is_mode_of mode.Merge kind.Merge = true
is_mode_of mode.Distinct kind.Distinct = true
is_mode_of mode.Command kind.Command = true
is_mode_of m k = false

-- how many rows of a snapshot are asked for, if one is, no more than are kept
abbrev pub rows_asked : Snap → Option ℕ
rows_asked snap.No = None
rows_asked snap.All = Some MOST_SNAPSHOT_ROWS
rows_asked (snap.Last n) = Some n

-- the size that is asked for, as far as it may be, and this one where none is
abbrev pub size_or : ℕ → Option ℕ → ℕ
size_or size None = size
size_or size (Some asked) = min asked MOST_BUFFER_SIZE

-- a buffer's size: without one that is asked for it is 1 in mode MERGE and the greatest in mode DISTINCT; the other
-- modes have none
abbrev pub buffer_size : Mode → Option ℕ → ℕ
buffer_size mode.Merge asked = size_or 1 asked
buffer_size mode.Distinct asked = size_or MOST_BUFFER_SIZE asked
buffer_size mode.Raw asked = 1
buffer_size mode.Command asked = 1

-- what is settled when a slot joins after these events
abbrev pub plan_of : Shape → List Entry → Mode → ℕ → Plan
plan_of p h m size = record { mode = m; shape = p; size = size; base = length h }

-- in mode MERGE with a snapshot the item's state is told as if its last event had come just now
abbrev pub merge_joined : Plan → Option ℕ → Slot
merge_joined p asked = fresh p (if is_some asked then p.base - 1 else p.base)

-- mode RAW knows no snapshot
abbrev pub raw_joined : Plan → Slot
raw_joined p = fresh p p.base

-- in mode DISTINCT with a snapshot as many of the item's last rows are owed as were asked for, or as there are
abbrev pub distinct_joined : Plan → List Entry → Option ℕ → Slot
distinct_joined p h None = fresh p p.base
distinct_joined p h (Some asked) = fresh_with p (min asked (length (recent_rows h p.base)))

-- in mode COMMAND with a snapshot all keys that the item has are owed
abbrev pub command_joined : Plan → List Entry → Option ℕ → Slot
command_joined p h None = fresh p p.base
command_joined p h (Some asked) = fresh_with p (length (keyed p.shape h p.base))

-- the slot that joins in a mode with this plan, where so many rows of a snapshot are asked for, if one is
abbrev pub joined_in : Mode → Plan → List Entry → Option ℕ → Slot
joined_in mode.Merge p h asked = merge_joined p asked
joined_in mode.Raw p h asked = raw_joined p
joined_in mode.Distinct p h asked = distinct_joined p h asked
joined_in mode.Command p h asked = command_joined p h asked

-- the slot that joins with this plan, by its mode
abbrev pub joined : Plan → List Entry → Option ℕ → Slot
joined p h asked = joined_in p.mode p h asked
