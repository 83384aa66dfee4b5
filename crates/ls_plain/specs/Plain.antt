-- The slots of which the plain programs speak.
use Rattle.std.specs.Prelude.{ℕ, List, map}
use Rattle.ls_event.specs.declared.event.Mode.TheVariants as mode
use Rattle.ls_event.specs.declared.item.Kind.TheVariants as kind
use Rattle.ls_event.specs.Shapes.{Shape}
use Rattle.ls_event.specs.Slots.{Slot, KeyCursor, fresh}
use Rattle.ls_plain.specs.declared.command.CommandSlot.{CommandSlot}
use Rattle.ls_plain.specs.declared.command.KeyTurn.{KeyTurn}
use Rattle.ls_plain.specs.declared.distinct.DistinctSlot.{DistinctSlot}
use Rattle.ls_plain.specs.declared.merge.MergeSlot.{MergeSlot}
use Rattle.ls_plain.specs.Shapes.{command_shape}

-- an item whose fields the modes RAW and DISTINCT don't look at
abbrev any_shape : Shape
any_shape = record { kind = kind.Distinct; fields = 0; key = 0; command = 0 }

-- an item of kind MERGE of so many fields
abbrev merge_shape : ℕ → Shape
merge_shape fields = record { kind = kind.Merge; fields = fields; key = 0; command = 0 }

-- a slot of mode MERGE, by its numbers
abbrev pub merge_slot : MergeSlot → Slot
merge_slot s =
    record (fresh (record { mode = mode.Merge; shape = merge_shape s.fields; size = s.size; base = 0 }) s.cursor) {
      last = s.last;
      has_started = s.has_started;
    }

-- a slot of mode RAW, by the last number that was enqueued and the cursor
abbrev pub raw_slot : ℕ → ℕ → Slot
raw_slot last cursor =
    record (fresh (record { mode = mode.Raw; shape = any_shape; size = 1; base = 0 }) cursor) { last = last }

-- a slot of mode DISTINCT, by its numbers
abbrev pub distinct_slot : DistinctSlot → Slot
distinct_slot s =
    record (fresh (record { mode = mode.Distinct; shape = any_shape; size = s.size; base = s.base }) s.cursor) {
      last = s.last;
      owed = s.owed;
      ends = s.ends;
    }

-- the cursor of a key, by its turn
abbrev pub key_cursor_of : KeyTurn → KeyCursor
key_cursor_of k = record { key = k.key; cursor = k.cursor }

-- a slot of mode COMMAND, by its item, its numbers, and the turns of keys
abbrev pub command_slot : CommandSlot → List KeyTurn → Slot
command_slot s turns =
    record (fresh (record { mode = mode.Command; shape = command_shape s.shape; size = 1; base = s.base }) s.cursor) {
      last = s.last;
      owed = s.owed;
      ends = s.ends;
      key_cursors = map key_cursor_of turns;
    }
