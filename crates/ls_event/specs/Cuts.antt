-- The cuts of a slot: what the next line is made of, over numbers and the whole history (General Concepts, modes and
-- buffers).
use Rattle.std.specs.Prelude.{◌≡◌, ℕ, ◌+◌, ◌-◌, List, [], ◌∷◌, length, replicate, Bool, true, false, not, ◌||◌, Option}
use Rattle.std.specs.Prelude.{None, Some, is_some, nat_lt, max, min, if◌then◌else◌}
use Rattle.ls_value.specs.declared.row.Value.{Value}
use Rattle.ls_value.specs.declared.row.Value.TheVariants as value
use Rattle.ls_value.specs.declared.row.Cell.{Cell}
use Rattle.ls_value.specs.declared.row.Cell.TheVariants as cell
use Rattle.ls_event.specs.declared.event.Event.{Event}
use Rattle.ls_event.specs.declared.event.Event.TheVariants.{Update, Clear}
use Rattle.ls_event.specs.declared.event.Entry.{Entry}
use Rattle.ls_event.specs.declared.event.Mode.{Mode}
use Rattle.ls_event.specs.declared.event.Mode.TheVariants as mode
use Rattle.ls_event.specs.declared.event.Taken.{Taken}
use Rattle.ls_event.specs.declared.event.Taken.TheVariants as taken
use Rattle.ls_event.specs.History.{between, merged}
use Rattle.ls_event.specs.Slots.{Slot}
use Rattle.ls_event.specs.Updates.{updates_between, clear_or}
use Rattle.ls_event.specs.OwnCuts.{raw_cut, distinct_cut}
use Rattle.ls_event.specs.CommandCuts.{command_cut, touched_keys}
use Rattle.ls_event.specs.declared.limits.TheConstants.{RAW_KEEPS}

-- whether a cell says a value
abbrev pub says : Cell → Bool
says cell.Same = false
says cell.Null = true
says (cell.Text t) = true

-- which fields were touched, after one more update
abbrev pub touched_cells : List Bool → List Cell → List Bool
touched_cells [] cells = []
touched_cells (t ∷ ts) [] = t ∷ ts
touched_cells (t ∷ ts) (c ∷ cs) = (t || says c) ∷ touched_cells ts cs

-- which fields were touched, after one more event; a Clear touches all
abbrev pub touched_after : List Bool → Event → List Bool
touched_after ts (Update cells) = touched_cells ts cells
touched_after ts Clear = replicate (length ts) true

-- which fields were touched, after these entries
abbrev pub touched_after_all : List Bool → List Entry → List Bool
touched_after_all ts [] = ts
touched_after_all ts (e ∷ es) = touched_after_all (touched_after ts e.event) es

-- the cell that says a value
abbrev pub cell_saying : Value → Cell
cell_saying value.Null = cell.Null
cell_saying (value.Text t) = cell.Text t

-- cells that say the values of the fields that are set, and Same elsewhere
abbrev pub flagged_cells : List Bool → List Value → List Cell
flagged_cells [] row = []
flagged_cells (t ∷ ts) [] = []
flagged_cells (t ∷ ts) (v ∷ row) = (if t then cell_saying v else cell.Same) ∷ flagged_cells ts row

-- the fields that a cut up to a number tells: those touched since the slot's cursor, and every one before the first
-- line
abbrev pub flags_to : List Entry → Slot → ℕ → List Bool
flags_to h s to = touched_after_all (replicate s.plan.shape.fields (not s.has_started)) (between h s.cursor to)

-- the cut up to a number
abbrev pub change_to : List Entry → Slot → ℕ → Taken
change_to h s to = taken.Change (flagged_cells (flags_to h s to) (merged s.plan.shape.fields h to)) to

-- the cursor that the next cut of mode MERGE moves to: at most the last n events are told of one by one
abbrev pub next_cursor : Slot → ℕ
next_cursor s = max s.cursor (s.last - s.plan.size) + 1

-- the next cut of mode MERGE
abbrev pub merge_cut : List Entry → Slot → Option Taken
merge_cut h s = if nat_lt s.cursor s.last then Some (change_to h s (next_cursor s)) else None

-- the next cut of a mode
abbrev pub cut_of : Mode → List Entry → Slot → Option Taken
cut_of mode.Merge h s = merge_cut h s
cut_of mode.Raw h s = raw_cut h s
cut_of mode.Distinct h s = distinct_cut h s
cut_of mode.Command h s = command_cut h s

-- the next cut of a slot
abbrev pub cut : List Entry → Slot → Option Taken
cut h s = cut_of s.plan.mode h s

-- a row of the snapshot, its end or an event is in a cut to come
abbrev pub is_behind : Slot → Bool
is_behind s = nat_lt 0 s.owed || s.ends || nat_lt s.cursor s.last

-- whether a slot of a mode is pending: something is in a cut to come, which in mode COMMAND is a key, the snapshot's
-- end or a Clear
abbrev pub pending_of : Mode → List Entry → Slot → Bool
pending_of mode.Merge h s = is_behind s
pending_of mode.Raw h s = is_behind s
pending_of mode.Distinct h s = is_behind s
pending_of mode.Command h s = is_some (command_cut h s)

-- whether a slot is pending
abbrev pub is_pending : List Entry → Slot → Bool
is_pending h s = pending_of s.plan.mode h s

-- how many updates of a slot of a mode wait (this project's profile)
abbrev pub waiting_of : Mode → List Entry → Slot → ℕ
waiting_of mode.Merge h s = min s.plan.size (s.last - max s.cursor s.plan.base)
waiting_of mode.Raw h s = min RAW_KEEPS (length (updates_between h s.cursor s.last))
waiting_of mode.Distinct h s = min s.plan.size (length (updates_between h (clear_or h s.cursor s.last) s.last))
waiting_of mode.Command h s = length (touched_keys h s)

-- how many updates of a slot wait
abbrev pub waiting_count : List Entry → Slot → ℕ
waiting_count h s = waiting_of s.plan.mode h s

-- what a cut tells of fields has a value or a cell for each
abbrev pub Fits : ℕ → Option Taken → Type 0
Fits fields (Some (taken.Row row upto)) = length row ≡ fields
Fits fields (Some (taken.Change cells upto)) = length cells ≡ fields
Fits fields (Some (taken.Key key (Some row) upto)) = length row ≡ fields
Fits fields (Some (taken.Key key None upto)) = Unit {0}
Fits fields (Some (taken.Lost count upto)) = Unit {0}
Fits fields (Some (taken.Cleared upto)) = Unit {0}
Fits fields (Some taken.EndOfSnapshot) = Unit {0}
Fits fields None = Unit {0}
