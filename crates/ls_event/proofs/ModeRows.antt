-- Examples of the definitions of each mode, computed: items with one field, and a table with a key, a command and a value.
use Rattle.std.proofs.Common.{◌≡◌, ℕ, ◌+◌, List, [], ◌∷◌, replicate, refl, true, false, None, Some, codes}
use Rattle.ls_value.specs.declared.row.Cell.{Cell}
use Rattle.ls_value.specs.declared.row.Cell.TheVariants as cell
use Rattle.ls_value.specs.declared.row.Value.{Value}
use Rattle.ls_value.specs.declared.row.Value.TheVariants as value
use Rattle.ls_event.specs.declared.event.Event.{Event}
use Rattle.ls_event.specs.declared.event.Event.TheVariants.{Update, Clear}
use Rattle.ls_event.specs.declared.event.Entry.{Entry}
use Rattle.ls_event.specs.declared.event.Mode.{Mode}
use Rattle.ls_event.specs.declared.event.Mode.TheVariants as mode
use Rattle.ls_event.specs.declared.event.Taken.TheVariants as taken
use Rattle.ls_event.specs.Shapes.{Shape}
use Rattle.ls_event.specs.declared.item.Kind.TheVariants as kind
use Rattle.ls_event.specs.Slots.{Plan, Slot, fresh, fresh_with, passed}
use Rattle.ls_event.specs.Updates.{own_row, updates_between, last_clear, recent_rows}
use Rattle.ls_event.specs.Keyed.{keyed, row_at, is_before}
use Rattle.ls_event.specs.CommandCuts.{command_queue}
use Rattle.ls_event.specs.Cuts.{cut, is_pending, waiting_count}
use Rattle.ls_event.specs.States.{push_refusal}
use Rattle.ls_event.specs.declared.event.PushRefused.TheVariants as push
use Rattle.ls_event.specs.declared.snapshot.Snapshot.{Snapshot}
use Rattle.ls_event.specs.declared.snapshot.Snapshot.TheVariants as state

abbrev an : Event → Entry
an event = record { adapter = 1; seq = 1; event = event }

-- an update of the one field to a digit, and the row with this digit
abbrev says : ℕ → Entry
says d = an (Update (cell.Text ((48 + d) ∷ []) ∷ []))

abbrev row : ℕ → List Value
row d = value.Text ((48 + d) ∷ []) ∷ []

abbrev plan : Mode → ℕ → ℕ → Plan
plan mode size base = record { mode = mode; shape = record { kind = kind.Distinct; fields = 1; key = 0; command = 0 }; size = size; base = base }

-- a slot that joined at a number, and to which the events up to another were enqueued
abbrev slot : Mode → ℕ → ℕ → ℕ → Slot
slot mode size base last = record (fresh (plan mode size base) base) { last = last }

-- the same with so many rows of the snapshot and its end
abbrev with_snapshot : Mode → ℕ → ℕ → ℕ → ℕ → Slot
with_snapshot mode size base last owed = record (fresh_with (plan mode size base) owed) { last = last }

-- 1 to 5
abbrev five : List Entry
five = says 1 ∷ says 2 ∷ says 3 ∷ says 4 ∷ says 5 ∷ []

-- 1, 2, a Clear, 3, 4, a Clear
abbrev twice_cleared : List Entry
twice_cleared = says 1 ∷ says 2 ∷ an Clear ∷ says 3 ∷ says 4 ∷ an Clear ∷ []

-- so many updates
abbrev many : ℕ → List Entry
many n = replicate n (says 1)

-- own rows, updates and Clears

pub own_row_of_same : own_row (cell.Same ∷ cell.Null ∷ cell.Text (120 ∷ []) ∷ []) ≡ value.Null ∷ value.Null ∷ value.Text (120 ∷ []) ∷ []
own_row_of_same = refl

pub updates_of_part : updates_between twice_cleared 1 5 ≡ record { row = row 2; no = 2 } ∷ record { row = row 3; no = 4 } ∷ record { row = row 4; no = 5 } ∷ []
updates_of_part = refl

pub no_clear_yet : last_clear twice_cleared 0 2 ≡ None
no_clear_yet = refl

pub first_clear : last_clear twice_cleared 0 5 ≡ Some 3
first_clear = refl

pub second_clear : last_clear twice_cleared 0 6 ≡ Some 6
second_clear = refl

pub clear_behind_place : last_clear twice_cleared 3 5 ≡ None
clear_behind_place = refl

pub recent_since_clear : recent_rows twice_cleared 5 ≡ row 3 ∷ row 4 ∷ []
recent_since_clear = refl

pub recent_none : recent_rows twice_cleared 6 ≡ []
recent_none = refl

pub recent_32 : recent_rows (says 2 ∷ many 32) 33 ≡ replicate 32 (row 1)
recent_32 = refl

-- RAW: all but the last 256 updates are lost, and their number is told first

pub raw_first : cut five (slot mode.Raw 1 0 5) ≡ Some (taken.Row (row 1) 1)
raw_first = refl

pub raw_second : cut five (passed (slot mode.Raw 1 0 5) (taken.Row (row 1) 1)) ≡ Some (taken.Row (row 2) 2)
raw_second = refl

pub raw_passes_clear : cut twice_cleared (passed (slot mode.Raw 1 0 6) (taken.Row (row 2) 2)) ≡ Some (taken.Row (row 3) 4)
raw_passes_clear = refl

pub raw_rest_of_clears : cut twice_cleared (passed (slot mode.Raw 1 0 6) (taken.Row (row 4) 5)) ≡ None
raw_rest_of_clears = refl

pub raw_rest_is_pending : is_pending twice_cleared (passed (slot mode.Raw 1 0 6) (taken.Row (row 4) 5)) ≡ true
raw_rest_is_pending = refl

pub raw_none_lost : cut (many 256) (slot mode.Raw 1 0 256) ≡ Some (taken.Row (row 1) 1)
raw_none_lost = refl

pub raw_44_lost : cut (many 300) (slot mode.Raw 1 0 300) ≡ Some (taken.Lost 44 44)
raw_44_lost = refl

pub raw_behind_lost : cut (many 300) (passed (slot mode.Raw 1 0 300) (taken.Lost 44 44)) ≡ Some (taken.Row (row 1) 45)
raw_behind_lost = refl

pub raw_waits_256 : waiting_count (many 300) (slot mode.Raw 1 0 300) ≡ 256
raw_waits_256 = refl

pub raw_waits_updates_alone : waiting_count twice_cleared (slot mode.Raw 1 0 6) ≡ 4
raw_waits_updates_alone = refl

-- DISTINCT: older updates than the last of the buffer's size are dropped

pub distinct_fourth : cut five (slot mode.Distinct 2 0 5) ≡ Some (taken.Row (row 4) 4)
distinct_fourth = refl

pub distinct_fifth : cut five (passed (slot mode.Distinct 2 0 5) (taken.Row (row 4) 4)) ≡ Some (taken.Row (row 5) 5)
distinct_fifth = refl

pub distinct_none_left : cut five (passed (slot mode.Distinct 2 0 5) (taken.Row (row 5) 5)) ≡ None
distinct_none_left = refl

pub distinct_not_pending : is_pending five (passed (slot mode.Distinct 2 0 5) (taken.Row (row 5) 5)) ≡ false
distinct_not_pending = refl

pub distinct_waits_2 : waiting_count five (slot mode.Distinct 2 0 5) ≡ 2
distinct_waits_2 = refl

-- the snapshot's rows come first and don't count against the size, then its end

pub distinct_snapshot : cut five (with_snapshot mode.Distinct 1 3 5 2) ≡ Some (taken.Row (row 2) 3)
distinct_snapshot = refl

pub distinct_snapshot_more : cut five (passed (with_snapshot mode.Distinct 1 3 5 2) (taken.Row (row 2) 3)) ≡ Some (taken.Row (row 3) 3)
distinct_snapshot_more = refl

pub distinct_snapshot_end : cut five (with_snapshot mode.Distinct 1 3 5 0) ≡ Some taken.EndOfSnapshot
distinct_snapshot_end = refl

pub distinct_behind_end : cut five (passed (with_snapshot mode.Distinct 1 3 5 0) taken.EndOfSnapshot) ≡ Some (taken.Row (row 5) 5)
distinct_behind_end = refl

pub distinct_owed_is_pending : is_pending five (with_snapshot mode.Distinct 1 5 5 0) ≡ true
distinct_owed_is_pending = refl

-- a Clear drops the snapshot's rows: its end, the Clear, and what came later

pub distinct_clear_ends : cut twice_cleared (with_snapshot mode.Distinct 9 2 5 2) ≡ Some taken.EndOfSnapshot
distinct_clear_ends = refl

pub distinct_cleared : cut twice_cleared (passed (with_snapshot mode.Distinct 9 2 5 2) taken.EndOfSnapshot) ≡ Some (taken.Cleared 3)
distinct_cleared = refl

pub distinct_behind_clear : cut twice_cleared (passed (slot mode.Distinct 9 0 5) (taken.Cleared 3)) ≡ Some (taken.Row (row 3) 4)
distinct_behind_clear = refl

pub distinct_one_clear_of_two : cut twice_cleared (slot mode.Distinct 9 0 6) ≡ Some (taken.Cleared 6)
distinct_one_clear_of_two = refl

pub distinct_waits_behind_clear : waiting_count twice_cleared (slot mode.Distinct 9 0 5) ≡ 2
distinct_waits_behind_clear = refl

-- MERGE

pub merge_waits_2 : waiting_count five (slot mode.Merge 2 0 5) ≡ 2
merge_waits_2 = refl

pub merge_waits_without_snapshot : waiting_count five (record (slot mode.Merge 9 3 5) { cursor = 2 }) ≡ 2
merge_waits_without_snapshot = refl

-- COMMAND: a table of which the keys a and b are the snapshot

abbrev table : Shape
table = record { kind = kind.Command; fields = 3; key = 0; command = 1 }

abbrev of_two : Mode → Plan
of_two mode = record { mode = mode; shape = table; size = 1; base = 2 }

-- an update of a key, and the row that it leaves
abbrev keys : ℕ → List ℕ → ℕ → Entry
keys k command d = an (Update (cell.Text (k ∷ []) ∷ cell.Text command ∷ cell.Text (d ∷ []) ∷ []))

abbrev keyed_row : ℕ → ℕ → List Value
keyed_row k d = value.Text (k ∷ []) ∷ value.Null ∷ value.Text (d ∷ []) ∷ []

-- b and a are added, b is touched, c added, a deleted
abbrev touched : List Entry
touched = keys 98 (codes "ADD") 1 ∷ keys 97 (codes "ADD") 2 ∷ keys 98 (codes "UPDATE") 3 ∷ keys 99 (codes "ADD") 4 ∷ keys 97 (codes "DELETE") 5 ∷ []

-- b and a are added, the table is cleared, c added
abbrev emptied : List Entry
emptied = keys 98 (codes "ADD") 1 ∷ keys 97 (codes "ADD") 2 ∷ an Clear ∷ keys 99 (codes "ADD") 4 ∷ []

abbrev of_table : ℕ → ℕ → Slot
of_table owed last = record (fresh_with (of_two mode.Command) owed) { last = last }

pub byte_order : is_before (97 ∷ []) (97 ∷ 98 ∷ []) ≡ true
byte_order = refl

pub keyed_in_byte_order : keyed table touched 2 ≡ record { key = 97 ∷ []; row = keyed_row 97 2 } ∷ record { key = 98 ∷ []; row = keyed_row 98 1 } ∷ []
keyed_in_byte_order = refl

pub keyed_deleted : row_at (97 ∷ []) (keyed table touched 5) ≡ None
keyed_deleted = refl

pub keyed_cleared : keyed table emptied 3 ≡ []
keyed_cleared = refl

pub queue_of_owed_and_touched : command_queue touched (of_table 2 5) ≡ (97 ∷ []) ∷ (98 ∷ []) ∷ (99 ∷ []) ∷ []
queue_of_owed_and_touched = refl

pub command_tells_deleted : cut touched (of_table 2 5) ≡ Some (taken.Key (97 ∷ []) None 5)
command_tells_deleted = refl

pub command_after_turn : command_queue touched (passed (of_table 2 5) (taken.Key (97 ∷ []) None 5)) ≡ (98 ∷ []) ∷ (99 ∷ []) ∷ []
command_after_turn = refl

pub command_end : cut touched (of_table 0 2) ≡ Some taken.EndOfSnapshot
command_end = refl

pub command_waits : waiting_count touched (of_table 2 5) ≡ 3
command_waits = refl

pub command_not_pending : is_pending touched (passed (of_table 0 2) taken.EndOfSnapshot) ≡ false
command_not_pending = refl

pub command_clear_ends : cut emptied (of_table 2 4) ≡ Some taken.EndOfSnapshot
command_clear_ends = refl

pub command_cleared : cut emptied (passed (of_table 2 4) taken.EndOfSnapshot) ≡ Some (taken.Cleared 3)
command_cleared = refl

pub command_behind_clear : cut emptied (passed (passed (of_table 2 4) taken.EndOfSnapshot) (taken.Cleared 3))
    ≡ Some (taken.Key (99 ∷ []) (Some (keyed_row 99 4)) 4)
command_behind_clear = refl

-- why an update isn't added to the table, or to an item of kind DISTINCT, in the order of the causes

abbrev with_keys : Snapshot
with_keys = state.Command (keyed table touched 4)

abbrev update_of : Cell → Cell → List ℕ → Event
update_of key command text = Update (key ∷ command ∷ cell.Text text ∷ [])

pub no_key_before_bad_command : push_refusal table with_keys (update_of cell.Null cell.Null (replicate 4097 120)) ≡ Some push.NoKey
no_key_before_bad_command = refl

pub bad_command_before_too_long : push_refusal table with_keys (update_of (cell.Text (97 ∷ [])) (cell.Text (codes "GO")) (replicate 4097 120))
    ≡ Some push.BadCommand
bad_command_before_too_long = refl

-- the key, the word and the value; the row has no command
pub too_long_by_event : push_refusal table with_keys (update_of (cell.Text (97 ∷ [])) (cell.Text (codes "ADD")) (replicate 4093 120)) ≡ Some (push.TooLong 4097)
too_long_by_event = refl

-- a DELETE makes no row
pub delete_is_short : push_refusal table with_keys (update_of (cell.Text (97 ∷ [])) (cell.Text (codes "DELETE")) (replicate 4089 120)) ≡ None
delete_is_short = refl

pub known_key_is_added : push_refusal table with_keys (update_of (cell.Text (99 ∷ [])) (cell.Text (codes "UPDATE")) (49 ∷ [])) ≡ None
known_key_is_added = refl

pub own_row_counts : push_refusal (record table { kind = kind.Distinct }) (state.Distinct []) (update_of (cell.Text (replicate 4096 120)) cell.Same []) ≡ None
own_row_counts = refl
