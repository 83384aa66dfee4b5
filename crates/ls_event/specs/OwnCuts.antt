-- The cuts of the modes in which each update is told by itself (General Concepts, modes RAW and DISTINCT, buffers).
use Rattle.std.specs.Prelude.{ℕ, ◌-◌, List, length, Option, None, Some, nat_lt, if◌then◌else◌, option_map, slice_get}
use Rattle.ls_event.specs.declared.event.Entry.{Entry}
use Rattle.ls_event.specs.declared.event.Taken.{Taken}
use Rattle.ls_event.specs.declared.event.Taken.TheVariants as taken
use Rattle.ls_event.specs.declared.updates.OwnRow.{OwnRow}
use Rattle.ls_event.specs.Slots.{Slot}
use Rattle.ls_event.specs.Updates.{updates_between, recent_rows, last_clear}
use Rattle.ls_event.specs.declared.limits.TheConstants.{RAW_KEEPS}

-- the first of the last n
abbrev pub first_of_last : {A : Type 0} → ℕ → List A → Option A
first_of_last n xs = slice_get xs (length xs - n)

-- an update's own row
abbrev pub row_taken : OwnRow → Taken
row_taken u = taken.Row u.row u.no

-- how many updates before this one were lost, or, where none was, its own row
abbrev pub raw_taken : ℕ → OwnRow → Taken
raw_taken lost u = if nat_lt 0 lost then taken.Lost lost (u.no - 1) else row_taken u

-- of these updates all but so many of the last are lost
abbrev pub raw_cut_of : List OwnRow → Option Taken
raw_cut_of us = option_map (raw_taken (length us - RAW_KEEPS)) (first_of_last RAW_KEEPS us)

-- the next cut of mode RAW, which knows no Clear
abbrev pub raw_cut : List Entry → Slot → Option Taken
raw_cut h s = raw_cut_of (updates_between h s.cursor s.last)

-- what a Clear tells: the snapshot's end, where it is owed, and then itself
abbrev pub clear_cut : Slot → ℕ → Option Taken
clear_cut s c = if s.ends then Some taken.EndOfSnapshot else Some (taken.Cleared c)

-- the next snapshot row that is owed
abbrev pub snapshot_cut : List Entry → Slot → Option Taken
snapshot_cut h s = option_map (λ row. taken.Row row s.plan.base) (first_of_last s.owed (recent_rows h s.plan.base))

-- the next cut of mode DISTINCT, by the last Clear that no cut took, if there is one
abbrev pub distinct_cut_by : List Entry → Slot → Option ℕ → Option Taken
distinct_cut_by h s (Some c) = clear_cut s c
distinct_cut_by h s None =
    if nat_lt 0 s.owed then snapshot_cut h s
    else if s.ends then Some taken.EndOfSnapshot
    else option_map row_taken (first_of_last s.plan.size (updates_between h s.cursor s.last))

-- the next cut of mode DISTINCT
abbrev pub distinct_cut : List Entry → Slot → Option Taken
distinct_cut h s = distinct_cut_by h s (last_clear h s.cursor s.last)
