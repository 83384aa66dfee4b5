-- The cuts of mode COMMAND: a queue of keys, each told once for all that touched it (General Concepts, mode COMMAND).
use Rattle.std.specs.Prelude.{◌==◌, ℕ, ◌+◌, List, [], ◌∷◌, ◌++◌, map, Bool, false, not, ◌&&◌, ◌||◌, Option, None, Some}
use Rattle.std.specs.Prelude.{is_some, nat_lt, if◌then◌else◌, option_map, slice_get}
use Rattle.ls_value.specs.Values.{text_eq}
use Rattle.ls_event.specs.declared.event.Event.{Event}
use Rattle.ls_event.specs.declared.event.Event.TheVariants.{Update, Clear}
use Rattle.ls_event.specs.declared.event.Entry.{Entry}
use Rattle.ls_event.specs.declared.event.Taken.{Taken}
use Rattle.ls_event.specs.declared.event.Taken.TheVariants as taken
use Rattle.ls_event.specs.History.{between}
use Rattle.ls_event.specs.Slots.{Slot, KeyCursor}
use Rattle.ls_event.specs.Updates.{last_of, last_clear, clear_or}
use Rattle.ls_event.specs.OwnCuts.{clear_cut}
use Rattle.ls_event.specs.Keyed.{key_of, row_at, keyed}

-- whether a key is among these
abbrev pub has_key : List (List ℕ) → List ℕ → Bool
has_key [] key = false
has_key (k ∷ ks) key = text_eq k key || has_key ks key

-- a key's cursor, which is this one where it has none of its own
abbrev pub key_cursor : List KeyCursor → ℕ → List ℕ → ℕ
key_cursor [] cursor key = cursor
key_cursor (n ∷ ns) cursor key = if text_eq n.key key then n.cursor else key_cursor ns cursor key

-- the queue after an update of a key by the event of number n: the key goes last, where it waits for no turn and its
-- cursor lies before
abbrev pub queue_touched : Slot → List (List ℕ) → ℕ → List ℕ → List (List ℕ)
queue_touched s queue n key = if nat_lt (key_cursor s.key_cursors s.cursor key) n && not (has_key queue key)
    then queue ++ key ∷ [] else queue

-- the queue after the event of number n
abbrev pub queue_after : Slot → List (List ℕ) → ℕ → Event → List (List ℕ)
queue_after s queue n (Update cells) = queue_touched s queue n (key_of s.plan.shape cells)
queue_after s queue n Clear = queue

-- the queue after these entries, the first of which has number n + 1
abbrev pub queue_from : Slot → List (List ℕ) → ℕ → List Entry → List (List ℕ)
queue_from s queue n [] = queue
queue_from s queue n (e ∷ es) = queue_from s (queue_after s queue (n + 1) e.event) (n + 1) es

-- the queue after the entries behind the last Clear that no cut took, where it was this one
abbrev pub queue_since : List Entry → Slot → List (List ℕ) → List (List ℕ)
queue_since h s queue = queue_from s queue (clear_or h s.cursor s.last) (between h (clear_or h s.cursor s.last) s.last)

-- the keys of the snapshot that are owed, in the order of their bytes; a Clear drops them
abbrev pub owed_keys : List Entry → Slot → List (List ℕ)
owed_keys h s = if is_some (last_clear h s.cursor s.last) then []
    else last_of s.owed (map (λ k. k.key) (keyed s.plan.shape h s.plan.base))

-- the keys that have a turn: those owed, and those touched after their cursors, by their first touch
abbrev pub command_queue : List Entry → Slot → List (List ℕ)
command_queue h s = queue_since h s (owed_keys h s)

-- the keys that were touched after their cursors
abbrev pub touched_keys : List Entry → Slot → List (List ℕ)
touched_keys h s = queue_since h s []

-- the turn of a key
abbrev pub key_taken : List Entry → Slot → List ℕ → Taken
key_taken h s key = taken.Key key (row_at key (keyed s.plan.shape h s.last)) s.last

-- the next cut of mode COMMAND, by the last Clear that no cut took, if there is one
abbrev pub command_cut_by : List Entry → Slot → Option ℕ → Option Taken
command_cut_by h s (Some c) = clear_cut s c
command_cut_by h s None = if s.ends && (s.owed == 0) then Some taken.EndOfSnapshot
    else option_map (key_taken h s) (slice_get (command_queue h s) 0)

-- the next cut of mode COMMAND
abbrev pub command_cut : List Entry → Slot → Option Taken
command_cut h s = command_cut_by h s (last_clear h s.cursor s.last)
