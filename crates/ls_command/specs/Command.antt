-- What a buffer of mode COMMAND holds, and the slots that it stands for.
use Rattle.std.specs.Prelude.{◌≡◌, ◌==◌, ℕ, ◌+◌, ◌-◌, ◌≤◌, ◌<◌, List, [], ◌∷◌, length, map, drop, Bool, true, false}
use Rattle.std.specs.Prelude.{◌&&◌, Option, None, Some, is_some, if◌then◌else◌, option_map, slice_get, unwrap_or, All}
use Rattle.std.specs.Prelude.{◌++◌, IsSome, get_or}
use Rattle.std.specs.List.{range_with_len}
use Rattle.std.specs.Option.{option_map_or}
use Rattle.ls_links.specs.Chains.{Link, Chains, list_of}
use Rattle.ls_value.specs.declared.row.Value.{Value}
use Rattle.ls_value.specs.declared.row.Cell.{Cell}
use Rattle.ls_value.specs.declared.row.Cell.TheVariants as cell
use Rattle.ls_value.specs.Values.{cell_at, text_eq}
use Rattle.ls_event.specs.declared.event.Event.{Event}
use Rattle.ls_event.specs.declared.event.Event.TheVariants.{Update, Clear}
use Rattle.ls_event.specs.declared.event.Entry.{Entry}
use Rattle.ls_event.specs.declared.event.Mode.TheVariants as mode
use Rattle.ls_event.specs.declared.event.Taken.{Taken}
use Rattle.ls_event.specs.declared.event.Taken.TheVariants as taken
use Rattle.ls_event.specs.declared.item.Kind.TheVariants as kind
use Rattle.ls_event.specs.declared.snapshot.KeyedRow.{KeyedRow}
use Rattle.ls_event.specs.declared.snapshot.Snapshot.{Snapshot}
use Rattle.ls_event.specs.declared.snapshot.Snapshot.TheVariants as snapshot
use Rattle.ls_event.specs.History.{RowFits}
use Rattle.ls_event.specs.Slots.{Plan, Slot}
use Rattle.ls_event.specs.Updates.{last_clear}
use Rattle.ls_event.specs.Keyed.{text_of_cell, row_at, keyed}
use Rattle.ls_event.specs.CommandCuts.{has_key, key_cursor, command_queue, touched_keys}
use Rattle.ls_command.specs.declared.kept.Queued.{Queued}

-- the keys of a queue
abbrev pub keys_of : List Queued → List (List ℕ)
keys_of queue = map (λ q. q.key) queue

-- a queue in which a key has this row: it stays where it stands, and goes last where it doesn't stand
abbrev pub with_queued : List Queued → Queued → List Queued
with_queued [] new = new ∷ []
with_queued (q ∷ queue) new = if text_eq q.key new.key then new ∷ queue else q ∷ with_queued queue new

-- whether a key stands in a queue and was touched
abbrev pub is_touched : List Queued → List ℕ → Bool
is_touched [] key = false
is_touched (q ∷ queue) key = if text_eq q.key key then q.touched else is_touched queue key

-- the values of the keys' nodes, in the order of a queue, with that of one more key: a key that doesn't stand there gets
-- the number of those that do
abbrev pub values_with : List Queued → List ℕ → List ℕ → List ℕ
values_with queue values key = if has_key (keys_of queue) key then values else values ++ length queue ∷ []

-- the greatest value becomes another one
abbrev pub moved_value : ℕ → ℕ → ℕ → ℕ
moved_value greatest to value = if value == greatest then to else value

-- the values after the turn of the first key: the greatest one becomes that of the first node
abbrev pub values_turned : List ℕ → List ℕ
values_turned [] = []
values_turned (v ∷ vs) = map (moved_value (length vs) v) vs

-- the key's place among the fields, the last number, how many keys of the snapshot are owed and whether its end is, the
-- last Clear that no cut took, the keys that have a turn, each with its row at the last number, the values of their
-- nodes, how many nodes list 0 has, and how many of the keys were touched
pub record Command : Type 0 where
  pub key : ℕ
  pub last : ℕ
  pub owed : ℕ
  pub ends : Bool
  pub cleared : Option ℕ
  pub queue : List Queued
  pub values : List ℕ
  pub listed : ℕ
  pub waiting : ℕ

-- each row is the one that its key has among these
abbrev pub RowsOf : List KeyedRow → List Queued → Type 0
RowsOf ks [] = Unit {0}
RowsOf ks (q ∷ queue) = (q.row ≡ row_at q.key ks) × RowsOf ks queue

-- each key is marked where it is among the touched ones
abbrev pub AreMarked : List (List ℕ) → List Queued → Type 0
AreMarked touched [] = Unit {0}
AreMarked touched (q ∷ queue) = (q.touched ≡ has_key touched q.key) × AreMarked touched queue

-- a buffer stands for a slot on a history
pub record StandsCommand (b : Command) (s : Slot) (h : List Entry) : Type 0 where
  pub mode : s.plan.mode ≡ mode.Command
  pub kind : s.plan.shape.kind ≡ kind.Command
  pub key : b.key ≡ s.plan.shape.key
  pub last : b.last ≡ s.last
  pub owed : b.owed ≡ s.owed
  pub ends : b.ends ≡ s.ends
  pub based : s.plan.base ≤ s.cursor
  pub behind : s.cursor ≤ s.last
  pub within : s.last ≤ length h
  pub first : 0 < s.owed → s.ends ≡ true
  pub enough : s.owed ≤ length (keyed s.plan.shape h s.plan.base)
  pub cleared : b.cleared ≡ last_clear h s.cursor s.last
  pub keys : keys_of b.queue ≡ command_queue h s
  pub rows : RowsOf (keyed s.plan.shape h s.last) b.queue
  pub marked : AreMarked (touched_keys h s) b.queue
  pub waiting : b.waiting ≡ length (touched_keys h s)
  pub listed : b.listed ≡ (if is_some (last_clear h s.cursor s.last) then 0 else s.owed)
  pub placed : (k : List ℕ) → key_cursor s.key_cursors s.cursor k ≤ unwrap_or (last_clear h s.cursor s.last) s.last

-- what a Clear gives: the end of the snapshot, where it is owed, and then itself
abbrev pub command_clear_head : Command → ℕ → Option Taken
command_clear_head b c = if b.ends then Some taken.EndOfSnapshot else Some (taken.Cleared c)

-- the turn of a key
abbrev pub key_head : Command → Queued → Taken
key_head b q = taken.Key q.key q.row b.last

-- whether the snapshot's end is owed, and none of its keys
abbrev pub is_whole : Command → Bool
is_whole b = b.ends && (b.owed == 0)

-- its next cut, by the last Clear that no cut took
abbrev pub command_head_of : Command → Option ℕ → Option Taken
command_head_of b (Some c) = command_clear_head b c
command_head_of b None = if is_whole b then Some taken.EndOfSnapshot else option_map (key_head b) (slice_get b.queue 0)

-- its next cut
abbrev pub command_head : Command → Option Taken
command_head b = command_head_of b b.cleared

-- whether it is pending
abbrev pub command_is_pending : Command → Bool
command_is_pending b = is_some (command_head b)

-- the key that an update names, by the key's place
abbrev pub key_in : ℕ → List Cell → List ℕ
key_in key cells = text_of_cell (cell_at cells key)

-- a cell has a text
abbrev pub IsText : Cell → Type 0
IsText cell.Same = ⊥
IsText cell.Null = ⊥
IsText (cell.Text t) = Unit {0}

-- an update has a text in its key's cell
abbrev pub NamesKey : ℕ → Event → Type 0
NamesKey key (Update cells) = IsText (cell_at cells key)
NamesKey key Clear = Unit {0}

-- after an update of the next number, after which its key has this row
abbrev pub key_touched : Command → List ℕ → Option (List Value) → Command
key_touched b key row =
    record b {
      queue = with_queued b.queue (record { key = key; row = row; touched = true });
      values = values_with b.queue b.values key;
      waiting = b.waiting + (if is_touched b.queue key then 0 else 1);
      last = b.last + 1;
    }

-- after the event of the next number, after which its key has this row: a Clear empties the queue
abbrev pub command_after : Command → Event → Option (List Value) → Command
command_after b (Update cells) row = key_touched b (key_in b.key cells) row
command_after b Clear row =
    record b { queue = []; values = []; listed = 0; waiting = 0; cleared = Some (b.last + 1); last = b.last + 1 }

-- after the end of the snapshot
abbrev pub command_ended : Command → Command
command_ended b = record b { ends = false; owed = 0 }

-- how many of the first key's updates wait: one where it was touched
abbrev pub first_waits : List Queued → ℕ
first_waits queue = option_map_or (λ q. if q.touched then 1 else 0) (slice_get queue 0) 0

-- after the turn of the first key
abbrev pub turn_passed : Command → Command
turn_passed b =
    record b {
      queue = drop 1 b.queue;
      values = values_turned b.values;
      listed = b.listed - 1;
      waiting = b.waiting - first_waits b.queue;
      owed = b.owed - 1;
    }

-- after its next cut, by the last Clear that no cut took
abbrev pub command_passed_of : Command → Option ℕ → Command
command_passed_of b (Some c) = if b.ends then command_ended b else record b { cleared = None }
command_passed_of b None = if is_whole b then command_ended b else turn_passed b

-- after its next cut
abbrev pub command_passed : Command → Command
command_passed b = command_passed_of b b.cleared

-- the rows of the keys have so many values
abbrev pub AreKeysWide : ℕ → Command → Type 0
AreKeysWide n b = All (λ q. RowFits n q.row) b.queue

-- no key stands twice
abbrev pub AreDistinct : List (List ℕ) → Type 0
AreDistinct [] = Unit {0}
AreDistinct (k ∷ ks) = (has_key ks k ≡ false) × AreDistinct ks

-- the keys with their rows of a snapshot of mode COMMAND
abbrev pub command_rows : Option Snapshot → List KeyedRow
command_rows (Some (snapshot.Command rows)) = rows
command_rows (Some (snapshot.Merge row)) = []
command_rows (Some (snapshot.Distinct rows)) = []
command_rows None = []

-- there is no snapshot, or one of mode COMMAND
abbrev pub IsOfCommand : Option Snapshot → Type 0
IsOfCommand None = Unit {0}
IsOfCommand (Some (snapshot.Command rows)) = Unit {0}
IsOfCommand (Some (snapshot.Merge row)) = ⊥
IsOfCommand (Some (snapshot.Distinct rows)) = ⊥

-- a key of a snapshot that is owed
abbrev pub owed_key : KeyedRow → Queued
owed_key k = record { key = k.key; row = Some k.row; touched = false }

-- a queue after these keys of a snapshot
abbrev pub with_owed : List Queued → List KeyedRow → List Queued
with_owed queue [] = queue
with_owed queue (k ∷ ks) = with_owed (with_queued queue (owed_key k)) ks

-- a buffer that is new at a number, with the keys of a snapshot, or without one
abbrev pub command_joining : ℕ → ℕ → Option Snapshot → Command
command_joining base key first =
    record {
      key = key;
      last = base;
      owed = length (command_rows first);
      ends = is_some first;
      cleared = None;
      queue = with_owed [] (command_rows first);
      values = range_with_len 0 (length (with_owed [] (command_rows first)));
      listed = length (with_owed [] (command_rows first));
      waiting = 0;
    }

-- what must be so of a slot that joins a history at a number
pub record IsJoining (from at : ℕ) (p : Plan) (h : List Entry) : Type 0 where
  pub mode : p.mode ≡ mode.Command
  pub kind : p.shape.kind ≡ kind.Command
  pub key : p.shape.key ≡ at
  pub base : p.base ≡ from
  pub within : from ≤ length h

-- a snapshot is handed in exactly where one is asked for, and it is the item's state
abbrev pub IsSnapshotOf : Plan → List Entry → Option Snapshot → Option ℕ → Type 0
IsSnapshotOf p h None None = Unit {0}
IsSnapshotOf p h None (Some asked) = ⊥
IsSnapshotOf p h (Some first) None = ⊥
IsSnapshotOf p h (Some first) (Some asked) = command_rows (Some first) ≡ keyed p.shape h p.base

-- the nodes of the queue: those of list 0, and then those of list 1
abbrev pub nodes_of : List (List Link) → List Link
nodes_of lists = get_or lists 0 [] ++ get_or lists 1 []

-- the key whose node has a value
abbrev pub key_valued : List ℕ → List Queued → ℕ → Option (List ℕ)
key_valued [] queue value = None
key_valued (v ∷ vs) [] value = None
key_valued (v ∷ vs) (q ∷ queue) value = if v == value then Some q.key else key_valued vs queue value

abbrev pub key_of_value : Command → ℕ → Option (List ℕ)
key_of_value b value = key_valued b.values b.queue value

-- what the links say of the queue of a slot: read by their values they are its keys in order. List 0 has the keys of the
-- snapshot that are owed, and is empty where a Clear is pending
pub record TellsQueue (b : Command) (c : Chains) (s : Slot) (h : List Entry) : Type 0 where
  pub keys : map (λ l. key_of_value b l.value) (nodes_of c.lists) ≡ map (λ k. Some k) (command_queue h s)
  pub owed : length (list_of c 0) ≡ (if is_some (last_clear h s.cursor s.last) then 0 else s.owed)
  pub cleared : IsSome (last_clear h s.cursor s.last) → list_of c 0 ≡ []
