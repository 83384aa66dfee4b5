-- What an item with its slots holds, and the histories and records that it stands for.
use Rattle.std.specs.Prelude.{◌≡◌, ℕ, ◌+◌, ◌-◌, ◌≤◌, List, [], ◌∷◌, ◌++◌, length, drop, Bool, false, Option, None}
use Rattle.std.specs.Prelude.{Some, Result, Ok, Err, nat_lt, nat_le, if◌then◌else◌, slice_index, slice_set, option_map}
use Rattle.std.specs.Prelude.{option_and_then, IsSome}
use Rattle.std.specs.Option.{option_or, option_map_or}
use Rattle.ls_event.specs.declared.event.Event.{Event}
use Rattle.ls_event.specs.declared.event.Entry.{Entry}
use Rattle.ls_event.specs.declared.event.Stored.{Stored}
use Rattle.ls_event.specs.declared.event.Taken.{Taken}
use Rattle.ls_event.specs.declared.event.PublishRefused.{PublishRefused}
use Rattle.ls_event.specs.declared.event.PublishRefused.TheVariants as refused
use Rattle.ls_event.specs.declared.item.Kind.{Kind}
use Rattle.ls_event.specs.declared.item.Kind.TheVariants as kind
use Rattle.ls_event.specs.declared.snapshot.Snapshot.{Snapshot}
use Rattle.ls_event.specs.declared.snapshot.Snapshot.TheVariants as state
use Rattle.ls_event.specs.declared.limits.TheConstants.{MOST_ADAPTERS, MOST_LAG}
use Rattle.ls_event.specs.History.{RowFits, last_seq}
use Rattle.ls_event.specs.Shapes.{Shape, IsShape}
use Rattle.ls_event.specs.States.{state_at, state_after, key_row, push_refusal}
use Rattle.ls_event.specs.Publishes.{stored_from, publish_cause, backlog_or, IsHistory}
use Rattle.ls_event.specs.Slots.{Slot, enqueued}
use Rattle.ls_item.specs.States.{KeptState}
use Rattle.ls_value.specs.declared.limits.TheConstants.{GREATEST_NUMBER}
use Rattle.ls_cell.specs.declared.any.AnyBuffer.{AnyBuffer}
use Rattle.ls_cell.specs.declared.cell.Enqueued.{Enqueued}
use Rattle.ls_cell.specs.declared.cell.Enqueued.TheVariants as answer
use Rattle.ls_cell.specs.Numbered.{slot_at, set_slot, EachSlot, first_lagging, StandsAll}
use Rattle.ls_cell.specs.Any.{any_last, any_cut, any_pending}
use Rattle.ls_cell.specs.Standing.{IsEventOf, IsSlotOf, StandsSlot, last_at}

-- what an item holds: its shape and its state, its number of events, the last of them, the last seq of each adapter,
-- and its slots
pub record Held : Type 0 where
  pub item : KeptState
  pub number : ℕ
  pub tail : List Stored
  pub seqs : List ℕ
  pub slots : List (Option AnyBuffer)

-- a state is one of a kind
abbrev pub IsOfKind : Kind → Snapshot → Type 0
IsOfKind kind.Merge (state.Merge row) = Unit {0}
IsOfKind kind.Merge (state.Distinct rows) = ⊥
IsOfKind kind.Merge (state.Command ks) = ⊥
IsOfKind kind.Distinct (state.Merge row) = ⊥
IsOfKind kind.Distinct (state.Distinct rows) = Unit {0}
IsOfKind kind.Distinct (state.Command ks) = ⊥
IsOfKind kind.Command (state.Merge row) = ⊥
IsOfKind kind.Command (state.Distinct rows) = ⊥
IsOfKind kind.Command (state.Command ks) = Unit {0}

-- an item of a shape keeps the event of a number
pub record IsKept (p : Shape) (number : ℕ) (x : Stored) : Type 0 where
  pub no : x.no ≡ number
  pub event : IsEventOf p x.event
  pub after : RowFits p.fields x.after

-- an item of a shape keeps these events, the first of which has number n + 1
abbrev pub AreKept : Shape → ℕ → List Stored → Type 0
AreKept p n [] = Unit {0}
AreKept p n (x ∷ xs) = IsKept p (n + 1) x × AreKept p (n + 1) xs

-- what is true of each item
pub record IsSound (c : Held) : Type 0 where
  pub shape : IsShape c.item.shape
  pub state : IsOfKind c.item.shape.kind c.item.state
  pub seqs : length c.seqs ≡ MOST_ADAPTERS + 1
  pub most : length c.tail ≤ MOST_LAG
  pub within : length c.tail ≤ c.number
  pub in_range : c.number ≤ GREATEST_NUMBER
  pub kept : AreKept c.item.shape (c.number - length c.tail) c.tail
  pub slots : EachSlot (IsSlotOf c.item.shape c.number (length c.tail)) c.slots

-- a slot of this number is live
abbrev pub HasSlot : Held → ℕ → Type 0
HasSlot c slot = IsSome (slot_at c.slots slot)

-- why an entry is refused, by the first cause of the order
abbrev pub refusal_of : Held → Entry → Option PublishRefused
refusal_of c e =
    if nat_le e.seq (slice_index c.seqs e.adapter) then Some (refused.Repeated (slice_index c.seqs e.adapter))
    else option_or (option_map publish_cause (push_refusal c.item.shape c.item.state e.event))
    (backlog_or (first_lagging any_last c.number 1 c.slots)
    (if nat_le GREATEST_NUMBER c.number then Some refused.Spent else None))

-- the answer is the first cause, or without a cause this number; want of memory comes last
abbrev pub AnswersFirst : Option PublishRefused → ℕ → Result ℕ PublishRefused → Type 0
AnswersFirst cause next (Ok n) = (cause ≡ None) × (n ≡ next)
AnswersFirst cause next (Err refused.NoMemory) = cause ≡ None
AnswersFirst cause next (Err e) = cause ≡ Some e

-- the last events, after one more
abbrev pub tail_after : List Stored → Stored → List Stored
tail_after t x = drop (length t + 1 - MOST_LAG) (t ++ x ∷ [])

-- an event with its number and its key's row then, where it is added to an item
abbrev pub stored_next : Held → Event → Stored
stored_next c event = record {
  no = c.number + 1;
  event = event;
  after =
      key_row c.item.shape (state_after c.item.shape c.item.state event) event;
}

-- what is held after an entry
abbrev pub published : Held → Entry → Held
published c e =
    record c {
      item = record c.item { state = state_after c.item.shape c.item.state e.event };
      number = c.number + 1;
      tail = tail_after c.tail (stored_next c e.event);
      seqs = slice_set c.seqs e.adapter e.seq;
    }

-- the next cut of a slot
abbrev pub cut_at : Held → ℕ → Option Taken
cut_at c slot = option_and_then any_cut (slot_at c.slots slot)

-- whether a slot is pending
abbrev pub pending_at : Held → ℕ → Bool
pending_at c slot = option_map_or any_pending (slot_at c.slots slot) false

-- the number that was enqueued last into a slot, 0 where none is live
abbrev pub last_in : Held → ℕ → ℕ
last_in c slot = last_at (slot_at c.slots slot)

-- the answer to an enqueue into a slot of this last number, of so many events
abbrev pub enqueue_answer : ℕ → ℕ → Enqueued
enqueue_answer number last = if nat_lt last number then answer.Moved (last + 1) else answer.UpToDate

-- the last number of a slot after an enqueue
abbrev pub next_last : ℕ → ℕ → ℕ
next_last number last = if nat_lt last number then last + 1 else last

-- the record after an enqueue, where the history has one more event
abbrev pub enqueued_at : List Entry → Slot → Slot
enqueued_at h s = if nat_lt s.last (length h) then enqueued s else s

-- the least number of a slot that lags by as much as it may behind so many events
abbrev pub least_lagging : ℕ → List (Option Slot) → Option ℕ
least_lagging number ss = first_lagging (λ s. s.last) number 1 ss

-- what is held stands for a history and the records of its slots, of which the first has number 1
pub record StandsCell (c : Held) (ss : List (Option Slot)) (h : List Entry) : Type 0 where
  pub number : c.number ≡ length h
  pub shape : IsShape c.item.shape
  pub state : c.item.state ≡ state_at c.item.shape h (length h)
  pub tail : c.tail ≡ stored_from c.item.shape h (length h - MOST_LAG) (drop (length h - MOST_LAG) h)
  pub seqs : (adapter : ℕ) → adapter ≤ MOST_ADAPTERS → slice_index c.seqs adapter ≡ last_seq adapter h
  pub slots : StandsAll (StandsSlot c.item.shape) c.slots ss h
  pub history : IsHistory c.item.shape h

-- what is held after so many enqueues into a slot
pub record Going (c d : Held) (n i : ℕ) : Type 0 where
  pub live : HasSlot d n
  pub last : last_in d n ≡ last_in c n + i
  pub rest : d ≡ record c { slots = set_slot c.slots n (slot_at d.slots n) }
  pub stands : (ss : List (Option Slot)) (h : List Entry) (s : Slot) → StandsCell c ss h → slot_at ss n ≡ Some s
      → StandsCell d (set_slot ss n (Some (record s { last = last_in d n }))) h
