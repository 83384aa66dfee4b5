-- Examples of the definitions, computed: an item with the fields a, b and c.
use Rattle.std.proofs.Common.{◌≡◌, ℕ, ◌+◌, List, [], ◌∷◌, replicate, refl, arith, true, false, Option, None, Some}
use Rattle.ls_value.specs.declared.row.Cell.{Cell}
use Rattle.ls_value.specs.declared.row.Cell.TheVariants as cell
use Rattle.ls_value.specs.declared.row.Value.{Value}
use Rattle.ls_value.specs.declared.row.Value.TheVariants as value
use Rattle.ls_event.specs.declared.event.Event.{Event}
use Rattle.ls_event.specs.declared.event.Event.TheVariants.{Update, Clear}
use Rattle.ls_event.specs.declared.event.Entry.{Entry}
use Rattle.ls_event.specs.declared.event.Mode.TheVariants as mode
use Rattle.ls_event.specs.declared.event.PublishRefused.TheVariants as refused
use Rattle.ls_event.specs.declared.event.Taken.TheVariants as taken
use Rattle.ls_event.specs.Cuts.{cut, is_pending, Fits}
use Rattle.ls_event.specs.History.{merged, between, last_seq}
use Rattle.ls_event.specs.Shapes.{Shape}
use Rattle.ls_event.specs.Publishes.{refusal, IsHistory}
use Rattle.ls_event.specs.declared.item.Kind.TheVariants as kind
use Rattle.ls_event.specs.Slots.{Plan, Slot, fresh, enqueued, passed, is_far, IsNext}

-- an event of an adapter
abbrev entry : ℕ → ℕ → Event → Entry
entry adapter seq event = record { adapter = adapter; seq = seq; event = event }

-- the cell that says a digit
abbrev digit : ℕ → Cell
digit d = cell.Text ((48 + d) ∷ [])

-- the value that is a digit
abbrev is : ℕ → Value
is d = value.Text ((48 + d) ∷ [])

-- a=1, b=2, c=3
abbrev letters : List Entry
letters =
    entry 1 1 (Update (digit 1 ∷ cell.Same ∷ cell.Same ∷ []))
    ∷ entry 1 2 (Update (cell.Same ∷ digit 2 ∷ cell.Same ∷ []))
    ∷ entry 1 3 (Update (cell.Same ∷ cell.Same ∷ digit 3 ∷ []))
    ∷ []

-- a=1 b=2, a=null, a Clear, c=3, an update that says nothing
abbrev cleared : List Entry
cleared =
    entry 1 1 (Update (digit 1 ∷ digit 2 ∷ cell.Same ∷ []))
    ∷ entry 1 2 (Update (cell.Null ∷ cell.Same ∷ cell.Same ∷ []))
    ∷ entry 1 3 Clear
    ∷ entry 1 4 (Update (cell.Same ∷ cell.Same ∷ digit 3 ∷ []))
    ∷ entry 1 5 (Update (cell.Same ∷ cell.Same ∷ cell.Same ∷ []))
    ∷ []

-- an item of kind MERGE with three fields
abbrev letters_item : Shape
letters_item = record { kind = kind.Merge; fields = 3; key = 0; command = 0 }

-- a slot of mode MERGE over three fields, with a buffer of a size
abbrev plan : ℕ → Plan
plan size = record { mode = mode.Merge; shape = letters_item; size = size; base = 0 }

-- the slot that joined at the start, after three enqueues
abbrev joined : ℕ → Slot
joined size = enqueued (enqueued (enqueued (fresh (plan size) 0)))

-- the slot whose lines told of the first events, of so many that were enqueued
abbrev told_to : ℕ → ℕ → ℕ → Slot
told_to size cursor last = record { plan = plan size; last = last; cursor = cursor; owed = 0; ends = false; has_started = true; key_cursors = [] }

-- merged states

pub merged_at_first : merged 3 letters 0 ≡ value.Null ∷ value.Null ∷ value.Null ∷ []
merged_at_first = refl

pub merged_after_one : merged 3 letters 1 ≡ is 1 ∷ value.Null ∷ value.Null ∷ []
merged_after_one = refl

pub merged_same_keeps : merged 3 letters 3 ≡ is 1 ∷ is 2 ∷ is 3 ∷ []
merged_same_keeps = refl

pub merged_null : merged 3 cleared 2 ≡ value.Null ∷ is 2 ∷ value.Null ∷ []
merged_null = refl

pub merged_clear : merged 3 cleared 3 ≡ value.Null ∷ value.Null ∷ value.Null ∷ []
merged_clear = refl

pub merged_after_clear : merged 3 cleared 5 ≡ value.Null ∷ value.Null ∷ is 3 ∷ []
merged_after_clear = refl

pub between_first_and_third : between cleared 1 3 ≡ entry 1 2 (Update (cell.Null ∷ cell.Same ∷ cell.Same ∷ [])) ∷ entry 1 3 Clear ∷ []
between_first_and_third = refl

-- cuts with a buffer of two: the oldest update is merged, and not lost

pub two_first : cut letters (joined 2) ≡ Some (taken.Change (digit 1 ∷ digit 2 ∷ cell.Null ∷ []) 2)
two_first = refl

pub two_second : cut letters (passed (joined 2) (taken.Change (digit 1 ∷ digit 2 ∷ cell.Null ∷ []) 2))
    ≡ Some (taken.Change (cell.Same ∷ cell.Same ∷ digit 3 ∷ []) 3)
two_second = refl

pub two_end : cut letters (passed (passed (joined 2) (taken.Change (digit 1 ∷ digit 2 ∷ cell.Null ∷ []) 2))
    (taken.Change (cell.Same ∷ cell.Same ∷ digit 3 ∷ []) 3)) ≡ None
two_end = refl

-- with a buffer of one all is told at once

pub one_first : cut letters (joined 1) ≡ Some (taken.Change (digit 1 ∷ digit 2 ∷ digit 3 ∷ []) 3)
one_first = refl

pub one_touched : cut letters (told_to 1 1 3) ≡ Some (taken.Change (cell.Same ∷ digit 2 ∷ digit 3 ∷ []) 3)
one_touched = refl

-- with a buffer of three each update is told by itself

pub three_first : cut letters (joined 3) ≡ Some (taken.Change (digit 1 ∷ cell.Null ∷ cell.Null ∷ []) 1)
three_first = refl

pub three_second : cut letters (told_to 3 1 3) ≡ Some (taken.Change (cell.Same ∷ digit 2 ∷ cell.Same ∷ []) 2)
three_second = refl

pub three_third : cut letters (told_to 3 2 3) ≡ Some (taken.Change (cell.Same ∷ cell.Same ∷ digit 3 ∷ []) 3)
three_third = refl

-- before the first line all fields are told, those too that no event touched since the slot joined

pub first_line_tells_all : cut letters (enqueued (fresh (record (plan 1) { base = 2 }) 2)) ≡ Some (taken.Change (digit 1 ∷ digit 2 ∷ digit 3 ∷ []) 3)
first_line_tells_all = refl

-- a Clear touches all

pub clear_tells_all : cut cleared (told_to 1 2 3) ≡ Some (taken.Change (cell.Null ∷ cell.Null ∷ cell.Null ∷ []) 3)
clear_tells_all = refl

pub clear_merged : cut cleared (told_to 1 1 4) ≡ Some (taken.Change (cell.Null ∷ cell.Null ∷ digit 3 ∷ []) 4)
clear_merged = refl

-- an update that says nothing is a cut too, and one that says the same value again

pub nothing_said : cut cleared (told_to 1 4 5) ≡ Some (taken.Change (cell.Same ∷ cell.Same ∷ cell.Same ∷ []) 5)
nothing_said = refl

pub said_again :
    cut
    (entry 1 1 (Update (digit 1 ∷ cell.Same ∷ cell.Same ∷ [])) ∷ entry 1 2 (Update (digit 1 ∷ cell.Same ∷ cell.Same ∷ [])) ∷ [])
    (told_to 1 1 2)
    ≡ Some (taken.Change (digit 1 ∷ cell.Same ∷ cell.Same ∷ []) 2)
said_again = refl

pub fits_three : Fits 3 (cut letters (joined 2))
fits_three = refl

pub pending_before : is_pending letters (told_to 1 2 3) ≡ true
pending_before = refl

pub pending_after : is_pending letters (told_to 1 3 3) ≡ false
pending_after = refl

pub far_by_64 : is_far 67 (told_to 1 0 3) ≡ true
far_by_64 = refl

pub near_by_63 : is_far 66 (told_to 1 0 3) ≡ false
near_by_63 = refl

-- the third entry is the next one after two
pub third_is_next : IsNext (told_to 1 0 2) letters (record { no = 3; event = Update (cell.Same ∷ cell.Same ∷ digit 3 ∷ []); after = None })
third_is_next = record {
  entry = entry 1 3 (Update (cell.Same ∷ cell.Same ∷ digit 3 ∷ []));
  more = omega arith;
  next = refl;
  no = refl;
  event = refl;
  after =
      refl;
}

-- seqs of two adapters

abbrev by_two : List Entry
by_two = entry 1 5 Clear ∷ entry 2 3 Clear ∷ entry 1 9 Clear ∷ entry 2 4 Clear ∷ []

pub last_seq_of_first : last_seq 1 by_two ≡ 9
last_seq_of_first = refl

pub last_seq_of_second : last_seq 2 by_two ≡ 4
last_seq_of_second = refl

pub last_seq_of_none : last_seq 3 by_two ≡ 0
last_seq_of_none = refl

-- refusals in their order

-- a text of n bytes in field a
abbrev long : ℕ → Event
long n = Update (cell.Text (replicate n 120) ∷ cell.Same ∷ cell.Same ∷ [])

pub seq_0 : (p : Shape) (adapter : ℕ) (far : Option ℕ) (event : Event) → refusal p [] far (entry adapter 0 event) ≡ Some (refused.Repeated 0)
seq_0 p adapter far event = refl

pub repeated_before_too_long : refusal letters_item by_two (Some 1) (entry 1 9 (long 4097)) ≡ Some (refused.Repeated 9)
repeated_before_too_long = refl

pub too_long_before_backlog : refusal letters_item by_two (Some 1) (entry 1 10 (long 4097)) ≡ Some (refused.TooLong 4097)
too_long_before_backlog = refl

pub backlog : refusal letters_item by_two (Some 1) (entry 1 10 (long 4096)) ≡ Some (refused.Backlog 1)
backlog = refl

pub not_refused : refusal letters_item by_two None (entry 2 5 (long 4096)) ≡ None
not_refused = refl

-- the row weighs more than the event
pub too_long_by_row : refusal letters_item (entry 1 1 (long 4096) ∷ []) None (entry 1 2 (Update (cell.Same ∷ digit 1 ∷ cell.Same ∷ [])))
    ≡ Some (refused.TooLong 4097)
too_long_by_row = refl

-- a history
pub letters_are_history : IsHistory letters_item letters
letters_are_history =
    record {
      few = omega arith;
      each = (
        record { fits = refl; admitted = refl; rises = omega arith },
        (
          record { fits = refl; admitted = refl; rises = omega arith },
          (record { fits = refl; admitted = refl; rises = omega arith }, tt),
        ),
      );
    }

-- it isn't one where a seq is repeated
pub repeated_is_no_history : IsHistory letters_item (entry 1 1 Clear ∷ entry 1 1 Clear ∷ []) → ⊥
repeated_is_no_history h = omega (arith, h.each.1.0.rises)
