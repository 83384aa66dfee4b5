-- Slots by number, from 1 on, and the records that they stand for.
use Rattle.std.specs.Prelude.{ℕ, ◌+◌, ◌-◌, List, [], ◌∷◌, Bool, false, Option, None, Some, nat_le, if◌then◌else◌}
use Rattle.std.specs.Prelude.{slice_index_or, slice_set}
use Rattle.ls_event.specs.declared.event.Entry.{Entry}
use Rattle.ls_event.specs.declared.limits.TheConstants.{MOST_LAG}
use Rattle.ls_event.specs.Slots.{Slot}

module _ {B : Type 0} where
  -- the slot of a number, where one is live; none has number 0
  abbrev pub slot_at : List (Option B) → ℕ → Option B
  slot_at bs n = slice_index_or (None ∷ bs) n None

  -- with this at the slot of a number
  abbrev pub set_slot : List (Option B) → ℕ → Option B → List (Option B)
  set_slot bs n o = slice_set bs (n - 1) o

  -- the least number that isn't in use
  abbrev pub free_number : List (Option B) → ℕ
  free_number [] = 1
  free_number (None ∷ bs) = 1
  free_number (Some b ∷ bs) = free_number bs + 1

  -- with a slot of that number
  abbrev pub put_slot : List (Option B) → B → List (Option B)
  put_slot [] b = Some b ∷ []
  put_slot (None ∷ bs) b = Some b ∷ bs
  put_slot (Some a ∷ bs) b = Some a ∷ put_slot bs b

  -- how many slots are live
  abbrev pub live_slots : List (Option B) → ℕ
  live_slots [] = 0
  live_slots (None ∷ bs) = live_slots bs
  live_slots (Some b ∷ bs) = live_slots bs + 1

  -- a slot that is live is so
  abbrev pub IsAt : (B → Type 0) → Option B → Type 0
  IsAt P None = Unit {0}
  IsAt P (Some b) = P b

  -- all live slots are so
  abbrev pub EachSlot : (B → Type 0) → List (Option B) → Type 0
  EachSlot P [] = Unit {0}
  EachSlot P (b ∷ bs) = IsAt P b × EachSlot P bs

  -- whether a slot lags by as much as it may behind so many events, where its last number is given by a function
  abbrev pub lags : (B → ℕ) → ℕ → Option B → Bool
  lags last number None = false
  lags last number (Some b) = nat_le (last b + MOST_LAG) number

  -- the least number of a slot that lags so, where the first of these slots has number n
  abbrev pub first_lagging : (B → ℕ) → ℕ → ℕ → List (Option B) → Option ℕ
  first_lagging last number n [] = None
  first_lagging last number n (b ∷ bs) = if lags last number b then Some n else first_lagging last number (n + 1) bs

  -- a slot stands for its record, or there is neither
  abbrev pub StandsAt : (B → Slot → List Entry → Type 0) → Option B → Option Slot → List Entry → Type 0
  StandsAt f None None h = Unit {0}
  StandsAt f None (Some s) h = ⊥
  StandsAt f (Some b) None h = ⊥
  StandsAt f (Some b) (Some s) h = f b s h

  -- each slot stands for the record of its number
  abbrev pub StandsAll : (B → Slot → List Entry → Type 0) → List (Option B) → List (Option Slot) → List Entry → Type 0
  StandsAll f [] [] h = Unit {0}
  StandsAll f [] (s ∷ ss) h = ⊥
  StandsAll f (b ∷ bs) [] h = ⊥
  StandsAll f (b ∷ bs) (s ∷ ss) h = StandsAt f b s h × StandsAll f bs ss h
