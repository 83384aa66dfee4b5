-- What an item gives of a slot is what its record says.
use Rattle.std.proofs.Common.{◌≡◌, ℕ, ◌+◌, ◌≤◌, List, ◌∷◌, length, refl, ◌∙◌, ap, subst, false, Option, Some, None}
use Rattle.std.proofs.Common.{is_some, option_and_then}
use Rattle.std.specs.Option.{option_map_or}
use Rattle.ls_event.specs.declared.event.Entry.{Entry}
use Rattle.ls_event.specs.declared.limits.TheConstants.{MOST_LAG}
use Rattle.ls_event.specs.Slots.{Slot}
use Rattle.ls_event.specs.Cuts.{cut, is_pending}
use Rattle.ls_cell.specs.declared.any.AnyBuffer.{AnyBuffer}
use Rattle.ls_cell.specs.Numbered.{slot_at, StandsAt, StandsAll}
use Rattle.ls_cell.specs.Any.{any_cut, any_pending, any_last_is, any_cut_is, any_pending_is}
use Rattle.ls_cell.specs.Standing.{StandsSlot, last_at}
use Rattle.ls_cell.specs.Cell.{Held, StandsCell, HasSlot, cut_at, pending_at, last_in}
use Rattle.ls_cell.proofs.Changes.{stands_at}

-- the slot of a number stands for the record of that number
pub number_stands : {B : Type 0} (f : B → Slot → List Entry → Type 0) (bs : List (Option B)) (ss : List (Option Slot))
    (h : List Entry) (n : ℕ) → StandsAll f bs ss h → StandsAt f (slot_at bs n) (slot_at ss n) h
number_stands f bs ss h n st = stands_at f (None ∷ bs) (None ∷ ss) h n (tt, st)

both_live : {B : Type 0} (f : B → Slot → List Entry → Type 0) (b : Option B) (s : Option Slot) (h : List Entry)
    → StandsAt f b s h → is_some b ≡ is_some s
both_live f None None h st = refl
both_live f None (Some s) h st = absurd st
both_live f (Some b) None h st = absurd st
both_live f (Some b) (Some s) h st = refl

-- a number has a slot where it has a record
pub same_has : {B : Type 0} (f : B → Slot → List Entry → Type 0) (bs : List (Option B)) (ss : List (Option Slot))
    (h : List Entry) (n : ℕ) → StandsAll f bs ss h → is_some (slot_at bs n) ≡ is_some (slot_at ss n)
same_has f bs ss h n st = both_live f (slot_at bs n) (slot_at ss n) h (number_stands f bs ss h n st)

-- what is given of a slot is its record's
pub record IsRecorded (c : Held) (n : ℕ) (s : Slot) (h : List Entry) : Type 0 where
  pub live : HasSlot c n
  pub cut : cut_at c n ≡ cut h s
  pub pending : pending_at c n ≡ is_pending h s
  pub last : last_in c n ≡ s.last
  pub shape : s.plan.shape ≡ c.item.shape
  pub within : s.last ≤ length h
  pub near : length h ≤ s.last + MOST_LAG

pub recorded : (c : Held) (ss : List (Option Slot)) (h : List Entry) (n : ℕ) (s : Slot) → StandsCell c ss h
    → slot_at ss n ≡ Some s → IsRecorded c n s h
recorded c ss h n s st is =
    by_slot (slot_at c.slots n) refl (subst (λ o. StandsAt (StandsSlot c.item.shape) (slot_at c.slots n) o h) is
    (number_stands (StandsSlot c.item.shape) c.slots ss h n st.slots))
  where
    by_slot : (o : Option AnyBuffer) → slot_at c.slots n ≡ o → StandsAt (StandsSlot c.item.shape) o (Some s) h
        → IsRecorded c n s h
    by_slot None at x = absurd x
    by_slot (Some b) at x =
        record {
          live = ap is_some at;
          cut = ap (option_and_then any_cut) at ∙ any_cut_is b s h x.buffer;
          pending = ap (λ o. option_map_or any_pending o false) at ∙ any_pending_is b s h x.buffer;
          last = ap last_at at ∙ any_last_is b s h x.buffer;
          shape = x.shape;
          within = x.within;
          near = x.near;
        }
