-- One slot changes, joins or leaves.
use Rattle.std.proofs.Common.{◌≡◌, ◌==◌, ℕ, ◌+◌, ◌-◌, ◌<◌, List, ◌∷◌, ◌++◌, length, refl, sym, ◌∙◌, ap, arith, subst, Bool, true, false}
use Rattle.std.proofs.Common.{◌&&◌, Option, Some, None, slice_get, get_or, set}
use Rattle.std.proofs.lemmas.Bool.{ne_eqb}
use Rattle.ls_event.specs.declared.event.Entry.{Entry}
use Rattle.ls_event.specs.Slots.{Slot}
use Rattle.ls_cell.specs.Cell.{Held, StandsCell}
use Rattle.ls_cell.specs.Numbered.{slot_at, set_slot, put_slot, free_number}
use Rattle.ls_cell.proofs.Changes.{set_at, set_other, put_at, put_other}
use Rattle.ls_record.specs.Records.{Item, LiveSlot, history_of}
use Rattle.ls_cells.specs.Cells.{is_numbered, slot_numbered, IsUnlike, StandsItem, StandsItems, StandsCells, free_in}
use Rattle.ls_cells.proofs.Numbers.{differs, each_out, each_in, length_in, numbered_is, is_numbered_at, unlike_out, unlike_in, IsFreeAt, unlike_at}
use Rattle.ls_cells.proofs.Numbers.{numbered_here, numbered_other, numbered_none, none_numbered, count_here, numbers_other}
use Rattle.ls_cells.proofs.Counted.{some_number, live_slot_set, live_slot_unset, live_put, free_none}
use Rattle.ls_cells.proofs.Least.{free_is}
use Rattle.ls_cells.proofs.Items.{SameAt, ItemHere, items_set, change_self, history_at, as_many, item_here}

-- a slot on another item
other_item : (m number : ℕ) (v : LiveSlot) → (m ≡ v.item → ⊥) → is_numbered m number v ≡ false
other_item m number v other = ap (λ t. t && (number == v.number)) (ne_eqb m v.item other)

pub same_out : (a b : List LiveSlot) (v : LiveSlot) (m : ℕ) → (m ≡ v.item → ⊥) → SameAt (a ++ v ∷ b) (a ++ b) m
same_out a b v m other =
    record {
      numbered = λ number. sym (numbered_other m number a b v (other_item m number v other));
      count = ap length (sym (numbers_other m a b v (ne_eqb m v.item other)));
    }

pub same_in : (a b : List LiveSlot) (v : LiveSlot) (m : ℕ) → (m ≡ v.item → ⊥) → SameAt (a ++ b) (a ++ v ∷ b) m
same_in a b v m other =
    record {
      numbered = λ number. numbered_other m number a b v (other_item m number v other);
      count = ap length (numbers_other m a b v (ne_eqb m v.item other));
    }

same_then : (x y z : List LiveSlot) (m : ℕ) → SameAt x y m → SameAt y z m → SameAt x z m
same_then x y z m s t = record { numbered = λ number. t.numbered number ∙ s.numbered number; count = t.count ∙ s.count }

-- what a cell says of a slot on its item
pub record SlotThere (c : Held) (h : List Entry) (number : ℕ) (s : Slot) : Type 0 where
  pub slots : List (Option Slot)
  pub cell : StandsCell c slots h
  pub here : slot_at slots number ≡ Some s

pub mine : (a b : List LiveSlot) (v : LiveSlot) (k : ℕ) (c : Held) (i : Item) → k ≡ v.item → IsUnlike v (a ++ b) → (st : StandsItem (a ++ v ∷ b) k c i)
    → slot_at st.slots v.number ≡ Some v.slot
mine a b v k c i at u st =
    let is : is_numbered k v.number v ≡ true = is_numbered_at k v.number v at refl in
    st.live v.number ∙ numbered_here k v.number a b v is (unlike_at k v.number v (a ++ b) is u)

-- the slot changes
pub item_changed : (a b : List LiveSlot) (v : LiveSlot) (s : Slot) (k : ℕ) (c c' : Held) (i : Item) → k ≡ v.item → IsUnlike v (a ++ b)
    → c'.item.shape ≡ c.item.shape
    → ((ss : List (Option Slot)) → StandsCell c ss i.history → slot_at ss v.number ≡ Some v.slot → StandsCell c' (set_slot ss v.number (Some s)) i.history)
    → StandsItem (a ++ v ∷ b) k c i → StandsItem (a ++ record v { slot = s } ∷ b) k c' i
item_changed a b v s k c c' i at u shape step st =
    record {
      slots = set_slot st.slots v.number (Some s);
      cell = step st.slots st.cell own;
      shape = shape ∙ st.shape;
      live = λ m. by_number m (is_numbered k m v) refl;
      count = live_slot_set st.slots v.number v.slot s own ∙ st.count ∙ count_here k a b v at
          ∙ sym (count_here k a b (record v { slot = s }) at);
    }
  where
    own : slot_at st.slots v.number ≡ Some v.slot
    own = mine a b v k c i at u st

    by_number : (m : ℕ) (t : Bool) → is_numbered k m v ≡ t
        → slot_at (set_slot st.slots v.number (Some s)) m ≡ slot_numbered k m (a ++ record v { slot = s } ∷ b)
    by_number m true is =
        ap (slot_at (set_slot st.slots v.number (Some s))) (numbered_is k m v is).1 ∙ set_at st.slots v.number (Some s) v.slot own
        ∙ sym (numbered_here k m a b (record v { slot = s }) is (unlike_at k m v (a ++ b) is u))
    by_number m false is =
        set_other st.slots v.number m (Some s) (some_number st.slots v.number v.slot own)
        (λ e. differs (is_numbered k m v) (is_numbered_at k m v at e) is)
        ∙ st.live m ∙ numbered_other k m a b v is ∙ sym (numbered_other k m a b (record v { slot = s }) is)

-- the slot joins
pub item_joined : (a b : List LiveSlot) (v : LiveSlot) (k : ℕ) (c c' : Held) (i : Item) → k ≡ v.item → v.number ≡ free_in (a ++ b) k
    → c'.item.shape ≡ c.item.shape
    → ((ss : List (Option Slot)) → StandsCell c ss i.history → StandsCell c' (put_slot ss v.slot) i.history)
    → StandsItem (a ++ b) k c i → StandsItem (a ++ v ∷ b) k c' i
item_joined a b v k c c' i at number shape step st =
    record {
      slots = put_slot st.slots v.slot;
      cell = step st.slots st.cell;
      shape = shape ∙ st.shape;
      live = λ m. by_number m (is_numbered k m v) refl;
      count = live_put st.slots v.slot ∙ ap (λ n. n + 1) st.count ∙ sym (count_here k a b v at);
    }
  where
    free : v.number ≡ free_number st.slots
    free = number ∙ sym (free_is st.slots k (a ++ b) st.live)

    by_number : (m : ℕ) (t : Bool) → is_numbered k m v ≡ t → slot_at (put_slot st.slots v.slot) m ≡ slot_numbered k m (a ++ v ∷ b)
    by_number m true is =
        let e : m ≡ free_number st.slots = (numbered_is k m v is).1 ∙ free in
        ap (slot_at (put_slot st.slots v.slot)) e ∙ put_at st.slots v.slot
        ∙ sym (numbered_here k m a b v is (none_numbered k m (a ++ b) (sym (st.live m) ∙ free_none st.slots m e)))
    by_number m false is =
        put_other st.slots v.slot m (λ e. differs (is_numbered k m v) (is_numbered_at k m v at (e ∙ sym free)) is)
        ∙ st.live m ∙ sym (numbered_other k m a b v is)

-- the slot leaves
pub item_left : (a b : List LiveSlot) (v : LiveSlot) (k : ℕ) (c c' : Held) (i : Item) → k ≡ v.item → IsUnlike v (a ++ b)
    → c'.item.shape ≡ c.item.shape
    → ((ss : List (Option Slot)) → StandsCell c ss i.history → slot_at ss v.number ≡ Some v.slot → StandsCell c' (set_slot ss v.number None) i.history)
    → StandsItem (a ++ v ∷ b) k c i → StandsItem (a ++ b) k c' i
item_left a b v k c c' i at u shape step st =
    record {
      slots = set_slot st.slots v.number None;
      cell = step st.slots st.cell own;
      shape = shape ∙ st.shape;
      live = λ m. by_number m (is_numbered k m v) refl;
      count = omega (arith, live_slot_unset st.slots v.number v.slot own, st.count, count_here k a b v at);
    }
  where
    own : slot_at st.slots v.number ≡ Some v.slot
    own = mine a b v k c i at u st

    by_number : (m : ℕ) (t : Bool) → is_numbered k m v ≡ t → slot_at (set_slot st.slots v.number None) m ≡ slot_numbered k m (a ++ b)
    by_number m true is =
        ap (slot_at (set_slot st.slots v.number None)) (numbered_is k m v is).1 ∙ set_at st.slots v.number None v.slot own
        ∙ sym (numbered_none k m (a ++ b) (unlike_at k m v (a ++ b) is u))
    by_number m false is =
        set_other st.slots v.number m None (some_number st.slots v.number v.slot own)
        (λ e. differs (is_numbered k m v) (is_numbered_at k m v at e) is)
        ∙ st.live m ∙ numbered_other k m a b v is

module _ (cells : List Held) (j : ℕ) (c : Held) (low : j < length cells) (is : c ≡ get_or cells j c) where
  -- what a cell says of one of the slots of all sessions
  pub slot_there : (live number : ℕ) (items : List Item) (a b : List LiveSlot) (v : LiveSlot) → v.item ≡ j → v.number ≡ number
      → StandsCells (record { cells = cells; live = live }) items (a ++ v ∷ b) → SlotThere c (history_of items v.item) number v.slot
  slot_there live number items a b v on numbered st =
      let i : ItemHere (a ++ v ∷ b) items j c = item_here (a ++ v ∷ b) items j cells c low is st.cells in
      let own : slot_at i.stands.slots v.number ≡ Some v.slot = mine a b v j c i.item (sym on) (unlike_out a b v st.unlike).0 i.stands in
      let history : i.item.history ≡ history_of items v.item = sym (ap (history_of items) on ∙ history_at j items i.item i.is) in
      record {
        slots = i.stands.slots;
        cell = subst (StandsCell c i.stands.slots) history i.stands.cell;
        here = ap (slot_at i.stands.slots) (sym numbered) ∙ own;
      }

  -- a cell's slot changes
  pub cells_changed : (c' : Held) (live number : ℕ) (items : List Item) (a b : List LiveSlot) (v : LiveSlot) (s : Slot) → v.item ≡ j → v.number ≡ number
      → c'.item.shape ≡ c.item.shape
      → ((ss : List (Option Slot)) → StandsCell c ss (history_of items v.item) → slot_at ss number ≡ Some v.slot
      → StandsCell c' (set_slot ss number (Some s)) (history_of items v.item))
      → StandsCells (record { cells = cells; live = live }) items (a ++ v ∷ b)
      → StandsCells (record { cells = set cells j c'; live = live }) items (a ++ record v { slot = s } ∷ b)
  cells_changed c' live number items a b v s on numbered shape step st =
      let u = unlike_out a b v st.unlike in
      let w = each_out (λ x. x.item < length items) a b v st.within in
      let step' : (i : Item) → slice_get items j ≡ Some i → (ss : List (Option Slot)) → StandsCell c ss i.history → slot_at ss v.number ≡ Some v.slot
      → StandsCell c' (set_slot ss v.number (Some s)) i.history
      = λ i here. subst (λ (h : List Entry). (ss : List (Option Slot)) → StandsCell c ss h → slot_at ss v.number ≡ Some v.slot
      → StandsCell c' (set_slot ss v.number (Some s)) h) (ap (history_of items) on ∙ history_at j items i here)
      (subst (λ m. (ss : List (Option Slot)) → StandsCell c ss (history_of items v.item) → slot_at ss m ≡ Some v.slot
      → StandsCell c' (set_slot ss m (Some s)) (history_of items v.item)) (sym numbered) step) in
      record {
        cells = subst (StandsItems (a ++ record v { slot = s } ∷ b) 0 (set cells j c')) (change_self j items)
            (items_set (a ++ v ∷ b) (a ++ record v { slot = s } ∷ b) (λ i. i) j 0 j cells items c c' (omega arith) low is st.cells
            (λ i here x. item_changed a b v s j c c' i (sym on) u.0 shape (step' i here) x)
            (λ m other. same_then (a ++ v ∷ b) (a ++ b) (a ++ record v { slot = s } ∷ b) m (same_out a b v m (λ e. other (e ∙ on)))
            (same_in a b (record v { slot = s }) m (λ e. other (e ∙ on)))));
        unlike = unlike_in a b (record v { slot = s }) u.0 u.1;
        within = each_in (λ x. x.item < length items) a b (record v { slot = s }) w.0 w.1;
        live = st.live ∙ length_in a b v ∙ sym (length_in a b (record v { slot = s }));
      }

  -- a slot joins a cell
  pub cells_joined : (c' : Held) (live : ℕ) (items : List Item) (a b : List LiveSlot) (v : LiveSlot) → v.item ≡ j → v.number ≡ free_in (a ++ b) j
      → c'.item.shape ≡ c.item.shape
      → ((ss : List (Option Slot)) → StandsCell c ss (history_of items j) → StandsCell c' (put_slot ss v.slot) (history_of items j))
      → StandsCells (record { cells = cells; live = live }) items (a ++ b)
      → StandsCells (record { cells = set cells j c'; live = live + 1 }) items (a ++ v ∷ b)
  cells_joined c' live items a b v on numbered shape step st =
      let i : ItemHere (a ++ b) items j c = item_here (a ++ b) items j cells c low is st.cells in
      let none : slot_numbered j v.number (a ++ b) ≡ None = sym (i.stands.live v.number)
      ∙ free_none i.stands.slots v.number (numbered ∙ sym (free_is i.stands.slots j (a ++ b) i.stands.live)) in
      record {
        cells = subst (StandsItems (a ++ v ∷ b) 0 (set cells j c')) (change_self j items)
            (items_set (a ++ b) (a ++ v ∷ b) (λ x. x) j 0 j cells items c c' (omega arith) low is st.cells
            (λ x here y. item_joined a b v j c c' x (sym on) numbered shape
            (subst (λ (h : List Entry). (ss : List (Option Slot)) → StandsCell c ss h → StandsCell c' (put_slot ss v.slot) h)
            (history_at j items x here) step) y)
            (λ m other. same_in a b v m (λ e. other (e ∙ on))));
        unlike = unlike_in a b v (subst (λ m. IsFreeAt m v.number (a ++ b)) (sym on) (none_numbered j v.number (a ++ b) none)) st.unlike;
        within = each_in (λ x. x.item < length items) a b v
            (let e : j < length items = omega (arith, low, as_many (a ++ b) 0 cells items st.cells) in omega (arith, e, on)) st.within;
        live = ap (λ n. n + 1) st.live ∙ sym (length_in a b v);
      }

  -- a slot leaves a cell
  pub cells_left : (c' : Held) (live number : ℕ) (items : List Item) (a b : List LiveSlot) (v : LiveSlot) → v.item ≡ j → v.number ≡ number
      → c'.item.shape ≡ c.item.shape
      → ((ss : List (Option Slot)) → StandsCell c ss (history_of items v.item) → slot_at ss number ≡ Some v.slot
      → StandsCell c' (set_slot ss number None) (history_of items v.item))
      → StandsCells (record { cells = cells; live = live }) items (a ++ v ∷ b)
      → StandsCells (record { cells = set cells j c'; live = live - 1 }) items (a ++ b)
  cells_left c' live number items a b v on numbered shape step st =
      let u = unlike_out a b v st.unlike in
      let w = each_out (λ x. x.item < length items) a b v st.within in
      let step' : (i : Item) → slice_get items j ≡ Some i → (ss : List (Option Slot)) → StandsCell c ss i.history → slot_at ss v.number ≡ Some v.slot
      → StandsCell c' (set_slot ss v.number None) i.history
      = λ i here. subst (λ (h : List Entry). (ss : List (Option Slot)) → StandsCell c ss h → slot_at ss v.number ≡ Some v.slot
      → StandsCell c' (set_slot ss v.number None) h) (ap (history_of items) on ∙ history_at j items i here)
      (subst (λ m. (ss : List (Option Slot)) → StandsCell c ss (history_of items v.item) → slot_at ss m ≡ Some v.slot
      → StandsCell c' (set_slot ss m None) (history_of items v.item)) (sym numbered) step) in
      record {
        cells = subst (StandsItems (a ++ b) 0 (set cells j c')) (change_self j items)
            (items_set (a ++ v ∷ b) (a ++ b) (λ i. i) j 0 j cells items c c' (omega arith) low is st.cells
            (λ i here x. item_left a b v j c c' i (sym on) u.0 shape (step' i here) x)
            (λ m other. same_out a b v m (λ e. other (e ∙ on))));
        unlike = u.1;
        within = w.1;
        live = omega (arith, st.live, length_in a b v);
      }
