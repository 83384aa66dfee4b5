-- What a call on one item's cell does, among all items and the slots of all sessions.
use Rattle.std.proofs.Common.{◌≡◌, ℕ, zero, suc, ◌+◌, ◌-◌, ◌<◌, ◌≤◌, List, [], ◌∷◌, ◌++◌, length, refl, sym, ◌∙◌, ap, arith, subst, cond, Bool, true, false}
use Rattle.std.proofs.Common.{Option, Some, None, nat_lt, get_or, set, slice_get}
use Rattle.ls_event.specs.declared.event.Entry.{Entry}
use Rattle.ls_event.specs.declared.event.Mode.{Mode}
use Rattle.ls_event.specs.declared.event.Snap.{Snap}
use Rattle.ls_event.specs.declared.event.Taken.{Taken}
use Rattle.ls_event.specs.declared.limits.TheConstants.{MOST_SLOTS, MOST_BUFFER_SIZE}
use Rattle.ls_event.specs.Cuts.{cut, is_pending}
use Rattle.ls_event.specs.Joining.{plan_of, rows_asked, joined, is_mode_of}
use Rattle.ls_event.specs.Shapes.{Shape, shape_of}
use Rattle.ls_event.specs.Slots.{Slot, enqueued, passed}
use Rattle.ls_cell.specs.declared.cell.Enqueued.{Enqueued}
use Rattle.ls_cell.specs.Cell.{Held, StandsCell, enqueue_answer, enqueued_at}
use Rattle.ls_cell.specs.Numbered.{slot_at, set_slot, put_slot, live_slots, free_number}
use Rattle.ls_cell.specs.Standing.{StandsSlot}
use Rattle.ls_cell.proofs.Changes.{same_live}
use Rattle.ls_record.specs.Records.{Item, LiveSlot, history_of, shape_at, enqueue_slot}
use Rattle.ls_cells.specs.Cells.{AllCells, StandsCells, MayJoin, slot_numbered, free_in}
use Rattle.ls_cells.proofs.Numbers.{each_out, count_low}
use Rattle.ls_cells.proofs.Places.{set_back}
use Rattle.ls_cells.proofs.Least.{free_is}
use Rattle.ls_cells.proofs.Items.{ItemHere, item_here, history_at, as_many}
use Rattle.ls_cells.proofs.OneSlot.{SlotThere, slot_there, cells_changed, cells_joined, cells_left}

-- there is a cell for the item of each slot
pub no_item : (k : AllCells) (j : ℕ) (items : List Item) (a b : List LiveSlot) (v : LiveSlot) → StandsCells k items (a ++ v ∷ b) → v.item ≡ j
    → length k.cells ≤ j → ⊥
no_item k j items a b v st on high =
    let w = each_out (λ x. x.item < length items) a b v st.within in
    omega (arith, w.0, on, high, as_many (a ++ v ∷ b) 0 k.cells items st.cells)

pub enqueue_is : (h : List Entry) (v : LiveSlot) → record v { slot = enqueued_at h v.slot } ≡ enqueue_slot h v
enqueue_is h v = by_test (nat_lt v.slot.last (length h))
  where
    by_test : (t : Bool) → record v { slot = cond t (enqueued v.slot) v.slot } ≡ cond t (record v { slot = enqueued v.slot }) v
    by_test true = refl
    by_test false = refl

pub shape_there : (j : ℕ) (items : List Item) (i : Item) → slice_get items j ≡ Some i → shape_at items j ≡ shape_of i.definition
shape_there j [] i is = absurd (let x : None ≡ Some i = is in cc)
shape_there zero (y ∷ items) i is = let same : y ≡ i = cc in ap (λ (z : Item). shape_of z.definition) same
shape_there (suc j) (y ∷ items) i is = shape_there j items i is

module _ (cells : List Held) (j : ℕ) (c : Held) (low : j < length cells) (is : c ≡ get_or cells j c) where
  pub enqueue_did : (c' : Held) (live number : ℕ) (answer : Option Enqueued) → c'.item.shape ≡ c.item.shape
      → ((ss : List (Option Slot)) (h : List Entry) (s : Slot) → StandsCell c ss h → slot_at ss number ≡ Some s
      → answer ≡ Some (enqueue_answer (length h) s.last))
      → ((ss : List (Option Slot)) (h : List Entry) (s : Slot) → StandsCell c ss h → slot_at ss number ≡ Some s
      → StandsCell c' (set_slot ss number (Some (enqueued_at h s))) h)
      → (items : List Item) (a b : List LiveSlot) (v : LiveSlot) → StandsCells (record { cells = cells; live = live }) items (a ++ v ∷ b)
      → v.item ≡ j → v.number ≡ number
      → (answer ≡ Some (enqueue_answer (length (history_of items v.item)) v.slot.last))
      × StandsCells (record { cells = set cells j c'; live = live }) items (a ++ enqueue_slot (history_of items v.item) v ∷ b)
  enqueue_did c' live number answer shape answers step items a b v st on numbered =
      let h : List Entry = history_of items v.item in
      let x : SlotThere c h number v.slot = slot_there cells j c low is live number items a b v on numbered st in (
        answers x.slots h v.slot x.cell x.here,
        subst (λ (u : LiveSlot). StandsCells (record { cells = set cells j c'; live = live }) items (a ++ u ∷ b)) (enqueue_is h v)
            (cells_changed cells j c low is c' live number items a b v (enqueued_at h v.slot) on numbered shape
            (λ ss s here. step ss h v.slot s here) st),
      )

  pub look_did : (live number : ℕ) (t : Option Taken)
      → ((ss : List (Option Slot)) (h : List Entry) (s : Slot) → StandsCell c ss h → slot_at ss number ≡ Some s → t ≡ cut h s)
      → (items : List Item) (a b : List LiveSlot) (v : LiveSlot) → StandsCells (record { cells = cells; live = live }) items (a ++ v ∷ b)
      → v.item ≡ j → v.number ≡ number → t ≡ cut (history_of items v.item) v.slot
  look_did live number t cuts items a b v st on numbered =
      let x : SlotThere c (history_of items v.item) number v.slot = slot_there cells j c low is live number items a b v on numbered st in
      cuts x.slots (history_of items v.item) v.slot x.cell x.here

  pub pending_did : (live number : ℕ) (pends : Bool)
      → ((ss : List (Option Slot)) (h : List Entry) (s : Slot) → StandsCell c ss h → slot_at ss number ≡ Some s → pends ≡ is_pending h s)
      → (items : List Item) (a b : List LiveSlot) (v : LiveSlot) → StandsCells (record { cells = cells; live = live }) items (a ++ v ∷ b)
      → v.item ≡ j → v.number ≡ number → pends ≡ is_pending (history_of items v.item) v.slot
  pending_did live number pends says items a b v st on numbered =
      let x : SlotThere c (history_of items v.item) number v.slot = slot_there cells j c low is live number items a b v on numbered st in
      says x.slots (history_of items v.item) v.slot x.cell x.here

  pub pass_did : (c' : Held) (live number : ℕ) → c'.item.shape ≡ c.item.shape
      → ((ss : List (Option Slot)) (h : List Entry) (s : Slot) (t : Taken) → StandsCell c ss h → slot_at ss number ≡ Some s → cut h s ≡ Some t
      → StandsCell c' (set_slot ss number (Some (passed s t))) h)
      → (items : List Item) (a b : List LiveSlot) (v : LiveSlot) (t : Taken) → StandsCells (record { cells = cells; live = live }) items (a ++ v ∷ b)
      → v.item ≡ j → v.number ≡ number → cut (history_of items v.item) v.slot ≡ Some t
      → StandsCells (record { cells = set cells j c'; live = live }) items (a ++ record v { slot = passed v.slot t } ∷ b)
  pass_did c' live number shape step items a b v t st on numbered cuts =
      cells_changed cells j c low is c' live number items a b v (passed v.slot t) on numbered shape
      (λ ss s here. step ss (history_of items v.item) v.slot t s here cuts) st

  pub leave_did : (c' : Held) (live number : ℕ) (left : Bool) → c'.item.shape ≡ c.item.shape
      → ((ss : List (Option Slot)) (h : List Entry) (s : Slot) → StandsCell c ss h → slot_at ss number ≡ Some s
      → (left ≡ true) × StandsCell c' (set_slot ss number None) h)
      → (items : List Item) (a b : List LiveSlot) (v : LiveSlot) → StandsCells (record { cells = cells; live = live }) items (a ++ v ∷ b)
      → v.item ≡ j → v.number ≡ number
      → (left ≡ true) × StandsCells (record { cells = set cells j c'; live = live - 1 }) items (a ++ b)
  leave_did c' live number left shape step items a b v st on numbered =
      let h : List Entry = history_of items v.item in
      let x : SlotThere c h number v.slot = slot_there cells j c low is live number items a b v on numbered st in (
        (step x.slots h v.slot x.cell x.here).0,
        cells_left cells j c low is c' live number items a b v on numbered shape (λ ss s here. (step ss h v.slot s here).1) st,
      )

  -- what the call says of a slot that joins, where it may
  pub join_did : (c' : Held) (live n : ℕ) (m : Mode) (snap : Snap) (answer : Option ℕ) → c'.item.shape ≡ c.item.shape
      → ((ss : List (Option Slot)) (h : List Entry) → StandsCell c ss h → is_mode_of m c.item.shape.kind ≡ true → 0 < n → n ≤ MOST_BUFFER_SIZE
      → live_slots ss < MOST_SLOTS → answer ≡ Some (free_number ss))
      → ((ss : List (Option Slot)) (h : List Entry) → StandsCell c ss h → is_mode_of m c.item.shape.kind ≡ true → 0 < n → n ≤ MOST_BUFFER_SIZE
      → live_slots ss < MOST_SLOTS → StandsCell c' (put_slot ss (joined (plan_of c.item.shape h m n) h (rows_asked snap))) h)
      → (items : List Item) (a b : List LiveSlot) (v : LiveSlot) → StandsCells (record { cells = cells; live = live }) items (a ++ b) → v.item ≡ j
      → is_mode_of m (shape_at items j).kind ≡ true → 0 < n → n ≤ MOST_BUFFER_SIZE → length (a ++ b) < MOST_SLOTS → v.number ≡ free_in (a ++ b) j
      → v.slot ≡ joined (plan_of (shape_at items j) (history_of items j) m n) (history_of items j) (rows_asked snap)
      → (answer ≡ Some v.number) × StandsCells (record { cells = set cells j c'; live = live + 1 }) items (a ++ v ∷ b)
  join_did c' live n m snap answer shape answers step items a b v st on allowed some most few numbered slot =
      let x : ItemHere (a ++ b) items j c = item_here (a ++ b) items j cells c low is st.cells in
      let same : shape_at items j ≡ c.item.shape = shape_there j items x.item x.is ∙ sym x.stands.shape in
      let own : is_mode_of m c.item.shape.kind ≡ true = subst (λ (p : Shape). is_mode_of m p.kind ≡ true) same allowed in
      let history : x.item.history ≡ history_of items j = sym (history_at j items x.item x.is) in
      let cell : StandsCell c x.stands.slots (history_of items j) = subst (StandsCell c x.stands.slots) history x.stands.cell in
      let made : v.slot ≡ joined (plan_of c.item.shape (history_of items j) m n) (history_of items j) (rows_asked snap) =
      slot ∙ ap (λ (p : Shape). joined (plan_of p (history_of items j) m n) (history_of items j) (rows_asked snap)) same in
      let room : (ss : List (Option Slot)) → live_slots ss ≡ live_slots x.stands.slots → live_slots ss < MOST_SLOTS =
      λ ss e. omega (arith, e, x.stands.count, count_low j (a ++ b), few) in (
        answers x.stands.slots (history_of items j) cell own some most (room x.stands.slots refl)
            ∙ ap (λ y. Some y) (free_is x.stands.slots j (a ++ b) x.stands.live ∙ sym numbered),
        cells_joined cells j c low is c' live items a b v on numbered shape
            (λ ss s. subst (λ y. StandsCell c' (put_slot ss y) (history_of items j)) (sym made)
            (step ss (history_of items j) s own some most (room ss (live_of ss s cell)))) st,
      )
    where
      live_of : (ss : List (Option Slot)) → StandsCell c ss (history_of items j) → {ts : List (Option Slot)} → StandsCell c ts (history_of items j)
          → live_slots ss ≡ live_slots ts
      live_of ss s {ts} t = sym (same_live (StandsSlot c.item.shape) c.slots ss (history_of items j) s.slots)
          ∙ same_live (StandsSlot c.item.shape) c.slots ts (history_of items j) t.slots

  -- a slot that may join
  pub may_did : (live n : ℕ) (m : Mode) (items : List Item) (lives : List LiveSlot) → StandsCells (record { cells = cells; live = live }) items lives
      → live < MOST_SLOTS → is_mode_of m c.item.shape.kind ≡ true → 0 < n → n ≤ MOST_BUFFER_SIZE → MayJoin items lives j m n
  may_did live n m items lives st few allowed some most =
      let x : ItemHere lives items j c = item_here lives items j cells c low is st.cells in
      record {
        item = omega (arith, low, as_many lives 0 cells items st.cells);
        mode = subst (λ (p : Shape). is_mode_of m p.kind ≡ true) (x.stands.shape ∙ sym (shape_there j items x.item x.is)) allowed;
        some = some;
        most = most;
        few = omega (arith, few, st.live);
      }

  -- where no slot has a number, the cell says so
  pub none_here : (P : Type 0) (live number : ℕ) (items : List Item) (lives : List LiveSlot)
      → ((ss : List (Option Slot)) (h : List Entry) → StandsCell c ss h → slot_at ss number ≡ None → P)
      → StandsCells (record { cells = cells; live = live }) items lives → slot_numbered j number lives ≡ None → P
  none_here P live number items lives says st none =
      let x : ItemHere lives items j c = item_here lives items j cells c low is st.cells in
      says x.stands.slots x.item.history x.stands.cell (x.stands.live number ∙ none)

  -- and a call that then leaves the cell as it was leaves all as it was
  pub none_did : (P : Type 0) (c' : Held) (live number : ℕ) (items : List Item) (lives : List LiveSlot)
      → ((ss : List (Option Slot)) (h : List Entry) → StandsCell c ss h → slot_at ss number ≡ None → P × (c' ≡ c))
      → StandsCells (record { cells = cells; live = live }) items lives → slot_numbered j number lives ≡ None
      → P × StandsCells (record { cells = set cells j c'; live = live }) items lives
  none_did P c' live number items lives says st none =
      let r = none_here (P × (c' ≡ c)) live number items lives says st none in (
        r.0,
        subst (λ (cs : List Held). StandsCells (record { cells = cs; live = live }) items lives) (sym (set_back cells j c c' is r.1)) st,
      )
