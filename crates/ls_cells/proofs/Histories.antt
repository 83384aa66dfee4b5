-- The history of a slot's item is one of the shape that the slot's plan has.
use Rattle.std.proofs.Common.{◌≡◌, ℕ, zero, suc, ◌+◌, ◌<◌, List, [], ◌∷◌, ◌++◌, length, refl, sym, arith, subst, Option, Some, None}
use Rattle.std.proofs.Common.{slice_get, slice_index_or}
use Rattle.ls_event.specs.declared.event.Entry.{Entry}
use Rattle.ls_event.specs.Publishes.{IsHistory}
use Rattle.ls_event.specs.Shapes.{Shape}
use Rattle.ls_event.specs.Slots.{Slot}
use Rattle.ls_cell.specs.declared.any.AnyBuffer.{AnyBuffer}
use Rattle.ls_cell.specs.Cell.{Held}
use Rattle.ls_cell.specs.Numbered.{slot_at, StandsAt, StandsAll}
use Rattle.ls_cell.specs.Standing.{StandsSlot}
use Rattle.ls_record.specs.Records.{Item, LiveSlot, history_of}
use Rattle.ls_cells.specs.Cells.{AllCells, StandsItem, StandsItems, StandsCells}
use Rattle.ls_cells.proofs.Numbers.{each_out, unlike_out}
use Rattle.ls_cells.proofs.Items.{history_at}
use Rattle.ls_cells.proofs.OneSlot.{mine}

-- the cell of an item
record ItemAt (lives : List LiveSlot) (items : List Item) (n j : ℕ) : Type 0 where
  cell : Held
  item : Item
  is : slice_get items j ≡ Some item
  stands : StandsItem lives (n + j) cell item

item_at : (lives : List LiveSlot) (n j : ℕ) (cells : List Held) (items : List Item) → j < length items → StandsItems lives n cells items
    → ItemAt lives items n j
item_at lives n j [] [] low st = absurd (omega (arith, low))
item_at lives n j [] (i ∷ items) low st = absurd st
item_at lives n j (c ∷ cells) [] low st = absurd st
item_at lives n zero (c ∷ cells) (i ∷ items) low st =
    record {
      cell = c;
      item = i;
      is = refl;
      stands = subst (λ m. StandsItem lives m c i) (let e : n ≡ n + 0 = omega arith in e) st.0;
    }
item_at lives n (suc j) (c ∷ cells) (i ∷ items) low st =
    let r = item_at lives (n + 1) j cells items (omega (arith, low)) st.1 in
    record {
      cell = r.cell;
      item = r.item;
      is = r.is;
      stands = subst (λ m. StandsItem lives m r.cell r.item) (let e : n + 1 + j ≡ n + suc j = omega arith in e) r.stands;
    }

-- a slot's buffer stands for it
module _ (f : AnyBuffer → Slot → List Entry → Type 0) (h : List Entry) (s : Slot) where
  stands_one : (b : Option AnyBuffer) (o : Option Slot) → o ≡ Some s → StandsAt f b o h → (x : AnyBuffer) × f x s h
  stands_one None None is st = absurd (let e : None ≡ Some s = is in cc)
  stands_one None (Some t) is st = absurd st
  stands_one (Some b) None is st = absurd st
  stands_one (Some b) (Some t) is st = let same : t ≡ s = cc in (b, subst (λ (x : Slot). f b x h) same st)

  stands_in : (bs : List (Option AnyBuffer)) (ss : List (Option Slot)) (n : ℕ) → StandsAll f bs ss h → slice_index_or ss n None ≡ Some s
      → (x : AnyBuffer) × f x s h
  stands_in [] [] n st is = absurd (let e : None ≡ Some s = is in cc)
  stands_in [] (o ∷ ss) n st is = absurd st
  stands_in (b ∷ bs) [] n st is = absurd st
  stands_in (b ∷ bs) (o ∷ ss) zero st is = stands_one b o is st.0
  stands_in (b ∷ bs) (o ∷ ss) (suc n) st is = stands_in bs ss n st.1 is

  stands_at : (bs : List (Option AnyBuffer)) (ss : List (Option Slot)) (number : ℕ) → StandsAll f bs ss h → slot_at ss number ≡ Some s
      → (x : AnyBuffer) × f x s h
  stands_at bs ss zero st is = absurd (let e : None ≡ Some s = is in cc)
  stands_at bs ss (suc n) st is = stands_in bs ss n st is

pub slot_history : (k : AllCells) (items : List Item) (a b : List LiveSlot) (v : LiveSlot) → StandsCells k items (a ++ v ∷ b)
    → IsHistory v.slot.plan.shape (history_of items v.item)
slot_history k items a b v st =
    let r : ItemAt (a ++ v ∷ b) items 0 v.item = item_at (a ++ v ∷ b) 0 v.item k.cells items
    (each_out (λ x. x.item < length items) a b v st.within).0 st.cells in
    let there : StandsItem (a ++ v ∷ b) v.item r.cell r.item =
    subst (λ m. StandsItem (a ++ v ∷ b) m r.cell r.item) (let e : 0 + v.item ≡ v.item = omega arith in e) r.stands in
    let own = stands_at (StandsSlot r.cell.item.shape) r.item.history v.slot r.cell.slots there.slots v.number there.cell.slots
    (mine a b v v.item r.cell r.item refl (unlike_out a b v st.unlike).0 there) in
    subst (λ (h : List Entry). IsHistory v.slot.plan.shape h) (sym (history_at v.item items r.item r.is))
    (subst (λ (p : Shape). IsHistory p r.item.history) (sym own.1.shape) there.cell.history)
