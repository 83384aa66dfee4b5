-- The cells of all items, as the slots of all sessions change.
use Rattle.std.proofs.Common.{◌≡◌, ◌==◌, ℕ, zero, suc, ◌+◌, ◌<◌, List, [], ◌∷◌, ◌++◌, length, refl, sym, ◌∙◌, ap, arith, subst, Bool, true, false}
use Rattle.std.proofs.Common.{Some, None, slice_get, get_or, set}
use Rattle.std.proofs.lemmas.Bool.{eqb-true}
use Rattle.ls_cell.specs.Cell.{Held}
use Rattle.ls_value.specs.Each.{Each}
use Rattle.ls_record.specs.Records.{Item, LiveSlot, numbers_of, history_of, change}
use Rattle.ls_cells.specs.Cells.{AllCells, is_numbered, slot_numbered, IsUnlike, Unlike, StandsItem, StandsItems, StandsCells}
use Rattle.ls_cells.proofs.Numbers.{each_out, each_in, length_in, unlike_out, unlike_in, IsFreeAt, unlike_at}
use Rattle.ls_cells.proofs.Numbers.{numbered_here, numbered_other, count_here, numbers_other}

-- two lists have the same slots on an item
pub record SameAt (before after : List LiveSlot) (n : ℕ) : Type 0 where
  pub numbered : (number : ℕ) → slot_numbered n number after ≡ slot_numbered n number before
  pub count : length (numbers_of n after) ≡ length (numbers_of n before)

pub same_self : (lives : List LiveSlot) (n : ℕ) → SameAt lives lives n
same_self lives n = record { numbered = λ m. refl; count = refl }

item_same : (before after : List LiveSlot) (n : ℕ) (c : Held) (i : Item) → SameAt before after n → StandsItem before n c i → StandsItem after n c i
item_same before after n c i s st =
    record {
      slots = st.slots;
      cell = st.cell;
      shape = st.shape;
      live = λ m. st.live m ∙ sym (s.numbered m);
      count = st.count ∙ sym s.count;
    }

pub items_same : (before after : List LiveSlot) (n : ℕ) (cells : List Held) (items : List Item) → ((m : ℕ) → SameAt before after m)
    → StandsItems before n cells items → StandsItems after n cells items
items_same before after n [] [] s st = tt
items_same before after n [] (i ∷ items) s st = absurd st
items_same before after n (c ∷ cells) [] s st = absurd st
items_same before after n (c ∷ cells) (i ∷ items) s st =
    (item_same before after n c i (s n) st.0, items_same before after (n + 1) cells items s st.1)

-- the items behind the one that changes
items_behind : (before after : List LiveSlot) (k n : ℕ) (cells : List Held) (items : List Item) → k < n → ((m : ℕ) → (m ≡ k → ⊥) → SameAt before after m)
    → StandsItems before n cells items → StandsItems after n cells items
items_behind before after k n [] [] low s st = tt
items_behind before after k n [] (i ∷ items) low s st = absurd st
items_behind before after k n (c ∷ cells) [] low s st = absurd st
items_behind before after k n (c ∷ cells) (i ∷ items) low s st = (
  item_same before after n c i (s n (λ e. omega (arith, e, low))) st.0,
  items_behind before after k (n + 1) cells items (omega (arith, low)) s st.1,
)

-- one item changes
pub items_set : (before after : List LiveSlot) (f : Item → Item) (k n j : ℕ) (cells : List Held) (items : List Item) (c c' : Held) → k ≡ n + j
    → j < length cells → c ≡ get_or cells j c → StandsItems before n cells items
    → ((i : Item) → slice_get items j ≡ Some i → StandsItem before k c i → StandsItem after k c' (f i))
    → ((m : ℕ) → (m ≡ k → ⊥) → SameAt before after m) → StandsItems after n (set cells j c') (change j f items)
items_set before after f k n j [] items c c' at low is st one s = absurd (omega (arith, low))
items_set before after f k n j (x ∷ cells) [] c c' at low is st one s = absurd st
items_set before after f k n zero (x ∷ cells) (i ∷ items) c c' at low is st one s =
    let here : k ≡ n = omega (arith, at) in (
      subst (λ m. StandsItem after m c' (f i)) here
          (one i refl (subst (λ m. StandsItem before m c i) (sym here) (subst (λ d. StandsItem before n d i) (sym is) st.0))),
      items_behind before after k (n + 1) cells items (omega (arith, here)) s st.1,
    )
items_set before after f k n (suc j) (x ∷ cells) (i ∷ items) c c' at low is st one s = (
  item_same before after n x i (s n (λ e. omega (arith, e, at))) st.0,
  items_set before after f k (n + 1) j cells items c c' (omega (arith, at)) (omega (arith, low)) is st.1 one s,
)

pub change_self : {A : Type 0} (n : ℕ) (xs : List A) → change n (λ x. x) xs ≡ xs
change_self n [] = refl
change_self zero (x ∷ xs) = refl
change_self (suc n) (x ∷ xs) = ap (λ ys. x ∷ ys) (change_self n xs)

pub length_change : {A : Type 0} (n : ℕ) (f : A → A) (xs : List A) → length (change n f xs) ≡ length xs
length_change n f [] = refl
length_change zero f (x ∷ xs) = refl
length_change (suc n) f (x ∷ xs) = ap suc (length_change n f xs)

pub history_at : (n : ℕ) (items : List Item) (i : Item) → slice_get items n ≡ Some i → history_of items n ≡ i.history
history_at n [] i is = absurd (let x : None ≡ Some i = is in cc)
history_at zero (y ∷ items) i is = let same : y ≡ i = cc in ap (λ (z : Item). z.history) same
history_at (suc n) (y ∷ items) i is = history_at n items i is

-- there are as many cells as items
pub as_many : (lives : List LiveSlot) (n : ℕ) (cells : List Held) (items : List Item) → StandsItems lives n cells items → length cells ≡ length items
as_many lives n [] [] st = refl
as_many lives n [] (i ∷ items) st = absurd st
as_many lives n (c ∷ cells) [] st = absurd st
as_many lives n (c ∷ cells) (i ∷ items) st = ap suc (as_many lives (n + 1) cells items st.1)

-- the same slot is put into two lists that are one
pub same_put : (a b c d : List LiveSlot) (v : LiveSlot) → IsUnlike v (a ++ b) → a ++ b ≡ c ++ d → (n : ℕ) → SameAt (a ++ v ∷ b) (c ++ v ∷ d) n
same_put a b c d v u same n =
    record {
      numbered = λ m. by_number m (is_numbered n m v) refl;
      count = by_item (n == v.item) refl;
    }
  where
    by_number : (m : ℕ) (t : Bool) → is_numbered n m v ≡ t → slot_numbered n m (c ++ v ∷ d) ≡ slot_numbered n m (a ++ v ∷ b)
    by_number m true is =
        let free : IsFreeAt n m (a ++ b) = unlike_at n m v (a ++ b) is u in
        numbered_here n m c d v is (subst (IsFreeAt n m) same free) ∙ sym (numbered_here n m a b v is free)
    by_number m false is = numbered_other n m c d v is ∙ ap (slot_numbered n m) (sym same) ∙ sym (numbered_other n m a b v is)

    by_item : (t : Bool) → (n == v.item) ≡ t → length (numbers_of n (c ++ v ∷ d)) ≡ length (numbers_of n (a ++ v ∷ b))
    by_item true is =
        let on : n ≡ v.item = eqb-true n v.item is in
        count_here n c d v on ∙ ap (λ vs. length (numbers_of n vs) + 1) (sym same) ∙ sym (count_here n a b v on)
    by_item false is =
        ap length (numbers_other n c d v is) ∙ ap (λ vs. length (numbers_of n vs)) (sym same) ∙ ap length (sym (numbers_other n a b v is))

-- the slots of all sessions come in another order
pub cells_moved : (k : AllCells) (items : List Item) (a b c d : List LiveSlot) (v : LiveSlot) → a ++ b ≡ c ++ d
    → StandsCells k items (a ++ v ∷ b) → StandsCells k items (c ++ v ∷ d)
cells_moved k items a b c d v same st =
    let u = unlike_out a b v st.unlike in
    let w = each_out (λ x. x.item < length items) a b v st.within in
    record {
      cells = items_same (a ++ v ∷ b) (c ++ v ∷ d) 0 k.cells items (same_put a b c d v u.0 same) st.cells;
      unlike = unlike_in c d v (subst (IsUnlike v) same u.0) (subst Unlike same u.1);
      within = each_in (λ x. x.item < length items) c d v w.0 (subst (Each (λ x. x.item < length items)) same w.1);
      live = st.live ∙ length_in a b v ∙ ap (λ vs. length vs + 1) same ∙ sym (length_in c d v);
    }

-- the item of a cell
pub record ItemHere (lives : List LiveSlot) (items : List Item) (j : ℕ) (c : Held) : Type 0 where
  pub item : Item
  pub is : slice_get items j ≡ Some item
  pub stands : StandsItem lives j c item

items_find : (lives : List LiveSlot) (k n j : ℕ) (cells : List Held) (items : List Item) (c : Held) → k ≡ n + j → j < length cells → c ≡ get_or cells j c
    → StandsItems lives n cells items → (i : Item) × (slice_get items j ≡ Some i) × StandsItem lives k c i
items_find lives k n j [] items c at low is st = absurd (omega (arith, low))
items_find lives k n j (x ∷ cells) [] c at low is st = absurd st
items_find lives k n zero (x ∷ cells) (i ∷ items) c at low is st =
    (i, refl, subst (λ m. StandsItem lives m c i) (let e : n ≡ k = omega (arith, at) in e) (subst (λ d. StandsItem lives n d i) (sym is) st.0))
items_find lives k n (suc j) (x ∷ cells) (i ∷ items) c at low is st =
    items_find lives k (n + 1) j cells items c (omega (arith, at)) (omega (arith, low)) is st.1

pub item_here : (lives : List LiveSlot) (items : List Item) (j : ℕ) (cells : List Held) (c : Held) → j < length cells → c ≡ get_or cells j c
    → StandsItems lives 0 cells items → ItemHere lives items j c
item_here lives items j cells c low is st =
    let r = items_find lives j 0 j cells items c (omega arith) low is st in
    record { item = r.0; is = r.1; stands = r.2 }
