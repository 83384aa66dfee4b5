-- The slots that are marked as settled stay so by each call.
use Rattle.std.proofs.Common.{◌≡◌, ℕ, zero, suc, ◌-◌, ◌<◌, List, [], ◌∷◌, ◌++◌, length, take, refl, sym, ◌∙◌, ap, arith, subst, Bool, true, false}
use Rattle.std.proofs.Common.{Option, Some, None, not, get_or, set, slice_get, IsSome, ◌==◌, Result, Ok, Err, OnOk, OnErr}
use Rattle.std.specs.Option.{option_map_or}
use Rattle.std.proofs.lemmas.Bool.{eqb-true, eq-eqb}
use Rattle.std.proofs.lemmas.List.{get_or-set_other}
use Rattle.ls_event.specs.declared.event.Entry.{Entry}
use Rattle.ls_event.specs.Cuts.{is_pending}
use Rattle.ls_record.specs.Records.{Item, LiveSlot, history_of}
use Rattle.ls_cell.specs.declared.any.AnyBuffer.{AnyBuffer}
use Rattle.ls_cell.specs.Any.{any_pending}
use Rattle.ls_cell.specs.Cell.{Held, pending_at, published}
use Rattle.ls_cell.specs.Numbered.{slot_at, set_slot}
use Rattle.ls_cell.proofs.Changes.{set_other, within}
use Rattle.ls_cell.proofs.Recorded.{recorded}
use Rattle.ls_cells.specs.Cells.{StandsCells}
use Rattle.ls_cells.specs.Settled.{is_marked, is_marked_on, AreAllSettled, KnowsSettled, OthersStay}
use Rattle.ls_cells.proofs.Calls.{pending_did}

-- each item has its marks
pub as_many_rows : (rows : List (List Bool)) (cells : List Held) → KnowsSettled rows cells → length rows ≡ length cells
as_many_rows [] [] k = refl
as_many_rows [] (c ∷ cells) k = absurd k
as_many_rows (m ∷ rows) [] k = absurd k
as_many_rows (m ∷ rows) (c ∷ cells) k = ap suc (as_many_rows rows cells k.1)

-- the marks of an item
pub marks_of : (rows : List (List Bool)) (cells : List Held) (j : ℕ) (c : Held) → KnowsSettled rows cells → j < length cells → c ≡ get_or cells j c
    → AreAllSettled (get_or rows j []) c
marks_of [] [] j c k low is = absurd (omega (arith, low))
marks_of [] (x ∷ cells) j c k low is = absurd k
marks_of (m ∷ rows) [] j c k low is = absurd k
marks_of (m ∷ rows) (x ∷ cells) zero c k low is = subst (AreAllSettled m) (sym is) k.0
marks_of (m ∷ rows) (x ∷ cells) (suc j) c k low is = marks_of rows cells j c k.1 (omega (arith, low)) is

-- an item's marks and its cell change
pub both_changed : (rows : List (List Bool)) (cells : List Held) (j : ℕ) (m : List Bool) (c : Held) → KnowsSettled rows cells → AreAllSettled m c
    → KnowsSettled (set rows j m) (set cells j c)
both_changed [] [] j m c k new = tt
both_changed [] (x ∷ cells) j m c k new = absurd k
both_changed (y ∷ rows) [] j m c k new = absurd k
both_changed (y ∷ rows) (x ∷ cells) zero m c k new = (new, k.1)
both_changed (y ∷ rows) (x ∷ cells) (suc j) m c k new = (k.0, both_changed rows cells j m c k.1 new)

-- its cell alone does
pub cell_changed : (rows : List (List Bool)) (cells : List Held) (j : ℕ) (c c' : Held) → KnowsSettled rows cells → c ≡ get_or cells j c
    → ((m : List Bool) → AreAllSettled m c → AreAllSettled m c') → KnowsSettled rows (set cells j c')
cell_changed [] [] j c c' k is stays = tt
cell_changed [] (x ∷ cells) j c c' k is stays = absurd k
cell_changed (y ∷ rows) [] j c c' k is stays = absurd k
cell_changed (y ∷ rows) (x ∷ cells) zero c c' k is stays = (stays y (subst (AreAllSettled y) (sym is) k.0), k.1)
cell_changed (y ∷ rows) (x ∷ cells) (suc j) c c' k is stays = (k.0, cell_changed rows cells j c c' k.1 is stays)

-- its slots are as they were
pub slots_same : (c c' : Held) → c'.slots ≡ c.slots → (m : List Bool) → AreAllSettled m c → AreAllSettled m c'
slots_same c c' same m s = λ n marked. ap (λ o. option_map_or any_pending o false) (ap (λ (bs : List (Option AnyBuffer)). slot_at bs n) same) ∙ s n marked

pub cell_same : (c c' : Held) → c' ≡ c → (m : List Bool) → AreAllSettled m c → AreAllSettled m c'
cell_same c c' same = slots_same c c' (ap (λ (x : Held). x.slots) same)

-- one more item, none of whose slots is marked
none_marked : (number : ℕ) → is_marked [] number ≡ false
none_marked zero = refl
none_marked (suc n) = refl

pub one_more : (rows : List (List Bool)) (cells : List Held) (c : Held) → KnowsSettled rows cells → KnowsSettled (rows ++ [] ∷ []) (cells ++ c ∷ [])
one_more [] [] c k = (λ n marked. absurd (let x : true ≡ false = sym marked ∙ none_marked n in cc), tt)
one_more [] (x ∷ cells) c k = absurd k
one_more (m ∷ rows) [] c k = absurd k
one_more (m ∷ rows) (x ∷ cells) c k = (k.0, one_more rows cells c k.1)

-- the last item is taken back
taken : (n : ℕ) (rows : List (List Bool)) (cells : List Held) → KnowsSettled rows cells → KnowsSettled (take n rows) (take n cells)
taken zero [] [] k = tt
taken (suc n) [] [] k = tt
taken n [] (c ∷ cells) k = absurd k
taken n (m ∷ rows) [] k = absurd k
taken zero (m ∷ rows) (c ∷ cells) k = tt
taken (suc n) (m ∷ rows) (c ∷ cells) k = (k.0, taken n rows cells k.1)

pub one_less : (rows : List (List Bool)) (cells : List Held) (m n : ℕ) → m ≡ length rows → n ≡ length cells → KnowsSettled rows cells
    → KnowsSettled (take (m - 1) rows) (take (n - 1) cells)
one_less rows cells m n many more k =
    let e : n - 1 ≡ m - 1 = omega (arith, many, more, as_many_rows rows cells k) in
    subst (λ (j : ℕ). KnowsSettled (take j rows) (take (n - 1) cells)) e (taken (n - 1) rows cells k)

-- no slot is marked
pub unmarked : (m : List Bool) (c : Held) → ((number : ℕ) → is_marked m number ≡ false) → AreAllSettled m c
unmarked m c none = λ n marked. absurd (let x : true ≡ false = sym marked ∙ none n in cc)

apart : (i n : ℕ) → (i == n) ≡ false → i ≡ n → ⊥
apart i n other same = absurd (let x : true ≡ false = sym (eq-eqb i n same) ∙ other in cc)

-- a slot that others aren't changed by gets a mark, or loses it
set_is : (m : List Bool) (n : ℕ) (mark : Bool) → is_marked (set m n mark) n ≡ true → mark ≡ true
set_is [] zero mark is = absurd (let x : false ≡ true = is in cc)
set_is [] (suc n) mark is = absurd (let x : false ≡ true = is in cc)
set_is (x ∷ m) zero mark is = is
set_is (x ∷ m) (suc n) mark is = set_is m n mark is

pub one_marked : (m : List Bool) (c c' : Held) (n : ℕ) (mark : Bool) → AreAllSettled m c → OthersStay n c c' → (mark ≡ true → pending_at c' n ≡ false)
    → AreAllSettled (set m n mark) c'
one_marked m c c' n mark s others own = λ i marked. by_number i (i == n) refl marked
  where
    by_number : (i : ℕ) (b : Bool) → (i == n) ≡ b → is_marked (set m n mark) i ≡ true → pending_at c' i ≡ false
    by_number i true same marked =
        let e : i ≡ n = eqb-true i n same in
        ap (pending_at c') e ∙ own (set_is m n mark (subst (λ k. is_marked (set m n mark) k ≡ true) e marked))
    by_number i false other marked =
        ap (λ o. option_map_or any_pending o false) (others i (apart i n other))
        ∙ s i (sym (get_or-set_other m n i mark false (apart i n other)) ∙ marked)

-- the slot left, or there was none
pub one_settled : (c c' : Held) (n : ℕ) → OthersStay n c c' → pending_at c' n ≡ false → (m : List Bool) → AreAllSettled m c → AreAllSettled m c'
one_settled c c' n others settled m s = λ i marked. by_number i (i == n) refl marked
  where
    by_number : (i : ℕ) (b : Bool) → (i == n) ≡ b → is_marked m i ≡ true → pending_at c' i ≡ false
    by_number i true same marked = ap (pending_at c') (eqb-true i n same) ∙ settled
    by_number i false other marked = ap (λ o. option_map_or any_pending o false) (others i (apart i n other)) ∙ s i marked

-- what a change of one slot leaves
pub one_set : (bs : List (Option AnyBuffer)) (n : ℕ) (o : Option AnyBuffer) → IsSome (slot_at bs n) → (i : ℕ) → (i ≡ n → ⊥)
    → slot_at (set_slot bs n o) i ≡ slot_at bs i
one_set bs n o live i other = set_other bs n i o (within bs n live).some other

-- a marked slot is not pending
abbrev Settles : List (List Bool) → List Held → ℕ → ℕ → Type 0
Settles rows cells j n = (c : Held) → slice_get cells j ≡ Some c → pending_at c n ≡ false

settles : (rows : List (List Bool)) (cells : List Held) (j n : ℕ) → KnowsSettled rows cells → is_marked_on rows j n ≡ true
    → (c : Held) × ((slice_get cells j ≡ Some c) × (pending_at c n ≡ false))
settles [] [] j n k marked = absurd (let x : false ≡ true = marked in cc)
settles [] (c ∷ cells) j n k marked = absurd k
settles (m ∷ rows) [] j n k marked = absurd k
settles (m ∷ rows) (c ∷ cells) zero n k marked = (c, (refl, k.0 n marked))
settles (m ∷ rows) (c ∷ cells) (suc j) n k marked = settles rows cells j n k.1 marked

low_of : (cells : List Held) (j : ℕ) (c : Held) → slice_get cells j ≡ Some c → j < length cells
low_of [] j c is = absurd (let x : None ≡ Some c = is in cc)
low_of (x ∷ cells) zero c is = omega arith
low_of (x ∷ cells) (suc j) c is = omega (arith, low_of cells j c is)

get_of : (cells : List Held) (j : ℕ) (c : Held) → slice_get cells j ≡ Some c → c ≡ get_or cells j c
get_of [] j c is = absurd (let x : None ≡ Some c = is in cc)
get_of (x ∷ cells) zero c is = let same : x ≡ c = cc in sym same
get_of (x ∷ cells) (suc j) c is = get_of cells j c is

pub settled_did : (rows : List (List Bool)) (cells : List Held) (live j n : ℕ) → KnowsSettled rows cells → is_marked_on rows j n ≡ true
    → (items : List Item) (a b : List LiveSlot) (v : LiveSlot) → StandsCells (record { cells = cells; live = live }) items (a ++ v ∷ b)
    → v.item ≡ j → v.number ≡ n → is_pending (history_of items v.item) v.slot ≡ false
settled_did rows cells live j n k marked items a b v st on numbered =
    let x = settles rows cells j n k marked in
    sym (pending_did cells j x.0 (low_of cells j x.0 x.1.0) (get_of cells j x.0 x.1.0) live n false
    (λ ss h s sc here. sym x.1.1 ∙ (recorded x.0 ss h n s sc here).pending) items a b v st on numbered)

-- what each call leaves
pub published_slots : {A E : Type 0} (r : Result A E) (c c' : Held) (e : Entry) → OnOk r (c' ≡ published c e) → OnErr r (c' ≡ c) → c'.slots ≡ c.slots
published_slots (Ok n) c c' e ok err = ap (λ (x : Held). x.slots) ok
published_slots (Err e) c c' x ok err = ap (λ (x : Held). x.slots) err

marked_get : (rows : List (List Bool)) (j n : ℕ) → is_marked (get_or rows j []) n ≡ is_marked_on rows j n
marked_get [] zero n = none_marked n
marked_get [] (suc j) n = none_marked n
marked_get (m ∷ rows) zero n = refl
marked_get (m ∷ rows) (suc j) n = marked_get rows j n

pub joined_settled : (rows rows' : List (List Bool)) (cells : List Held) (j : ℕ) (c : Held) → KnowsSettled rows cells
    → rows' ≡ set rows j (get_or rows' j []) → ((n : ℕ) → is_marked_on rows' j n ≡ false) → KnowsSettled rows' (set cells j c)
joined_settled rows rows' cells j c k rest none =
    subst (λ (x : List (List Bool)). KnowsSettled x (set cells j c)) (sym rest)
    (both_changed rows cells j (get_or rows' j []) c k (unmarked (get_or rows' j []) c (λ n. marked_get rows' j n ∙ none n)))

pub marked_settled : (rows rows' : List (List Bool)) (cells : List Held) (j : ℕ) (c c' : Held) (n : ℕ) (mark : Bool) → KnowsSettled rows cells
    → j < length cells → c ≡ get_or cells j c → rows' ≡ set rows j (set (get_or rows j []) n mark) → OthersStay n c c'
    → (mark ≡ true → pending_at c' n ≡ false) → KnowsSettled rows' (set cells j c')
marked_settled rows rows' cells j c c' n mark k low is after others own =
    subst (λ (x : List (List Bool)). KnowsSettled x (set cells j c')) (sym after)
    (both_changed rows cells j (set (get_or rows j []) n mark) c' k
    (one_marked (get_or rows j []) c c' n mark (marks_of rows cells j c k low is) others own))

pub unmarks : (P : Type 0) → false ≡ true → P
unmarks P e = absurd (let x : false ≡ true = e in cc)

pub not_then : (p q : Bool) → p ≡ q → not p ≡ true → q ≡ false
not_then true q same is = absurd (let x : false ≡ true = is in cc)
not_then false q same is = sym same
