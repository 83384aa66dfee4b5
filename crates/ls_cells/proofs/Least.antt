-- The least free number of an item and its least slot that lags, by its cell's slots and among the slots of all sessions.
use Rattle.std.proofs.Common.{◌≡◌, ◌==◌, ℕ, zero, suc, ◌+◌, ◌-◌, ◌<◌, ◌≤◌, List, [], ◌∷◌, refl, sym, ◌∙◌, ap, arith, subst, cond, Bool, true, false}
use Rattle.std.proofs.Common.{◌&&◌, ◌||◌, Option, Some, None, is_some, get_or, min, max, nat_lt}
use Rattle.std.specs.Option.{option_map_or}
use Rattle.std.proofs.lemmas.Bool.{eqb-true, eq-eqb, ne_eqb, ltb-true, ltb-false}
use Rattle.ls_event.specs.Slots.{Slot, is_far}
use Rattle.ls_cell.specs.Cell.{least_lagging}
use Rattle.ls_cell.specs.Numbered.{slot_at, free_number, lags, first_lagging}
use Rattle.ls_record.specs.Records.{LiveSlot, numbers_of, far_numbers, least_of, greatest_of, least_free_from, holds}
use Rattle.ls_cells.specs.Cells.{slot_numbered, Unlike, free_in, far_in}
use Rattle.ls_cells.proofs.Numbers.{differs, numbered_none, unlike_at, is_numbered_at}
use Rattle.ls_cells.proofs.Counted.{free_from_one, free_none, free_least}

-- the numbers of an item's slots are those at which there is a slot
pub holds_numbers : (n m : ℕ) (vs : List LiveSlot) → holds m (numbers_of n vs) ≡ is_some (slot_numbered n m vs)
holds_numbers n m [] = refl
holds_numbers n m (v ∷ vs) = by_item (n == v.item) (holds_numbers n m vs)
  where
    by_number : (x : Bool) → holds m (numbers_of n vs) ≡ is_some (slot_numbered n m vs)
        → (x || holds m (numbers_of n vs)) ≡ is_some (cond x (Some v.slot) (slot_numbered n m vs))
    by_number true rest = refl
    by_number false rest = rest

    by_item : (t : Bool) → holds m (numbers_of n vs) ≡ is_some (slot_numbered n m vs)
        → holds m (cond t (v.number ∷ numbers_of n vs) (numbers_of n vs)) ≡ is_some (cond (t && (m == v.number)) (Some v.slot) (slot_numbered n m vs))
    by_item true rest = by_number (m == v.number) rest
    by_item false rest = rest

-- those of the slots that lag are those at which a slot lags
pub holds_far : (n e m : ℕ) (vs : List LiveSlot) → Unlike vs → holds m (far_numbers n e vs) ≡ lags (λ (s : Slot). s.last) e (slot_numbered n m vs)
holds_far n e m [] u = refl
holds_far n e m (v ∷ vs) u = by_item (holds_far n e m vs u.1) (n == v.item) refl
  where
    by_far : (x f : Bool) → (m == v.number) ≡ x → is_far e v.slot ≡ f → (x ≡ true → holds m (far_numbers n e vs) ≡ false)
        → holds m (far_numbers n e vs) ≡ lags (λ (s : Slot). s.last) e (slot_numbered n m vs)
        → holds m (cond f (v.number ∷ far_numbers n e vs) (far_numbers n e vs)) ≡ lags (λ (s : Slot). s.last) e (cond x (Some v.slot) (slot_numbered n m vs))
    by_far true true ex ef none rest = ap (λ y. y || holds m (far_numbers n e vs)) ex ∙ sym ef
    by_far true false ex ef none rest = none refl ∙ sym ef
    by_far false true ex ef none rest = ap (λ y. y || holds m (far_numbers n e vs)) ex ∙ rest
    by_far false false ex ef none rest = rest

    by_item : holds m (far_numbers n e vs) ≡ lags (λ (s : Slot). s.last) e (slot_numbered n m vs) → (t : Bool) → (n == v.item) ≡ t
        → holds m (cond (t && is_far e v.slot) (v.number ∷ far_numbers n e vs) (far_numbers n e vs))
        ≡ lags (λ (s : Slot). s.last) e (cond (t && (m == v.number)) (Some v.slot) (slot_numbered n m vs))
    by_item rest true et =
        by_far (m == v.number) (is_far e v.slot) refl refl
        (λ x. rest ∙ ap (lags (λ (s : Slot). s.last) e)
        (numbered_none n m vs (unlike_at n m v vs (is_numbered_at n m v (eqb-true n v.item et) (eqb-true m v.number x)) u.0)))
        rest
    by_item rest false et = rest

-- the least number of which something is true, if there is one
abbrev pub IsLeast : (ℕ → Bool) → Option ℕ → Type 0
IsLeast p None = (m : ℕ) → p m ≡ false
IsLeast p (Some m) = (p m ≡ true) × ((j : ℕ) → j < m → p j ≡ false)

least_by : (p q : ℕ → Bool) (o : Option ℕ) → ((m : ℕ) → p m ≡ q m) → IsLeast q o → IsLeast p o
least_by p q None same l = λ m. same m ∙ l m
least_by p q (Some m) same l = (same m ∙ l.0, λ j low. same j ∙ l.1 j low)

-- there is one at most
least_same : (p : ℕ → Bool) (a b : Option ℕ) → IsLeast p a → IsLeast p b → a ≡ b
least_same p None None x y = refl
least_same p None (Some m) x y = absurd (differs (p m) y.0 (x m))
least_same p (Some m) None x y = absurd (differs (p m) x.0 (y m))
least_same p (Some m) (Some k) x y = by_order (nat_lt m k) (nat_lt k m) refl refl
  where
    by_order : (s t : Bool) → nat_lt m k ≡ s → nat_lt k m ≡ t → Some m ≡ Some k
    by_order true t es et = absurd (differs (p m) x.0 (y.1 m (ltb-true m k es)))
    by_order false true es et = absurd (differs (p k) y.0 (x.1 k (ltb-true k m et)))
    by_order false false es et = ap (λ n. Some n) (let e : m ≡ k = omega (arith, ltb-false m k es, ltb-false k m et) in e)

least_of_is : (ns : List ℕ) → IsLeast (λ m. holds m ns) (least_of ns)
least_of_is [] = λ m. refl
least_of_is (n ∷ ns) = by_rest (least_of ns) (least_of_is ns)
  where
    here : holds n (n ∷ ns) ≡ true
    here = ap (λ t. t || holds n ns) (eq-eqb n n refl)

    past : (j : ℕ) → (j ≡ n → ⊥) → holds j (n ∷ ns) ≡ holds j ns
    past j other = ap (λ t. t || holds j ns) (ne_eqb j n other)

    by_order : (k : ℕ) → IsLeast (λ m. holds m ns) (Some k) → (t : Bool) → nat_lt k n ≡ t → IsLeast (λ m. holds m (n ∷ ns)) (Some (min n k))
    by_order k l true low =
        let less : k < n = ltb-true k n low in
        subst (λ x. IsLeast (λ m. holds m (n ∷ ns)) (Some x)) (let e : k ≡ min n k = omega (arith, less) in e)
        (past k (λ e. omega (arith, e, less)) ∙ l.0, λ j below. past j (λ e. omega (arith, e, less, below)) ∙ l.1 j below)
    by_order k l false high =
        let most : n ≤ k = ltb-false k n high in
        subst (λ x. IsLeast (λ m. holds m (n ∷ ns)) (Some x)) (let e : n ≡ min n k = omega (arith, most) in e)
        (here, λ j below. past j (λ e. omega (arith, e, below)) ∙ l.1 j (omega (arith, below, most)))

    by_rest : (o : Option ℕ) → IsLeast (λ m. holds m ns) o → IsLeast (λ m. holds m (n ∷ ns)) (Some (option_map_or (min n) o n))
    by_rest None l = (here, λ j below. past j (λ e. omega (arith, e, below)) ∙ l j)
    by_rest (Some k) l = by_order k l (nat_lt k n) refl

-- the first of an item's slots that lags, where the first of all has number n
record IsFirst (e n m : ℕ) (ss : List (Option Slot)) : Type 0 where
  index : ℕ
  at : m ≡ n + index
  far : lags (λ (s : Slot). s.last) e (get_or ss index None) ≡ true
  before : (j : ℕ) → j < index → lags (λ (s : Slot). s.last) e (get_or ss j None) ≡ false

abbrev FirstFrom : ℕ → ℕ → List (Option Slot) → Option ℕ → Type 0
FirstFrom e n ss None = (j : ℕ) → lags (λ (s : Slot). s.last) e (get_or ss j None) ≡ false
FirstFrom e n ss (Some m) = IsFirst e n m ss

first_is : (e n : ℕ) (ss : List (Option Slot)) → FirstFrom e n ss (first_lagging (λ (s : Slot). s.last) e n ss)
first_is e n [] = none_there
  where
    none_there : (j : ℕ) → lags (λ (s : Slot). s.last) e (get_or {A = Option Slot} [] j None) ≡ false
    none_there zero = refl
    none_there (suc j) = refl
first_is e n (b ∷ bs) = by_first (lags (λ (s : Slot). s.last) e b) refl (first_is e (n + 1) bs)
  where
    in_front : lags (λ (s : Slot). s.last) e b ≡ false → (i : ℕ) → ((j : ℕ) → j < i → lags (λ (s : Slot). s.last) e (get_or bs j None) ≡ false)
        → (j : ℕ) → j < suc i → lags (λ (s : Slot). s.last) e (get_or (b ∷ bs) j None) ≡ false
    in_front is i before zero low = is
    in_front is i before (suc j) low = before j (omega (arith, low))

    nowhere : lags (λ (s : Slot). s.last) e b ≡ false → ((j : ℕ) → lags (λ (s : Slot). s.last) e (get_or bs j None) ≡ false)
        → (j : ℕ) → lags (λ (s : Slot). s.last) e (get_or (b ∷ bs) j None) ≡ false
    nowhere is none zero = is
    nowhere is none (suc j) = none j

    by_rest : lags (λ (s : Slot). s.last) e b ≡ false → (o : Option ℕ) → FirstFrom e (n + 1) bs o → FirstFrom e n (b ∷ bs) o
    by_rest is None h = nowhere is h
    by_rest is (Some m) h = record { index = suc h.index; at = omega (arith, h.at); far = h.far; before = in_front is h.index h.before }

    by_first : (t : Bool) → lags (λ (s : Slot). s.last) e b ≡ t → FirstFrom e (n + 1) bs (first_lagging (λ (s : Slot). s.last) e (n + 1) bs)
        → FirstFrom e n (b ∷ bs) (cond t (Some n) (first_lagging (λ (s : Slot). s.last) e (n + 1) bs))
    by_first true is rest = record { index = 0; at = omega arith; far = is; before = λ j low. absurd (omega (arith, low)) }
    by_first false is rest = by_rest is (first_lagging (λ (s : Slot). s.last) e (n + 1) bs) rest

first_least : (e : ℕ) (ss : List (Option Slot)) (o : Option ℕ) → FirstFrom e 1 ss o → IsLeast (λ m. lags (λ (s : Slot). s.last) e (slot_at ss m)) o
first_least e ss None h = nowhere
  where
    nowhere : (m : ℕ) → lags (λ (s : Slot). s.last) e (slot_at ss m) ≡ false
    nowhere zero = refl
    nowhere (suc j) = h j
first_least e ss (Some m) h =
    subst (λ x. IsLeast (λ y. lags (λ (s : Slot). s.last) e (slot_at ss y)) (Some x))
    (let e' : suc h.index ≡ m = omega (arith, h.at) in e') (h.far, in_front)
  where
    in_front : (j : ℕ) → j < suc h.index → lags (λ (s : Slot). s.last) e (slot_at ss j) ≡ false
    in_front zero low = refl
    in_front (suc j) low = h.before j (omega (arith, low))

-- the least slot that lags
pub far_is : (ss : List (Option Slot)) (n e : ℕ) (vs : List LiveSlot) → Unlike vs → ((m : ℕ) → slot_at ss m ≡ slot_numbered n m vs)
    → least_lagging e ss ≡ far_in n e vs
far_is ss n e vs u live =
    least_same (λ m. lags (λ (s : Slot). s.last) e (slot_at ss m)) (least_lagging e ss) (far_in n e vs)
    (first_least e ss (least_lagging e ss) (first_is e 1 ss))
    (least_by (λ m. lags (λ (s : Slot). s.last) e (slot_at ss m)) (λ m. holds m (far_numbers n e vs)) (far_in n e vs)
    (λ m. ap (lags (λ (s : Slot). s.last) e) (live m) ∙ sym (holds_far n e m vs u)) (least_of_is (far_numbers n e vs)))

-- the least free number
holds_low : (m : ℕ) (ns : List ℕ) → holds m ns ≡ true → m ≤ greatest_of ns
holds_low m [] is = cc
holds_low m (n ∷ ns) is = by_test (holds_low m ns) (m == n) refl is
  where
    by_test : (holds m ns ≡ true → m ≤ greatest_of ns) → (t : Bool) → (m == n) ≡ t → (t || holds m ns) ≡ true → m ≤ max n (greatest_of ns)
    by_test rest true e h = omega (arith, eqb-true m n e)
    by_test rest false e h = omega (arith, rest h)

free_found : (k n f : ℕ) (used : List ℕ) → n ≤ f → f ≤ n + k → holds f used ≡ false → ((j : ℕ) → n ≤ j → j < f → holds j used ≡ true)
    → least_free_from k n used ≡ f
free_found zero n f used low high free each = omega (arith, low, high)
free_found (suc k) n f used low high free each =
    by_order (λ less. free_found k (n + 1) f used (omega (arith, less)) (omega (arith, high)) free (λ j from below. each j (omega (arith, from)) below))
    (nat_lt n f) refl
  where
    by_order : (n < f → least_free_from k (n + 1) used ≡ f) → (t : Bool) → nat_lt n f ≡ t → cond (holds n used) (least_free_from k (n + 1) used) n ≡ f
    by_order rest true e =
        let less : n < f = ltb-true n f e in
        ap (λ t. cond t (least_free_from k (n + 1) used) n) (each n (omega arith) less) ∙ rest less
    by_order rest false e =
        let same : n ≡ f = omega (arith, low, ltb-false n f e) in
        ap (λ t. cond t (least_free_from k (n + 1) used) n) (subst (λ x. holds x used ≡ false) (sym same) free) ∙ same

pub free_is : (ss : List (Option Slot)) (n : ℕ) (vs : List LiveSlot) → ((m : ℕ) → slot_at ss m ≡ slot_numbered n m vs) → free_number ss ≡ free_in vs n
free_is ss n vs live =
    sym (free_found (greatest_of (numbers_of n vs)) 1 (free_number ss) (numbers_of n vs) (free_from_one ss) (by_order (nat_lt 1 (free_number ss)) refl)
    (used (free_number ss) ∙ ap is_some (free_none ss (free_number ss) refl))
    (λ j from below. used j ∙ free_least ss j (omega (arith, from)) below))
  where
    used : (m : ℕ) → holds m (numbers_of n vs) ≡ is_some (slot_at ss m)
    used m = holds_numbers n m vs ∙ ap is_some (sym (live m))

    by_order : (t : Bool) → nat_lt 1 (free_number ss) ≡ t → free_number ss ≤ 1 + greatest_of (numbers_of n vs)
    by_order true e =
        let more : 1 < free_number ss = ltb-true 1 (free_number ss) e in
        let low : free_number ss - 1 ≤ greatest_of (numbers_of n vs) = holds_low (free_number ss - 1) (numbers_of n vs)
        (used (free_number ss - 1) ∙ free_least ss (free_number ss - 1) (omega (arith, more)) (omega (arith, more))) in
        omega (arith, low, more)
    by_order false e = omega (arith, ltb-false 1 (free_number ss) e)
