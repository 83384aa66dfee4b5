-- Rows and cells: lengths, comparisons, and what a schema takes of an update.
use Rattle.std.proofs.Common.{◌≡◌, ◌==◌, ℕ, ◌+◌, ◌<◌, ◌≤◌, List, [], ◌∷◌, ◌++◌, length, refl, sym, ap, arith, Bool}
use Rattle.std.proofs.Common.{true, false, ◌&&◌, suc, zero, subst, IsTrue, Option, Some, None, IfSome, cond, option_map}
use Rattle.std.proofs.Common.{set, slice_get, ◌↔◌}
use Rattle.std.proofs.lemmas.Bool.{eq-eqb, eqb-true}
use Rattle.ls_value.specs.declared.row.Value.{Value}
use Rattle.ls_value.specs.declared.row.Value.TheVariants as value
use Rattle.ls_value.specs.declared.row.Cell.{Cell}
use Rattle.ls_value.specs.Values.{applied, kept_or_taken, nulls, projected, value_at, cell_at, projected_cells, text_eq}
use Rattle.ls_value.specs.Values.{value_eq, row_eq, place_of}

-- what a conjunction that holds says of its parts
pub and_left : (a b : Bool) → (a && b) ≡ true → a ≡ true
and_left true b h = refl
and_left false b h = cc

pub and_right : (a b : Bool) → (a && b) ≡ true → b ≡ true
and_right true b h = h
and_right false b h = cc

pub both : (a b : Bool) → a ≡ true → b ≡ true → (a && b) ≡ true
both true b p q = q
both false b p q = p

-- what compares alike is equal
pub text_eq_true : (xs ys : List ℕ) → text_eq xs ys ≡ true → xs ≡ ys
text_eq_true [] [] h = refl
text_eq_true [] (y ∷ ys) h = cc
text_eq_true (x ∷ xs) [] h = cc
text_eq_true (x ∷ xs) (y ∷ ys) h =
    let e : x ≡ y = eqb-true x y (and_left (x == y) (text_eq xs ys) h) in
    let f : xs ≡ ys = text_eq_true xs ys (and_right (x == y) (text_eq xs ys) h) in
    cc

pub value_eq_true : (a b : Value) → value_eq a b ≡ true → a ≡ b
value_eq_true value.Null value.Null h = refl
value_eq_true value.Null (value.Text t) h = cc
value_eq_true (value.Text s) value.Null h = cc
value_eq_true (value.Text s) (value.Text t) h = ap value.Text (text_eq_true s t h)

pub row_eq_true : (xs ys : List Value) → row_eq xs ys ≡ true → xs ≡ ys
row_eq_true [] [] h = refl
row_eq_true [] (y ∷ ys) h = cc
row_eq_true (x ∷ xs) [] h = cc
row_eq_true (x ∷ xs) (y ∷ ys) h =
    let e : x ≡ y = value_eq_true x y (and_left (value_eq x y) (row_eq xs ys) h) in
    let f : xs ≡ ys = row_eq_true xs ys (and_right (value_eq x y) (row_eq xs ys) h) in
    cc

-- a text, a value and a row compare alike with themselves
pub text_eq_same : (t : List ℕ) → text_eq t t ≡ true
text_eq_same [] = refl
text_eq_same (x ∷ t) = both (x == x) (text_eq t t) (eq-eqb x x refl) (text_eq_same t)

pub value_eq_same : (v : Value) → value_eq v v ≡ true
value_eq_same value.Null = refl
value_eq_same (value.Text t) = text_eq_same t

pub row_eq_same : (r : List Value) → row_eq r r ≡ true
row_eq_same [] = refl
row_eq_same (v ∷ r) = both (value_eq v v) (row_eq r r) (value_eq_same v) (row_eq_same r)

-- a test that tells exactly whether rows are equal is the comparison
pub same_is_eq : (a b : List Value) (v : Bool) → (IsTrue v → a ≡ b) → (a ≡ b → IsTrue v) → v ≡ row_eq a b
same_is_eq a b v p q = by_test v refl (row_eq a b) refl
  where
    by_test : (x : Bool) → v ≡ x → (y : Bool) → row_eq a b ≡ y → x ≡ y
    by_test true i true j = refl
    by_test false i false j = refl
    by_test true i false j =
        absurd (let e : a ≡ b = p i in let t : row_eq a b ≡ true =
        subst (λ (r : List Value). row_eq a r ≡ true) e (row_eq_same a) in cc)
    by_test false i true j = absurd (let e : v ≡ true = q (row_eq_true a b j) in cc)

-- texts of two lengths differ
pub text_eq_lengths : (xs ys : List ℕ) → (length xs ≡ length ys → ⊥) → text_eq xs ys ≡ false
text_eq_lengths [] [] h = absurd (h refl)
text_eq_lengths [] (y ∷ ys) h = refl
text_eq_lengths (x ∷ xs) [] h = refl
text_eq_lengths (x ∷ xs) (y ∷ ys) h =
    let e : text_eq xs ys ≡ false = text_eq_lengths xs ys (λ l. h (ap (λ n. suc n) l)) in
    elim (x == y) as (λ v. (v && text_eq xs ys) ≡ false) [ true ↦ e | false ↦ refl ]

-- the place of a name is one of the names' places
pub place_of_within : (ns : List (List ℕ)) (name : List ℕ) → IfSome (place_of ns name) (λ i. i < length ns)
place_of_within [] name = tt
place_of_within (n ∷ ns) name = by_test (text_eq n name) (place_of ns name) (place_of_within ns name)
  where
    by_test : (v : Bool) (o : Option ℕ) → IfSome o (λ i. i < length ns)
        → IfSome (cond v (Some 0) (option_map (λ i. i + 1) o)) (λ i. i < suc (length ns))
    by_test true o h = omega arith
    by_test false None h = tt
    by_test false (Some i) h = omega (arith, h)

-- a text that compares unlike is another
differs : (n name : List ℕ) → text_eq n name ≡ false → Some n ≡ Some name → ⊥
differs n name t e =
    let is : n ≡ name = cc in
    let h : text_eq n name ≡ true = subst (λ (m : List ℕ). text_eq n m ≡ true) is (text_eq_same n) in
    cc

-- a name without a place has none among the rest
rest_absent : (v : Bool) (o : Option ℕ) → cond v (Some 0) (option_map (λ i. i + 1) o) ≡ None → o ≡ None
rest_absent true o h = cc
rest_absent false None h = refl
rest_absent false (Some i) h = cc

-- the name is at that place
pub place_of_found : (ns : List (List ℕ)) (name : List ℕ) → IfSome (place_of ns name) (λ i. slice_get ns i ≡ Some name)
place_of_found [] name = tt
place_of_found (n ∷ ns) name = by_test (text_eq n name) refl (place_of ns name) (place_of_found ns name)
  where
    by_test : (v : Bool) → text_eq n name ≡ v → (o : Option ℕ) → IfSome o (λ i. slice_get ns i ≡ Some name)
        → IfSome (cond v (Some 0) (option_map (λ i. i + 1) o)) (λ i. slice_get (n ∷ ns) i ≡ Some name)
    by_test true t o h = ap Some (text_eq_true n name t)
    by_test false t None h = tt
    by_test false t (Some i) h = let e : i + 1 ≡ suc i = omega arith in rw e h

-- and at none before
pub place_of_earliest : (ns : List (List ℕ)) (name : List ℕ) → IfSome (place_of ns name)
    (λ i. (k : ℕ) → slice_get ns k ≡ Some name → i ≤ k)
place_of_earliest [] name = tt
place_of_earliest (n ∷ ns) name = by_test (text_eq n name) refl (place_of ns name) (place_of_earliest ns name)
  where
    by_test : (v : Bool) → text_eq n name ≡ v → (o : Option ℕ)
        → IfSome o (λ i. (k : ℕ) → slice_get ns k ≡ Some name → i ≤ k)
        → IfSome (cond v (Some 0) (option_map (λ i. i + 1) o))
        (λ i. (k : ℕ) → slice_get (n ∷ ns) k ≡ Some name → i ≤ k)
    by_test true t o h = λ k e. omega arith
    by_test false t None h = tt
    by_test false t (Some i) h = by_place
      where
        by_place : (k : ℕ) → slice_get (n ∷ ns) k ≡ Some name → i + 1 ≤ k
        by_place zero e = absurd (differs n name t e)
        by_place (suc k) e = let le : i ≤ k = h k e in omega (arith, le)

-- where there is no place, the name is nowhere
pub place_of_absent : (ns : List (List ℕ)) (name : List ℕ) → place_of ns name ≡ None → (k : ℕ)
    → slice_get ns k ≡ Some name → ⊥
place_of_absent [] name none k e = cc
place_of_absent (n ∷ ns) name none zero e =
    let is : n ≡ name = cc in
    let t : text_eq n name ≡ true = subst (λ (m : List ℕ). text_eq n m ≡ true) is (text_eq_same n) in
    let h : cond (text_eq n name) (Some 0) (option_map (λ i. i + 1) (place_of ns name)) ≡ None = none in
    cc
place_of_absent (n ∷ ns) name none (suc k) e = place_of_absent ns name
    (rest_absent (text_eq n name) (place_of ns name) none) k e

-- an update keeps the number of values
pub applied_length : (row : List Value) (cells : List Cell) → length (applied row cells) ≡ length row
applied_length [] cells = refl
applied_length (v ∷ row) [] = refl
applied_length (v ∷ row) (c ∷ cells) = ap (λ n. suc n) (applied_length row cells)

-- a schema takes a value for each of its places
pub projected_length : (row : List Value) (places : List ℕ) → length (projected row places) ≡ length places
projected_length row [] = refl
projected_length row (p ∷ places) = ap (λ n. suc n) (projected_length row places)

-- each value of an updated row is kept, or taken from its cell
pub value_applied : (row : List Value) (cells : List Cell) (p : ℕ) → length cells ≡ length row
    → kept_or_taken (value_at row p) (cell_at cells p) ≡ value_at (applied row cells) p
value_applied [] [] p l = refl
value_applied [] (c ∷ cells) p l = absurd (omega (arith, l))
value_applied (v ∷ row) [] p l = absurd (omega (arith, l))
value_applied (v ∷ row) (c ∷ cells) zero l = refl
value_applied (v ∷ row) (c ∷ cells) (suc p) l = value_applied row cells p (omega (arith, l))

-- to apply cells at the places is to apply them and take the places
pub applied-projected : (row : List Value) (cells : List Cell) (places : List ℕ) → length cells ≡ length row
    → applied (projected row places) (projected_cells cells places) ≡ projected (applied row cells) places
applied-projected row cells [] l = refl
applied-projected row cells (p ∷ places) l =
    let e = value_applied row cells p l in
    let f = applied-projected row cells places l in
    cc

-- each value of a row of nulls is null
pub value_nulls : (n p : ℕ) → value_at (nulls n) p ≡ value.Null
value_nulls zero p = refl
value_nulls (suc n) zero = refl
value_nulls (suc n) (suc p) = value_nulls n p

pub nulls-projected : (n : ℕ) (places : List ℕ) → projected (nulls n) places ≡ nulls (length places)
nulls-projected n [] = refl
nulls-projected n (p ∷ places) =
    let e = value_nulls n p in
    let f = nulls-projected n places in
    cc

-- rows of two lengths differ
pub row_eq_lengths : (xs ys : List Value) → (length xs ≡ length ys → ⊥) → row_eq xs ys ≡ false
row_eq_lengths [] [] h = absurd (h refl)
row_eq_lengths [] (y ∷ ys) h = refl
row_eq_lengths (x ∷ xs) [] h = refl
row_eq_lengths (x ∷ xs) (y ∷ ys) h =
    let e : row_eq xs ys ≡ false = row_eq_lengths xs ys (λ l. h (ap (λ n. suc n) l)) in
    elim (value_eq x y) as (λ v. (v && row_eq xs ys) ≡ false) [ true ↦ e | false ↦ refl ]

-- the comparison tells exactly whether rows are equal
pub row_eq_exact : (a b : List Value) → IsTrue (row_eq a b) ↔ (a ≡ b)
row_eq_exact a b = (row_eq_true a b, λ e. subst (λ (r : List Value). row_eq a r ≡ true) e (row_eq_same a))

-- a value that is written where it stands changes nothing
pub set_kept : (row : List Value) (p : ℕ) → p < length row → set row p (value_at row p) ≡ row
set_kept [] p h = refl
set_kept (v ∷ row) zero h = refl
set_kept (v ∷ row) (suc p) h = ap (λ r. v ∷ r) (set_kept row p (omega (arith, h)))

-- no cells change nothing
pub applied_none : (row : List Value) → applied row [] ≡ row
applied_none [] = refl
applied_none (v ∷ row) = refl

-- the last cell may be applied first
pub applied_last : (row : List Value) (cells : List Cell) (c : Cell) → length cells < length row
    → applied (set row (length cells) (kept_or_taken (value_at row (length cells)) c)) cells
    ≡ applied row (cells ++ c ∷ [])
applied_last [] cells c h = absurd (omega (arith, h))
applied_last (v ∷ row) [] c h = ap (λ r. kept_or_taken v c ∷ r) (sym (applied_none row))
applied_last (v ∷ row) (d ∷ cells) c h = ap (λ r. kept_or_taken v d ∷ r) (applied_last row cells c (omega (arith, h)))
