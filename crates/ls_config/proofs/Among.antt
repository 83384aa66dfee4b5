-- Names among others, as the set of names finds them.
use Rattle.std.proofs.Common.{◌≡◌, ◌==◌, ℕ, suc, ◌+◌, List, [], ◌∷◌, ◌++◌, length, map, refl, sym, ap, ◌∙◌, arith, Bool, true, false, ◌&&◌, ◌||◌, not, nat_lt}
use Rattle.std.proofs.Common.{cond, Option, Some, None, option_map}
use Rattle.std.specs.Prelude.{is_none, position}
use Rattle.std.specs.List.{list_any, position_or_len}
use Rattle.std.specs.Str.{bytes_eq}
use Rattle.std.proofs.lemmas.Bool.Decides.{nat_tests}
use Rattle.std.proofs.lemmas.List.{map-append}
use Rattle.ls_value.specs.Values.{text_eq, place_of}
use Rattle.ls_value.proofs.Distinct.{text_eq_turned}

-- a name that stands later stands somewhere
pub none_later : (o : Option ℕ) → is_none (option_map (λ i. i + 1) o) ≡ is_none o
none_later None = refl
none_later (Some i) = refl

-- the two tests of texts agree
same_test : (s t : List ℕ) → bytes_eq s t ≡ text_eq s t
same_test [] [] = refl
same_test [] (y ∷ t) = refl
same_test (x ∷ s) [] = refl
same_test (x ∷ s) (y ∷ t) = ap (λ (v : Bool). (x == y) && v) (same_test s t)

-- in either order
tests_agree : (name n : List ℕ) → bytes_eq name n ≡ text_eq n name
tests_agree name n = same_test name n ∙ text_eq_turned name n

-- the place that a test finds is the name's
pub found_place : {K : Type 0} (f : K → List ℕ) (name : List ℕ) (ks : List K) → position (λ k. bytes_eq name (f k)) ks ≡ place_of (map f ks) name
found_place f name [] = refl
found_place f name (k ∷ ks) = rw (sym (tests_agree name (f k)), sym (found_place f name ks))
    (by_test (bytes_eq name (f k)) (position_or_len (λ x. bytes_eq name (f x)) ks) (length ks))
  where
    by_test : (v : Bool) (at n : ℕ) → cond (nat_lt (cond (not v) (1 + at) 0) (suc n)) (Some (cond (not v) (1 + at) 0)) None
        ≡ cond v (Some 0) (option_map (λ i. i + 1) (cond (nat_lt at n) (Some at) None))
    by_test true at n = let t : nat_lt 0 (suc n) ≡ true = grind (arith, nat_tests) in rw t refl
    by_test false at n =
        let e : 1 + at ≡ at + 1 = omega arith in
        let t : nat_lt (at + 1) (suc n) ≡ nat_lt at n = grind (arith, nat_tests) in
        rw (e, t) (by_less (nat_lt at n))
      where
        by_less : (w : Bool) → cond w (Some (at + 1)) None ≡ option_map (λ i. i + 1) (cond w (Some at) None)
        by_less true = refl
        by_less false = refl

-- a name is new where the test finds none
pub none_among : {K : Type 0} (f : K → List ℕ) (name : List ℕ) (ks : List K) → not (list_any (λ k. bytes_eq name (f k)) ks) ≡ is_none (place_of (map f ks) name)
none_among f name [] = refl
none_among f name (k ∷ ks) =
    let later : not (list_any (λ x. bytes_eq name (f x)) ks) ≡ is_none (place_of (map f ks) name) = none_among f name ks in
    by_test (bytes_eq name (f k)) (text_eq (f k) name) (tests_agree name (f k)) (list_any (λ x. bytes_eq name (f x)) ks) (place_of (map f ks) name) later
  where
    by_test : (v w : Bool) → v ≡ w → (a : Bool) (o : Option ℕ) → not a ≡ is_none o → not (v || a) ≡ is_none (cond w (Some 0) (option_map (λ i. i + 1) o))
    by_test true true e a o h = refl
    by_test true false e a o h = cc
    by_test false true e a o h = cc
    by_test false false e a o h = h ∙ sym (none_later o)

-- a new name goes behind the others
pub added_last : {K : Type 0} (f : K → List ℕ) (k : K) (name : List ℕ) (ks : List K) → f k ≡ name → place_of (map f ks) name ≡ None
    → map f (cond (list_any (λ x. bytes_eq (f k) (f x)) ks) ks (ks ++ k ∷ [])) ≡ map f ks ++ name ∷ []
added_last f k name ks is none =
    let free : not (list_any (λ x. bytes_eq name (f x)) ks) ≡ true = none_among f name ks ∙ ap is_none none in
    rw is (by_test (list_any (λ x. bytes_eq name (f x)) ks) free)
  where
    by_test : (v : Bool) → not v ≡ true → map f (cond v ks (ks ++ k ∷ [])) ≡ map f ks ++ name ∷ []
    by_test true h = cc
    by_test false h = map-append f ks (k ∷ []) ∙ ap (λ (n : List ℕ). map f ks ++ n ∷ []) is
