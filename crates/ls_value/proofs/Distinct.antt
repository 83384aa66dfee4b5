-- Names among others, and lists in which no name stands twice.
use Rattle.std.proofs.Common.{◌≡◌, ℕ, ◌+◌, List, [], ◌∷◌, ◌++◌, refl, sym, subst, ◌∙◌, Bool, true, false, cond}
use Rattle.std.proofs.Common.{Option, Some, None, option_map}
use Rattle.std.specs.Prelude.{is_none}
use Rattle.ls_value.specs.Values.{text_eq, place_of, are_distinct}
use Rattle.ls_value.proofs.Rows.{text_eq_true, text_eq_same, and_left, and_right, both}

-- the order of two texts doesn't matter
pub text_eq_turned : (s t : List ℕ) → text_eq s t ≡ text_eq t s
text_eq_turned s t = by_test (text_eq s t) refl (text_eq t s) refl
  where
    by_test : (v : Bool) → text_eq s t ≡ v → (w : Bool) → text_eq t s ≡ w → v ≡ w
    by_test true e true f = refl
    by_test false e false f = refl
    by_test true e false f = absurd
        (let is : s ≡ t = text_eq_true s t e in
        let g : text_eq t s ≡ true = subst (λ (x : List ℕ). text_eq t x ≡ true) (sym is) (text_eq_same t) in
        cc)
    by_test false e true f = absurd
        (let is : t ≡ s = text_eq_true t s f in
        let g : text_eq s t ≡ true = subst (λ (x : List ℕ). text_eq s x ≡ true) (sym is) (text_eq_same s) in
        cc)

-- a name that is none of some, nor one more, is none of them together
none_push : (ns : List (List ℕ)) (more name : List ℕ) → is_none (place_of ns name) ≡ true → text_eq more name ≡ false
    → is_none (place_of (ns ++ more ∷ []) name) ≡ true
none_push [] more name h e = rw e refl
none_push (n ∷ ns) more name h e =
    by_test (text_eq n name) (place_of ns name) (place_of (ns ++ more ∷ []) name) h (λ g. none_push ns more name g e)
  where
    by_test : (v : Bool) (o p : Option ℕ) → is_none (cond v (Some 0) (option_map (λ i. i + 1) o)) ≡ true
        → (is_none o ≡ true → is_none p ≡ true) → is_none (cond v (Some 0) (option_map (λ i. i + 1) p)) ≡ true
    by_test true o p h g = cc
    by_test false None None h g = refl
    by_test false None (Some i) h g = g refl
    by_test false (Some i) p h g = cc

-- a name that is none of some is not the first of them
none_head : (v : Bool) (o : Option ℕ) → is_none (cond v (Some 0) (option_map (λ i. i + 1) o)) ≡ true
    → (v ≡ false) × (is_none o ≡ true)
none_head true o h = cc
none_head false None h = (refl, refl)
none_head false (Some i) h = cc

-- one more name that is none of them
pub distinct_push : (ns : List (List ℕ)) (name : List ℕ) → are_distinct ns ≡ true → is_none (place_of ns name) ≡ true
    → are_distinct (ns ++ name ∷ []) ≡ true
distinct_push [] name h e = refl
distinct_push (n ∷ ns) name h e =
    let first = none_head (text_eq n name) (place_of ns name) e in
    both (is_none (place_of (ns ++ name ∷ []) n)) (are_distinct (ns ++ name ∷ []))
    (none_push ns name n (and_left _ _ h) (text_eq_turned name n ∙ first.0))
    (distinct_push ns name (and_right (is_none (place_of ns n)) (are_distinct ns) h) first.1)
