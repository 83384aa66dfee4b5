-- Names by their places, and what no row of a table of refusals holds for.
use Rattle.std.proofs.Common.{◌≡◌, ◌==◌, ◌||◌, ℕ, List, [], ◌∷◌, refl, sym, ◌∙◌, ap, subst, cond, Bool, true, false}
use Rattle.std.proofs.Common.{Option, Some, None, IfSome, slice_get}
use Rattle.std.specs.Prelude.{unwrap_or, is_some, not}
use Rattle.std.proofs.lemmas.Bool.{eqb-true}
use Rattle.ls_value.specs.Values.{text_eq, place_of}
use Rattle.ls_value.proofs.Rows.{text_eq_same, place_of_found}
use Rattle.ls_record.specs.Cases.{first_code}
use Rattle.ls_value.specs.Each.{Each}

-- a name that is there has a place
pub place_is : (names : List (List ℕ)) (name : List ℕ) → is_some (place_of names name) ≡ true → place_of names name ≡ Some (unwrap_or (place_of names name) 0)
place_is names name there = by_place (place_of names name) there
  where
    by_place : (o : Option ℕ) → is_some o ≡ true → o ≡ Some (unwrap_or o 0)
    by_place None there = cc
    by_place (Some p) there = refl

-- other names have other places
pub name_differs : (names : List (List ℕ)) (t name : List ℕ) (p q : ℕ) → text_eq t name ≡ false → place_of names t ≡ Some p → place_of names name ≡ Some q
    → (p == q) ≡ false
name_differs names t name p q other at is = by_test (p == q) refl
  where
    at_place : (n : List ℕ) (i : ℕ) → place_of names n ≡ Some i → slice_get names i ≡ Some n
    at_place n i e = subst (λ (o : Option ℕ). IfSome o (λ j. slice_get names j ≡ Some n)) e (place_of_found names n)

    by_test : (b : Bool) → (p == q) ≡ b → b ≡ false
    by_test false e = refl
    by_test true e =
        let same : Some t ≡ Some name = sym (at_place t p at) ∙ ap (slice_get names) (eqb-true p q e) ∙ at_place name q is in
        let is : t ≡ name = cc in
        let u : text_eq t name ≡ true = subst (λ (n : List ℕ). text_eq t n ≡ true) is (text_eq_same t) in
        sym u ∙ other

-- what no row of a table refuses
abbrev pub Passes : List (ℕ × Bool) → Type 0
Passes rows = Each (λ row. row.1 ≡ false) rows

pub passes : (rows : List (ℕ × Bool)) → first_code rows ≡ None → Passes rows
passes [] is = tt
passes (row ∷ rows) is = by_test row.1 refl is (λ more. passes rows more)
  where
    by_test : (b : Bool) → row.1 ≡ b → cond b (Some row.0) (first_code rows) ≡ None → (first_code rows ≡ None → Passes rows) → Passes (row ∷ rows)
    by_test true e is more = absurd (let x : Some row.0 ≡ None = is in cc)
    by_test false e is more = (e, more is)

-- the parts of a test that fails
pub not_or : (a b : Bool) → (a || b) ≡ false → (a ≡ false) × (b ≡ false)
not_or true b h = cc
not_or false b h = (refl, h)

pub not_false : (b : Bool) → not b ≡ false → b ≡ true
not_false true h = refl
not_false false h = cc
