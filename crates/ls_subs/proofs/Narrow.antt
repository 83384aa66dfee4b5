-- The places of a schema are no more than an item may have fields, and each stands there once.
use Rattle.std.proofs.Common.{◌≡◌, ◌==◌, ℕ, ◌+◌, ◌≤◌, List, [], ◌∷◌, length, refl, ◌∙◌, ap, arith, cond, Bool, true, false, ◌||◌}
use Rattle.std.proofs.Common.{Option, Some, None, is_some, option_map, unwrap_or}
use Rattle.std.specs.Prelude.{is_none}
use Rattle.std.specs.List.{list_any}
use Rattle.std.proofs.lemmas.List.{length-map}
use Rattle.ls_value.specs.Values.{text_eq, place_of, are_distinct}
use Rattle.ls_value.proofs.Distinct.{text_eq_turned}
use Rattle.ls_record.specs.Acting.{are_among, places_among}
use Rattle.ls_record.specs.Light.{AreOnce, IsNarrow}
use Rattle.ls_record.proofs.Naming.{name_differs}
use Rattle.ls_subs.proofs.Rounds.{and_true}

-- the name of another is none of these
none_other : (t name : List ℕ) (o : Option ℕ) → is_none (cond (text_eq t name) (Some 0) (option_map (λ i. i + 1) o)) ≡ true
    → (text_eq t name ≡ false) × (is_none o ≡ true)
none_other t name o h = by_test (text_eq t name) o h
  where
    by_test : (b : Bool) (o : Option ℕ) → is_none (cond b (Some 0) (option_map (λ i. i + 1) o)) ≡ true → (b ≡ false) × (is_none o ≡ true)
    by_test true o h = absurd (let x : false ≡ true = h in cc)
    by_test false None h = (refl, refl)
    by_test false (Some i) h = absurd (let x : false ≡ true = h in cc)

-- two names that are there have two places
apart : (names : List (List ℕ)) (t u : List ℕ) → text_eq t u ≡ false → is_some (place_of names t) ≡ true → is_some (place_of names u) ≡ true
    → (unwrap_or (place_of names t) 0 == unwrap_or (place_of names u) 0) ≡ false
apart names t u differ there here = by_places (place_of names t) (place_of names u) there here (name_differs names t u)
  where
    by_places : (o q : Option ℕ) → is_some o ≡ true → is_some q ≡ true
        → ((i j : ℕ) → text_eq t u ≡ false → o ≡ Some i → q ≡ Some j → (i == j) ≡ false) → (unwrap_or o 0 == unwrap_or q 0) ≡ false
    by_places None q there here f = absurd (let x : false ≡ true = there in cc)
    by_places (Some i) None there here f = absurd (let x : false ≡ true = here in cc)
    by_places (Some i) (Some j) there here f = f i j differ refl refl

other_places : (names : List (List ℕ)) (t : List ℕ) (us : List (List ℕ)) → is_some (place_of names t) ≡ true → is_none (place_of us t) ≡ true
    → are_among names us ≡ true → list_any (λ q. unwrap_or (place_of names t) 0 == q) (places_among names us) ≡ false
other_places names t [] there none among = refl
other_places names t (u ∷ us) there none among =
    let both = and_true (is_some (place_of names u)) (are_among names us) among in
    let other = none_other u t (place_of us t) none in
    ap (λ b. b || list_any (λ q. unwrap_or (place_of names t) 0 == q) (places_among names us))
    (apart names t u (text_eq_turned t u ∙ other.0) there both.0)
    ∙ other_places names t us there other.1 both.1

once : (names schema : List (List ℕ)) → are_distinct schema ≡ true → are_among names schema ≡ true → AreOnce (places_among names schema)
once names [] distinct among = tt
once names (t ∷ schema) distinct among =
    let first = and_true (is_none (place_of schema t)) (are_distinct schema) distinct in
    let both = and_true (is_some (place_of names t)) (are_among names schema) among in
    (other_places names t schema both.0 first.0 both.1, once names schema first.1 both.1)

pub places_narrow : (names schema : List (List ℕ)) → length schema ≤ 64 → are_distinct schema ≡ true → are_among names schema ≡ true
    → IsNarrow (places_among names schema)
places_narrow names schema few distinct among =
    let long : length (places_among names schema) ≡ length schema = length-map schema (λ t. unwrap_or (place_of names t) 0) in
    record { few = omega (arith, long, few); once = once names schema distinct among }
