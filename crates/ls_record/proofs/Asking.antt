-- What an add that is accepted asks for: items apart, and no more slots than are free.
use Rattle.std.proofs.Common.{◌≡◌, ◌==◌, ℕ, ◌+◌, ◌≤◌, List, [], ◌∷◌, length, map, refl, ◌∙◌, arith, cond, Bool, true, false}
use Rattle.std.proofs.Common.{Option, Some, None, nat_lt, nat_le, option_map}
use Rattle.std.specs.Prelude.{unwrap_or, is_some, is_none}
use Rattle.std.proofs.lemmas.Bool.Decides.{nat_tests}
use Rattle.std.proofs.lemmas.List.{length-map}
use Rattle.ls_value.specs.Values.{text_eq, place_of, are_distinct}
use Rattle.ls_value.proofs.Rows.{and_left, and_right}
use Rattle.ls_event.specs.declared.item.ItemDef.{ItemDef}
use Rattle.ls_request.specs.declared.request.Add.{Add}
use Rattle.ls_record.specs.declared.TheConstants.{MOST_SUBSCRIPTIONS}
use Rattle.ls_record.specs.Cutting.{Ask}
use Rattle.ls_record.specs.Cases.{first_code}
use Rattle.ls_record.specs.Records.{Session, fields_in}
use Rattle.ls_record.specs.Acting.{are_among, places_among, names_of, is_group, group_of, ask_of, asks_of}
use Rattle.ls_record.specs.Acting.{add_refusals, subscriptions}
use Rattle.ls_value.specs.Each.{Each}
use Rattle.ls_record.proofs.Naming.{Passes, passes, place_is, name_differs, not_or, not_false}

-- numbers of which no two are equal
abbrev AreApart : List ℕ → Type 0
AreApart [] = Unit {0}
AreApart (p ∷ ps) = Each (λ q. (q == p) ≡ false) ps × AreApart ps

others_apart : (names ts : List (List ℕ)) (t : List ℕ) → is_some (place_of names t) ≡ true → are_among names ts ≡ true → is_none (place_of ts t) ≡ true
    → Each (λ q. (q == unwrap_or (place_of names t) 0) ≡ false) (places_among names ts)
others_apart names [] t there among none = tt
others_apart names (u ∷ ts) t there among none =
    by_name (text_eq u t) refl (place_of ts t) none (others_apart names ts t there (and_right _ _ among))
  where
    by_name : (v : Bool) → text_eq u t ≡ v → (o : Option ℕ) → is_none (cond v (Some 0) (option_map (λ i. i + 1) o)) ≡ true
        → (is_none o ≡ true → Each (λ q. (q == unwrap_or (place_of names t) 0) ≡ false) (places_among names ts))
        → Each (λ q. (q == unwrap_or (place_of names t) 0) ≡ false) (places_among names (u ∷ ts))
    by_name true same o none more = absurd (let x : false ≡ true = none in cc)
    by_name false same None none more = (
      name_differs names u t (unwrap_or (place_of names u) 0) (unwrap_or (place_of names t) 0) same (place_is names u (and_left _ _ among))
          (place_is names t there),
      more refl,
    )
    by_name false same (Some i) none more = absurd (let x : false ≡ true = none in cc)

places_apart : (names ts : List (List ℕ)) → are_distinct ts ≡ true → are_among names ts ≡ true → AreApart (places_among names ts)
places_apart names [] distinct among = tt
places_apart names (t ∷ ts) distinct among = (
  others_apart names ts t (and_left _ _ among) (and_right _ _ among) (and_left _ _ distinct),
  places_apart names ts (and_right _ _ distinct) (and_right _ _ among),
)

-- what is asked is asked of items apart
abbrev pub AsksApart : List Ask → Type 0
AsksApart [] = Unit {0}
AsksApart (a ∷ asks) = Each (λ u. (u.item == a.item) ≡ false) asks × AsksApart asks

asks_apart : (a : Add) (f : ℕ → List ℕ) (group : List ℕ) → AreApart group → AsksApart (map (λ n. ask_of a n (f n)) group)
asks_apart a f [] apart = tt
asks_apart a f (n ∷ group) apart = (others group apart.0, asks_apart a f group apart.1)
  where
    others : (group : List ℕ) → Each (λ q. (q == n) ≡ false) group → Each (λ (u : Ask). (u.item == n) ≡ false) (map (λ n. ask_of a n (f n)) group)
    others [] e = tt
    others (m ∷ group) e = (e.0, others group e.1)

asks_length : (defs : List ItemDef) (a : Add) → length (asks_of defs a) ≡ length a.group
asks_length defs a = length-map (group_of defs a.group) (λ n. ask_of a n (places_among (fields_in defs n) a.schema))
    ∙ length-map a.group (λ t. unwrap_or (place_of (names_of defs) t) 0)

-- an add that is accepted, where so many slots are free
pub record CanJoin (defs : List ItemDef) (free : ℕ) (a : Add) : Type 0 where
  pub apart : AsksApart (asks_of defs a)
  pub some : 1 ≤ length (asks_of defs a)
  pub room : length (asks_of defs a) ≤ free

pub can_join : (defs : List ItemDef) (free : ℕ) (s : Session) (a : Add) → first_code (add_refusals defs free s a) ≡ None → CanJoin defs free a
can_join defs free s a none =
    let p : Passes (add_refusals defs free s a) = passes (add_refusals defs free s a) none in
    let group : is_group defs a.group ≡ true = not_false _ p.1.1.0 in
    let few : nat_lt free (length a.group) ≡ false = (not_or (nat_le MOST_SUBSCRIPTIONS (subscriptions s.board.round))
    (nat_lt free (length a.group)) p.1.1.1.1.1.0).1 in
    record {
      apart = asks_apart a (λ n. places_among (fields_in defs n) a.schema) (group_of defs a.group)
          (places_apart (names_of defs) a.group (and_right _ _ (and_left _ _ group)) (and_right _ _ group));
      some = omega (arith, asks_length defs a, at_least (length a.group) (and_left (nat_le 1 (length a.group)) _ (and_left _ _ (and_left _ _ group))));
      room = omega (arith, asks_length defs a, at_most free (length a.group) few);
    }
  where
    at_least : (n : ℕ) → nat_le 1 n ≡ true → 1 ≤ n
    at_least n h = grind (arith, nat_tests)

    at_most : (n m : ℕ) → nat_lt n m ≡ false → m ≤ n
    at_most n m h = grind (arith, nat_tests)
