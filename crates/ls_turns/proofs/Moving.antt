-- What a round's calls make of its slots are moves.
use Rattle.std.proofs.Common.{◌≡◌, ◌==◌, ◌&&◌, ◌||◌, ℕ, zero, suc, List, [], ◌∷◌, ◌++◌, length, map, refl, sym, ◌∙◌, ap, arith, cond, Bool, true, false, not}
use Rattle.std.proofs.Common.{Some}
use Rattle.std.specs.Prelude.{slice_get}
use Rattle.std.specs.List.{filter, list_any}
use Rattle.std.proofs.lemmas.Bool.{eqb-true}
use Rattle.std.proofs.lemmas.Bool.Decides.{nat_tests}
use Rattle.std.proofs.lemmas.List.{map-append}
use Rattle.ls_value.proofs.Rows.{and_left, and_right}
use Rattle.ls_turns.specs.declared.slot_ref.SlotRef.{SlotRef}
use Rattle.ls_turns.specs.Round.{Seat, Round, AreApart, Joins, slots_of, is_named, has_slot, left, gave}
use Rattle.ls_turns.specs.Moves.{Joined, Left, is_same, IsMoved, GivesAt}
use Rattle.ls_links.proofs.Members.{filter_agree_in, filter_map, one_passes}

equal_either_way : (m n : ℕ) → (m == n) ≡ (n == m)
equal_either_way m n = grind (arith, nat_tests)

-- a slot's name is its seat's
same_named : (a : SlotRef) (s : Seat) → is_same a s.slot ≡ is_named a.sub a.place s
same_named a s =
    ap (λ v. v && (a.place == s.slot.place)) (equal_either_way a.sub s.slot.sub)
    ∙ ap (λ v. (s.slot.sub == a.sub) && v) (equal_either_way a.place s.slot.place)

any_named : (a : SlotRef) (seats : List Seat) → list_any (is_same a) (map (λ s. s.slot) seats) ≡ list_any (is_named a.sub a.place) seats
any_named a [] = refl
any_named a (s ∷ seats) =
    ap (λ v. v || list_any (is_same a) (map (λ x. x.slot) seats)) (same_named a s) ∙ ap (λ v. is_named a.sub a.place s || v) (any_named a seats)

-- a slot joins
pub join_moves : (slot : SlotRef) (r q : Round) → has_slot slot.sub slot.place r ≡ false → Joins slot r q → IsMoved (Joined slot) r q
join_moves slot r q absent j = (
  any_named slot r.seats ∙ absent,
  ap slots_of j.after ∙ map-append (λ (s : Seat). s.slot) r.seats (j.seat ∷ []) ∙ ap (λ x. slots_of r ++ x ∷ []) j.slot_is,
)

-- a subscription's slots leave
pub leave_moves : (sub : ℕ) (r : Round) → IsMoved (Left sub) r (left sub r)
leave_moves sub r = (tt, sym (filter_map (λ (s : Seat). s.slot) (λ (b : SlotRef). not (b.sub == sub)) r.seats))

-- where some element passes a test, it is at a place
any_at : {A : Type 0} (p : A → Bool) (xs : List A) → list_any p xs ≡ true → (i : ℕ) × (x : A) × (slice_get xs i ≡ Some x) × (p x ≡ true)
any_at p [] any = absurd (let x : false ≡ true = any in cc)
any_at p (x ∷ xs) any = by_test (p x) refl any (any_at p xs)
  where
    by_test : (v : Bool) → p x ≡ v → (v || list_any p xs) ≡ true → (list_any p xs ≡ true → (i : ℕ) × (y : _) × (slice_get xs i ≡ Some y) × (p y ≡ true))
        → (i : ℕ) × (y : _) × (slice_get (x ∷ xs) i ≡ Some y) × (p y ≡ true)
    by_test true e some rest = (zero, x, refl, e)
    by_test false e some rest = let r = rest some in (suc r.0, r.1, r.2, r.3)

-- a test that one element alone passes: it stands behind others and before others
record Alone {A : Type 0} (p : A → Bool) (xs : List A) : Type 0 where
  before : List A
  one : A
  behind : List A
  parts : xs ≡ before ++ one ∷ behind
  passes : p one ≡ true
  only : filter p xs ≡ one ∷ []

none_left : {A : Type 0} (xs : List A) → length xs ≡ 0 → xs ≡ []
none_left [] e = refl
none_left (x ∷ xs) e = absurd (omega (arith, e))

alone : {A : Type 0} (p : A → Bool) (xs : List A) → length (filter p xs) ≡ 1 → Alone p xs
alone p [] e = absurd (omega (arith, e))
alone p (x ∷ xs) e = by_test (p x) refl e (alone p xs)
  where
    by_test : (v : Bool) → p x ≡ v → length (cond v (x ∷ filter p xs) (filter p xs)) ≡ 1 → (length (filter p xs) ≡ 1 → Alone p xs) → Alone p (x ∷ xs)
    by_test true t e rest =
        record {
          before = [];
          one = x;
          behind = xs;
          parts = refl;
          passes = t;
          only = ap (λ v. cond v (x ∷ filter p xs) (filter p xs)) t ∙ ap (λ ys. x ∷ ys) (none_left (filter p xs) (omega (arith, e)));
        }
    by_test false t e rest =
        let r = rest e in
        record {
          before = x ∷ r.before;
          one = r.one;
          behind = r.behind;
          parts = ap (λ ys. x ∷ ys) r.parts;
          passes = r.passes;
          only = ap (λ v. cond v (x ∷ filter p xs) (filter p xs)) t ∙ r.only;
        }

-- of a place in a subscription there is one seat
named_alone : (sub place : ℕ) (r : Round) → AreApart r → has_slot sub place r ≡ true → Alone (is_named sub place) r.seats
named_alone sub place r apart has =
    let at = any_at (is_named sub place) r.seats has in
    alone (is_named sub place) r.seats
    (one_passes (is_named sub place) r.seats at.0 at.1 at.2 at.3 (λ j s h named. apart.names j at.0 s at.1 h at.2
    (sub_of s named ∙ sym (sub_of at.1 at.3)) (place_of s named ∙ sym (place_of at.1 at.3))))
  where
    sub_of : (s : Seat) → is_named sub place s ≡ true → s.slot.sub ≡ sub
    sub_of s named = eqb-true s.slot.sub sub (and_left (s.slot.sub == sub) (s.slot.place == place) named)

    place_of : (s : Seat) → is_named sub place s ≡ true → s.slot.place ≡ place
    place_of s named = eqb-true s.slot.place place (and_right (s.slot.sub == sub) (s.slot.place == place) named)

-- a slot gives
pub gave_moves : (sub place : ℕ) (r : Round) → AreApart r → has_slot sub place r ≡ true → GivesAt sub place r (gave sub place r)
gave_moves sub place r apart has =
    let a = named_alone sub place r apart has in
    let s : a.one.slot.sub ≡ sub = eqb-true a.one.slot.sub sub (and_left (a.one.slot.sub == sub) (a.one.slot.place == place) a.passes) in
    let p : a.one.slot.place ≡ place =
    eqb-true a.one.slot.place place (and_right (a.one.slot.sub == sub) (a.one.slot.place == place) a.passes) in
    let others : map (λ (x : Seat). x.slot) (filter (λ x. not (is_named sub place x)) r.seats) ≡ filter (λ b. not (is_same a.one.slot b)) (slots_of r) =
    ap (map (λ (x : Seat). x.slot)) (filter_agree_in (λ x. not (is_named sub place x)) (λ x. not (is_same a.one.slot x.slot)) r.seats
    (λ x m. ap not (sym (same_named a.one.slot x
    ∙ ap (λ n. is_named n a.one.slot.place x) s ∙ ap (λ n. is_named sub n x) p))))
    ∙ sym (filter_map (λ (x : Seat). x.slot) (λ b. not (is_same a.one.slot b)) r.seats) in
    record {
      slot = a.one.slot;
      asked = map (λ (x : Seat). x.slot) a.before;
      sub_is = s;
      place_is = p;
      moved = (
        (
          map (λ (x : Seat). x.slot) a.behind,
          ap (map (λ (x : Seat). x.slot)) a.parts ∙ map-append (λ (x : Seat). x.slot) a.before (a.one ∷ a.behind),
        ),
        map-append (λ (x : Seat). x.slot) (filter (λ x. not (is_named sub place x)) r.seats) (filter (is_named sub place) r.seats)
            ∙ ap (λ ss. map (λ (x : Seat). x.slot) (filter (λ x. not (is_named sub place x)) r.seats) ++ map (λ (x : Seat). x.slot) ss) a.only
            ∙ ap (λ xs. xs ++ a.one.slot ∷ []) others,
      );
    }
