-- Rounds as slots leave one by one, and as they are walked through.
use Rattle.std.proofs.Common.{◌≡◌, ◌==◌, ◌&&◌, ℕ, ◌+◌, ◌≤◌, ◌<◌, List, [], ◌∷◌, length, refl, sym, ◌∙◌, ap, arith, cond, Bool, true, false, not, Some, None}
use Rattle.std.proofs.Common.{Option, subst, nat_lt}
use Rattle.std.specs.Prelude.{slice_get}
use Rattle.std.specs.Option.{option_map}
use Rattle.std.specs.List.{filter}
use Rattle.std.proofs.lemmas.Bool.{eqb-true, eqb-false, eq-eqb, ltb-true, ltb-false, lt-ltb, le-ltb}
use Rattle.std.proofs.lemmas.List.Sums.{length-filter, count_by-le-length}
use Rattle.ls_turns.specs.declared.slot_ref.SlotRef.{SlotRef}
use Rattle.ls_turns.specs.Round.{Seat, Round, cleared, is_of, is_named, left, left_one, left_below, seat_at, node_of_place, HasPlacesTo}
use Rattle.ls_links.proofs.Members.{nothing_there, filter_agree_in, filter_all}

pub filter_twice : {A : Type 0} (p q : A → Bool) (xs : List A) → filter p (filter q xs) ≡ filter (λ x. q x && p x) xs
filter_twice p q [] = refl
filter_twice p q (x ∷ xs) =
    elim (q x) as (λ v. filter p (cond v (x ∷ filter q xs) (filter q xs)) ≡ cond (v && p x) (x ∷ filter (λ x. q x && p x) xs) (filter (λ x. q x && p x) xs)) [
      | true ↦ ap (λ (zs : List _). cond (p x) (x ∷ zs) zs) (filter_twice p q xs)
      | false ↦ filter_twice p q xs
    ]

seats_same : (r : Round) (a b : List Seat) → a ≡ b → record r { seats = a } ≡ record r { seats = b }
seats_same r a b e = rw e refl

below_next : (m n : ℕ) → (not (nat_lt m n) && not (m == n)) ≡ not (nat_lt m (n + 1))
below_next m n = by_test (nat_lt m n) refl
  where
    by_eq : (v : Bool) → (m == n) ≡ v → n ≤ m → not v ≡ not (nat_lt m (n + 1))
    by_eq true e le = let s : m ≡ n = eqb-true m n e in ap not (sym (lt-ltb m (n + 1) (omega arith)))
    by_eq false e le =
        let ne : m ≡ n → ⊥ = eqb-false m n e in
        ap not (sym (le-ltb m (n + 1) (greater ne le)))
      where
        greater : (m ≡ n → ⊥) → n ≤ m → n + 1 ≤ m
        greater ne le = omega arith

    by_test : (v : Bool) → nat_lt m n ≡ v → (not v && not (m == n)) ≡ not (nat_lt m (n + 1))
    by_test true e = let l : m < n = ltb-true m n e in ap not (sym (lt-ltb m (n + 1) (omega arith)))
    by_test false e = by_eq (m == n) refl (ltb-false m n e)

-- one place more
pub left_more : (sub n : ℕ) (r : Round) → left_one sub n (left_below sub n r) ≡ left_below sub (n + 1) r
left_more sub n r =
    seats_same r _ _ (filter_twice (λ s. not (is_named sub n s)) (λ s. not (is_of sub s && nat_lt s.slot.place n)) r.seats
    ∙ filter_agree_in (λ s. not (is_of sub s && nat_lt s.slot.place n) && not (is_named sub n s)) (λ s. not (is_of sub s && nat_lt s.slot.place (n + 1)))
    r.seats
    (λ s m. by_test s (is_of sub s)))
  where
    by_test : (s : Seat) (v : Bool) → (not (v && nat_lt s.slot.place n) && not (v && (s.slot.place == n))) ≡ not (v && nat_lt s.slot.place (n + 1))
    by_test s true = below_next s.slot.place n
    by_test s false = refl

pub left_nothing : (sub : ℕ) (r : Round) → left_below sub 0 r ≡ r
left_nothing sub r =
    seats_same r _ _ (filter_all (λ s. not (is_of sub s && nat_lt s.slot.place 0)) r.seats (λ s m. by_test s (is_of sub s)))
  where
    by_test : (s : Seat) (v : Bool) → not (v && nat_lt s.slot.place 0) ≡ true
    by_test s true = ap not (le-ltb s.slot.place 0 (omega arith))
    by_test s false = refl

pub left_all : (sub n : ℕ) (r : Round) → HasPlacesTo n r → left_one sub n (left_below sub n r) ≡ left sub r
left_all sub n r low =
    left_more sub n r
    ∙ seats_same r _ _ (filter_agree_in (λ s. not (is_of sub s && nat_lt s.slot.place (n + 1))) (λ s. not (is_of sub s)) r.seats
    (λ s m. by_test s (is_of sub s) (low m.0 s m.1)))
  where
    by_test : (s : Seat) (v : Bool) → s.slot.place ≤ n → not (v && nat_lt s.slot.place (n + 1)) ≡ not v
    by_test s true le = ap not (lt-ltb s.slot.place (n + 1) (omega arith))
    by_test s false le = refl

pub seat_here : (r : Round) (i node : ℕ) → node_of_place r i ≡ Some node → (s : Seat) × (seat_at r i ≡ Some s) × (s.node ≡ node)
seat_here r i node h = by_case (seat_at r i) refl h
  where
    by_case : (o : Option Seat) → seat_at r i ≡ o → option_map (λ s. s.node) o ≡ Some node → (s : Seat) × (seat_at r i ≡ Some s) × (s.node ≡ node)
    by_case None e g = absurd (nothing_there node None refl g)
    by_case (Some s) e g = (s, e, cc)

-- of an empty round there is no first slot
pub no_first : (r : Round) → node_of_place r 0 ≡ None → r.seats ≡ []
no_first r h = by_case r.seats h
  where
    by_case : (xs : List Seat) → option_map (λ s. s.node) (slice_get xs 0) ≡ None → xs ≡ []
    by_case [] g = refl
    by_case (x ∷ xs) g = absurd (nothing_there x.node (Some x.node) g refl)

-- the first slot leaves
first_less : (xs : List Seat) (s : Seat) → slice_get xs 0 ≡ Some s → length (filter (λ x. not (is_named s.slot.sub s.slot.place x)) xs) < length xs
first_less [] s h = absurd (nothing_there s None refl h)
first_less (x ∷ xs) s h =
    let e : x ≡ s = cc in
    let a : (x.slot.sub == s.slot.sub) ≡ true = eq-eqb x.slot.sub s.slot.sub (ap (λ (k : Seat). k.slot.sub) e) in
    let b : (x.slot.place == s.slot.place) ≡ true = eq-eqb x.slot.place s.slot.place (ap (λ (k : Seat). k.slot.place) e) in
    let p = λ (y : Seat). not (is_named s.slot.sub s.slot.place y) in
    let l : length (filter (λ y. not (is_named s.slot.sub s.slot.place y)) xs) ≤ length xs =
    rw (length-filter (λ (y : Seat). not (is_named s.slot.sub s.slot.place y)) xs) (count_by-le-length (λ (y : Seat). not (is_named s.slot.sub s.slot.place y))
    xs) in
    rw (a, b) (omega arith)

pub leaves_less : (r : Round) (node : ℕ) (slot : SlotRef) → node_of_place r 0 ≡ Some node
    → ((j : ℕ) (s : Seat) → seat_at r j ≡ Some s → s.node ≡ node → slot ≡ s.slot) → length (left_one slot.sub slot.place r).seats < length r.seats
leaves_less r node slot h is =
    let s = seat_here r 0 node h in
    subst (λ (x : SlotRef). length (left_one x.sub x.place r).seats < length r.seats) (sym (is 0 s.0 s.1 s.2)) (first_less r.seats s.0 s.1)

pub cleared_is : (r q : Round) → r.seats ≡ [] → r.spare ≡ q.spare → r ≡ cleared q
cleared_is r q e f = ap (λ (ss : List Seat). record { seats = ss; spare = r.spare }) e ∙ ap (λ (n : ℕ). record { seats = []; spare = n }) f
