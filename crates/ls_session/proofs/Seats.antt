-- The seats of a round, and the slots that they name.
use Rattle.std.proofs.Common.{◌≡◌, ◌==◌, ◌≤◌, ◌<◌, ◌+◌, ◌++◌, ◌&&◌, ◌||◌, not, ℕ, zero, suc, Bool, Option, List, [], ◌∷◌, length, map, take, drop, true, false}
use Rattle.std.proofs.Common.{None, Some}
use Rattle.std.proofs.Common.{length-append, refl, sym, ◌∙◌, ap, subst, cond, arith, slice_get, option_map}
use Rattle.std.specs.List.{filter, list_any}
use Rattle.std.specs.Option.{ForSome}
use Rattle.std.proofs.lemmas.List.{drop_all, map-append, length-map}
use Rattle.std.proofs.lemmas.List.Filters.{length-filter_both}
use Rattle.std.proofs.lemmas.Option.{slice_get-map}
use Rattle.ls_turns.specs.Round.{Round, Seat, IsSeated, seat_at, node_of_place, slot_of_place, slots_of, has_slot, is_of, is_named, gave, left}
use Rattle.ls_turns.specs.declared.slot_ref.SlotRef.{SlotRef}
use Rattle.ls_value.specs.Each.{Each}
use Rattle.ls_record.specs.Apart.{Apart}
use Rattle.ls_record.specs.Records.{LiveSlot, is_at, with_frequency, without}
use Rattle.ls_record.specs.Records.{is_of as is_live_of}
use Rattle.ls_subs.specs.Standing.{ref_of}
use Rattle.ls_subs.proofs.Rounds.{eqb_self, eqb_swap}
use Rattle.ls_session.specs.Asking.{Holds}
use Rattle.ls_session.specs.declared.asking.Front.{Front}
use Rattle.ls_session.specs.Session.{refs_from, refs_of}
use Rattle.ls_subs.specs.declared.plan.PlanItem.{PlanItem}

-- a slot is named where the slots of a round are those of others
pub slot_named : (turns : Round) (round : List LiveSlot) (i : ℕ) → slots_of turns ≡ map ref_of round
    → slot_of_place turns i ≡ option_map ref_of (slice_get round i)
slot_named turns round i is =
    sym (slice_get-map (λ (s : Seat). s.slot) turns.seats i) ∙ ap (λ xs. slice_get xs i) is ∙ slice_get-map ref_of round i

-- the node of a place is seated
pub seated : (turns : Round) (i node : ℕ) → node_of_place turns i ≡ Some node → IsSeated turns node
seated turns i node is = by_seat (seat_at turns i) refl is
  where
    by_seat : (o : Option Seat) → seat_at turns i ≡ o → option_map (λ s. s.node) o ≡ Some node → IsSeated turns node
    by_seat None e here = absurd (let x : None ≡ Some node = here in cc)
    by_seat (Some s) e here = (i, s, e, let x : Some s.node ≡ Some node = here in cc)

pub place_seated : (turns : Round) (i : ℕ) → ForSome (node_of_place turns i) (IsSeated turns)
place_seated turns i = by_node (node_of_place turns i) refl
  where
    by_node : (o : Option ℕ) → node_of_place turns i ≡ o → ForSome o (IsSeated turns)
    by_node None e = λ n x. absurd (let y : None ≡ Some n = x in cc)
    by_node (Some node) e =
        λ n x. seated turns i n (e ∙ x)

-- a round that begins anew keeps its room
pub held_anew : (turns : Round) (first : Option ℕ) (most : ℕ) → first ≡ node_of_place turns 0 → length turns.seats ≤ most → Holds turns first None most
held_anew turns first most is few =
    record {
      next = subst (λ (o : Option ℕ). ForSome o (IsSeated turns)) (sym is) (place_seated turns 0);
      question = λ q e. absurd (let x : None ≡ Some q = e in cc);
      room = few;
    }

-- none of the first slots is known to wait
pub no_front : (P : Front → Type 0) → ForSome None P
no_front P = λ f e. absurd (let x : None ≡ Some f = e in cc)

-- a walk is at a place of the round: there is a slot, and the rest follows
pub node_within : (turns : Round) (i : ℕ) → i < length turns.seats → node_of_place turns i ≡ None → ⊥
node_within turns i low none = within turns.seats i low none
  where
    within : (seats : List Seat) (j : ℕ) → j < length seats → option_map (λ (s : Seat). s.node) (slice_get seats j) ≡ None → ⊥
    within [] j few e = absurd (omega (arith, few))
    within (s ∷ seats) zero few e = absurd (let x : Some s.node ≡ None = e in cc)
    within (s ∷ seats) (suc j) few e = within seats j (omega (arith, few)) e

pub walk_over : (turns : Round) (i : ℕ) → length turns.seats ≤ i → drop i (slots_of turns) ≡ []
walk_over turns i over = drop_all i (slots_of turns) (omega (arith, over, length-map turns.seats (λ (s : Seat). s.slot)))

drop_at : (xs : List SlotRef) (i : ℕ) (x : SlotRef) → slice_get xs i ≡ Some x → drop i xs ≡ x ∷ drop (i + 1) xs
drop_at [] i x at = absurd (let y : None ≡ Some x = at in cc)
drop_at (z ∷ xs) zero x at =
    let y : Some z ≡ Some x = at in
    let same : z ≡ x = cc in ap (λ (w : SlotRef). w ∷ xs) same
drop_at (z ∷ xs) (suc i) x at = drop_at xs i x at ∙ ap (λ k. x ∷ drop k (z ∷ xs)) (let k : suc (i + 1) ≡ suc i + 1 = omega arith in k)

pub walk_here : (turns : Round) (i node : ℕ) (slot : SlotRef) → node_of_place turns i ≡ Some node
    → ((j : ℕ) (s : Seat) → seat_at turns j ≡ Some s → s.node ≡ node → slot ≡ s.slot) → drop i (slots_of turns) ≡ slot ∷ drop (i + 1) (slots_of turns)
walk_here turns i node slot here is = by_seat (seat_at turns i) refl here
  where
    by_seat : (o : Option Seat) → seat_at turns i ≡ o → option_map (λ (s : Seat). s.node) o ≡ Some node
        → drop i (slots_of turns) ≡ slot ∷ drop (i + 1) (slots_of turns)
    by_seat None e at = absurd (let x : None ≡ Some node = at in cc)
    by_seat (Some s) e at =
        let same : s.node ≡ node = let x : Some s.node ≡ Some node = at in cc in
        drop_at (slots_of turns) i slot
        (slice_get-map (λ (x : Seat). x.slot) turns.seats i ∙ ap (option_map (λ (x : Seat). x.slot)) e ∙ ap Some (sym (is i s e same)))

pub walk_next : (turns : Round) (i node : ℕ) (next : Option ℕ) → node_of_place turns i ≡ Some node
    → ((j : ℕ) (s : Seat) → seat_at turns j ≡ Some s → s.node ≡ node → next ≡ node_of_place turns (j + 1)) → next ≡ node_of_place turns (i + 1)
walk_next turns i node next here is = by_seat (seat_at turns i) refl here
  where
    by_seat : (o : Option Seat) → seat_at turns i ≡ o → option_map (λ (s : Seat). s.node) o ≡ Some node → next ≡ node_of_place turns (i + 1)
    by_seat None e at = absurd (let x : None ≡ Some node = at in cc)
    by_seat (Some s) e at = is i s e (let x : Some s.node ≡ Some node = at in cc)

-- a slot of a seat is in the round
any_at : (p : Seat → Bool) (seats : List Seat) (i : ℕ) (s : Seat) → slice_get seats i ≡ Some s → p s ≡ true → list_any p seats ≡ true
any_at p [] i s at is = absurd (let x : None ≡ Some s = at in cc)
any_at p (t ∷ seats) zero s at is =
    let x : Some t ≡ Some s = at in
    let same : t ≡ s = cc in ap (λ v. v || list_any p seats) (ap p same ∙ is)
any_at p (t ∷ seats) (suc i) s at is = by_test (p t) (any_at p seats i s at is)
  where
    by_test : (v : Bool) → list_any p seats ≡ true → (v || list_any p seats) ≡ true
    by_test true e = refl
    by_test false e = e

pub has_at : (turns : Round) (i : ℕ) (s : Seat) → seat_at turns i ≡ Some s → has_slot s.slot.sub s.slot.place turns ≡ true
has_at turns i s at =
    any_at (is_named s.slot.sub s.slot.place) turns.seats i s at
    (ap (λ v. v && (s.slot.place == s.slot.place)) (eqb_self s.slot.sub) ∙ eqb_self s.slot.place)

-- none of a subscription's slots, and so none of a place of it
pub none_named : (sub place : ℕ) (seats : List Seat) → list_any (is_of sub) seats ≡ false → list_any (is_named sub place) seats ≡ false
none_named sub place [] none = refl
none_named sub place (s ∷ seats) none = by_test (s.slot.sub == sub) none (none_named sub place seats)
  where
    by_test : (v : Bool) → (v || list_any (is_of sub) seats) ≡ false → (list_any (is_of sub) seats ≡ false → list_any (is_named sub place) seats ≡ false)
        → ((v && (s.slot.place == place)) || list_any (is_named sub place) seats) ≡ false
    by_test true e more = absurd (let x : true ≡ false = e in cc)
    by_test false e more = more e

-- where a subscription's slots left there is none of it
pub none_left : (sub : ℕ) (seats : List Seat) → list_any (is_of sub) (filter (λ s. not (is_of sub s)) seats) ≡ false
none_left sub [] = refl
none_left sub (s ∷ seats) = by_test (s.slot.sub == sub) refl (none_left sub seats)
  where
    by_test : (v : Bool) → (s.slot.sub == sub) ≡ v → list_any (is_of sub) (filter (λ x. not (is_of sub x)) seats) ≡ false
        → list_any (is_of sub) (cond (not v) (s ∷ filter (λ x. not (is_of sub x)) seats) (filter (λ x. not (is_of sub x)) seats)) ≡ false
    by_test true e more = more
    by_test false e more = ap (λ v. v || list_any (is_of sub) (filter (λ x. not (is_of sub x)) seats)) e ∙ more

-- there are no more than there were, and as many where one went to the back
pub left_few : (sub : ℕ) (turns : Round) → length (left sub turns).seats ≤ length turns.seats
left_few sub turns = omega (arith, length-filter_both (is_of sub) (λ s. not (is_of sub s)) (λ s. refl) turns.seats)

pub gave_few : (sub place : ℕ) (turns : Round) → length (gave sub place turns).seats ≡ length turns.seats
gave_few sub place turns =
    omega (
      arith,
      length-filter_both (is_named sub place) (λ s. not (is_named sub place s)) (λ s. refl) turns.seats,
      length-append (filter (λ s. not (is_named sub place s)) turns.seats) (filter (is_named sub place) turns.seats),
    )

-- the slots of seats that pass a test on slots
passing : (p : SlotRef → Bool) (seats : List Seat) → map (λ s. s.slot) (filter (λ s. p s.slot) seats) ≡ filter p (map (λ s. s.slot) seats)
passing p [] = refl
passing p (s ∷ seats) = by_test (p s.slot) (passing p seats)
  where
    by_test : (v : Bool) → map (λ x. x.slot) (filter (λ x. p x.slot) seats) ≡ filter p (map (λ x. x.slot) seats)
        → map (λ x. x.slot) (cond v (s ∷ filter (λ x. p x.slot) seats) (filter (λ x. p x.slot) seats))
        ≡ cond v (s.slot ∷ filter p (map (λ x. x.slot) seats)) (filter p (map (λ x. x.slot) seats))
    by_test true more = ap (λ xs. s.slot ∷ xs) more
    by_test false more = more

-- a subscription's slots leave a round and its record alike
others : (sub : ℕ) (round : List LiveSlot) → filter (λ s. not (s.sub == sub)) (map ref_of round) ≡ map ref_of (without sub round)
others sub [] = refl
others sub (v ∷ round) = by_test (v.sub == sub) (sub == v.sub) (eqb_swap v.sub sub) (others sub round)
  where
    by_test : (a b : Bool) → a ≡ b → filter (λ s. not (s.sub == sub)) (map ref_of round) ≡ map ref_of (without sub round)
        → cond (not a) (ref_of v ∷ filter (λ s. not (s.sub == sub)) (map ref_of round)) (filter (λ s. not (s.sub == sub)) (map ref_of round))
        ≡ map ref_of (cond b (without sub round) (v ∷ without sub round))
    by_test true true e more = more
    by_test false false e more = ap (λ xs. ref_of v ∷ xs) more
    by_test true false e more = absurd (let x : true ≡ false = e in cc)
    by_test false true e more = absurd (let x : false ≡ true = e in cc)

pub left_slots : (sub : ℕ) (turns : Round) (round : List LiveSlot) → slots_of turns ≡ map ref_of round → slots_of (left sub turns) ≡ map ref_of (without sub round)
left_slots sub turns round is =
    passing (λ s. not (s.sub == sub)) turns.seats ∙ ap (filter (λ s. not (s.sub == sub))) is ∙ others sub round

-- whether a slot is that of a place of a subscription
abbrev is_there : ℕ → ℕ → SlotRef → Bool
is_there sub place s = (s.sub == sub) && (s.place == place)

-- no other slot of a round is, and so the one that is goes to the back
none_there : (v : LiveSlot) (round : List LiveSlot) → Each (λ u. is_at v.sub v.rank u ≡ false) round
    → (filter (λ s. not (is_there v.sub v.rank s)) (map ref_of round) ≡ map ref_of round)
    × (filter (is_there v.sub v.rank) (map ref_of round) ≡ [])
none_there v [] apart = (refl, refl)
none_there v (u ∷ round) apart =
    let e : is_there v.sub v.rank (ref_of u) ≡ false =
    ap (λ x. x && (u.rank == v.rank)) (eqb_swap u.sub v.sub) ∙ ap (λ x. (v.sub == u.sub) && x) (eqb_swap u.rank v.rank) ∙ apart.0 in
    let more = none_there v round apart.1 in (
      ap (λ x. cond (not x) (ref_of u ∷ filter (λ s. not (is_there v.sub v.rank s)) (map ref_of round))
          (filter (λ s. not (is_there v.sub v.rank s)) (map ref_of round))) e
          ∙ ap (λ xs. ref_of u ∷ xs) more.0,
      ap (λ x. cond x (ref_of u ∷ filter (is_there v.sub v.rank) (map ref_of round)) (filter (is_there v.sub v.rank) (map ref_of round))) e ∙ more.1,
    )

each_at : (P : LiveSlot → Type 0) (round : List LiveSlot) (n : ℕ) (v : LiveSlot) → Each P round → slice_get round n ≡ Some v → P v
each_at P [] n v each at = absurd (let x : None ≡ Some v = at in cc)
each_at P (u ∷ round) zero v each at =
    let x : Some u ≡ Some v = at in
    let same : u ≡ v = cc in subst P same each.0
each_at P (u ∷ round) (suc n) v each at = each_at P round n v each.1 at

one_there : (round : List LiveSlot) (n : ℕ) (v : LiveSlot) → Apart round → slice_get round n ≡ Some v
    → (filter (λ s. not (is_there v.sub v.rank s)) (map ref_of round) ≡ take n (map ref_of round) ++ drop (n + 1) (map ref_of round))
    × (filter (is_there v.sub v.rank) (map ref_of round) ≡ ref_of v ∷ [])
one_there [] n v apart at = absurd (let x : None ≡ Some v = at in cc)
one_there (u ∷ round) zero v apart at =
    let x : Some u ≡ Some v = at in
    let same : v ≡ u = cc in
    let e : is_there v.sub v.rank (ref_of u) ≡ true =
    subst (λ (w : LiveSlot). is_there w.sub w.rank (ref_of u) ≡ true) (sym same) (ap (λ y. y && (u.rank == u.rank)) (eqb_self u.sub) ∙ eqb_self u.rank) in
    let none = none_there v round (subst (λ (w : LiveSlot). Each (λ y. is_at w.sub w.rank y ≡ false) round) (sym same) apart.0) in (
      ap (λ y. cond (not y) (ref_of u ∷ filter (λ s. not (is_there v.sub v.rank s)) (map ref_of round))
          (filter (λ s. not (is_there v.sub v.rank s)) (map ref_of round))) e
          ∙ none.0,
      ap (λ y. cond y (ref_of u ∷ filter (is_there v.sub v.rank) (map ref_of round)) (filter (is_there v.sub v.rank) (map ref_of round))) e
          ∙ ap (λ xs. ref_of u ∷ xs) none.1 ∙ ap (λ w. ref_of w ∷ []) (sym same),
    )
one_there (u ∷ round) (suc n) v apart at =
    let e : is_there v.sub v.rank (ref_of u) ≡ false = each_at (λ w. is_at u.sub u.rank w ≡ false) round n v apart.0 at in
    let more = one_there round n v apart.1 at in (
      ap (λ y. cond (not y) (ref_of u ∷ filter (λ s. not (is_there v.sub v.rank s)) (map ref_of round))
          (filter (λ s. not (is_there v.sub v.rank s)) (map ref_of round))) e
          ∙ ap (λ xs. ref_of u ∷ xs) more.0
          ∙ ap (λ k. (ref_of u ∷ take n (map ref_of round)) ++ drop k (ref_of u ∷ map ref_of round)) (let k : suc (n + 1) ≡ suc n + 1 = omega arith in k),
      ap (λ y. cond y (ref_of u ∷ filter (is_there v.sub v.rank) (map ref_of round)) (filter (is_there v.sub v.rank) (map ref_of round))) e ∙ more.1,
    )

pub gave_slots : (turns : Round) (round : List LiveSlot) (n : ℕ) (v : LiveSlot) → Apart round → slots_of turns ≡ map ref_of round → slice_get round n ≡ Some v
    → slots_of (gave v.sub v.rank turns) ≡ (take n (map ref_of round) ++ drop (n + 1) (map ref_of round)) ++ ref_of v ∷ []
gave_slots turns round n v apart is at =
    let one = one_there round n v apart at in
    map-append (λ (s : Seat). s.slot) (filter (λ s. not (is_named v.sub v.rank s)) turns.seats) (filter (is_named v.sub v.rank) turns.seats)
    ∙ ap (λ xs. xs ++ map (λ (s : Seat). s.slot) (filter (is_named v.sub v.rank) turns.seats))
    (passing (λ s. not (is_there v.sub v.rank s)) turns.seats ∙ ap (filter (λ s. not (is_there v.sub v.rank s))) is ∙ one.0)
    ∙ ap (λ xs. (take n (map ref_of round) ++ drop (n + 1) (map ref_of round)) ++ xs)
    (passing (is_there v.sub v.rank) turns.seats ∙ ap (filter (is_there v.sub v.rank)) is ∙ one.1)

-- before it each stays at its place
before_gave : (round : List LiveSlot) (seats : List Seat) (behind : List Seat) (n i : ℕ) (v : LiveSlot) → Apart round → map (λ (s : Seat). s.slot) seats ≡ map ref_of round
    → slice_get round n ≡ Some v → i < n → slice_get (filter (λ s. not (is_named v.sub v.rank s)) seats ++ behind) i ≡ slice_get seats i
before_gave [] seats behind n i v apart is at low = absurd (let x : None ≡ Some v = at in cc)
before_gave (u ∷ round) [] behind n i v apart is at low = absurd (let x : [] ≡ ref_of u ∷ map ref_of round = is in cc)
before_gave (u ∷ round) (s ∷ seats) behind zero i v apart is at low = absurd (omega (arith, low))
before_gave (u ∷ round) (s ∷ seats) behind (suc n) i v apart is at low =
    let x : s.slot ∷ map (λ (y : Seat). y.slot) seats ≡ ref_of u ∷ map ref_of round = is in
    let here : s.slot ≡ ref_of u = cc in
    let rest : map (λ (y : Seat). y.slot) seats ≡ map ref_of round = cc in
    let away : is_at u.sub u.rank v ≡ false = each_at (λ w. is_at u.sub u.rank w ≡ false) round n v apart.0 at in
    let other : is_there v.sub v.rank s.slot ≡ false = ap (is_there v.sub v.rank) here ∙ away in
    ap (λ b. slice_get (cond (not b) (s ∷ filter (λ y. not (is_named v.sub v.rank y)) seats) (filter (λ y. not (is_named v.sub v.rank y)) seats) ++ behind) i) other
    ∙ by_place i low (λ j few. before_gave round seats behind n j v apart.1 rest at few)
  where
    by_place : (j : ℕ) → j < suc n
        → ((k : ℕ) → k < n → slice_get (filter (λ y. not (is_named v.sub v.rank y)) seats ++ behind) k ≡ slice_get seats k)
        → slice_get (s ∷ (filter (λ y. not (is_named v.sub v.rank y)) seats ++ behind)) j ≡ slice_get (s ∷ seats) j
    by_place zero few more = refl
    by_place (suc j) few more = more j (omega (arith, few))

pub gave_node : (turns : Round) (round : List LiveSlot) (n : ℕ) (v : LiveSlot) (i : ℕ) → Apart round → slots_of turns ≡ map ref_of round
    → slice_get round n ≡ Some v → i < n → node_of_place (gave v.sub v.rank turns) i ≡ node_of_place turns i
gave_node turns round n v i apart is at low =
    ap (option_map (λ (s : Seat). s.node)) (before_gave round turns.seats (filter (is_named v.sub v.rank) turns.seats) n i v apart is at low)

-- and each is seated still
kept_by : (p : Seat → Bool) (seats : List Seat) (i : ℕ) (s : Seat) → slice_get seats i ≡ Some s → p s ≡ true
    → (j : ℕ) × (slice_get (filter p seats) j ≡ Some s)
kept_by p [] i s at is = absurd (let x : None ≡ Some s = at in cc)
kept_by p (t ∷ seats) zero s at is =
    let x : Some t ≡ Some s = at in
    let same : t ≡ s = cc in
    (0, ap (λ b. slice_get (cond b (t ∷ filter p seats) (filter p seats)) 0) (ap p same ∙ is) ∙ at)
kept_by p (t ∷ seats) (suc i) s at is = by_test (p t) (kept_by p seats i s at is)
  where
    by_test : (b : Bool) → (j : ℕ) × (slice_get (filter p seats) j ≡ Some s)
        → (j : ℕ) × (slice_get (cond b (t ∷ filter p seats) (filter p seats)) j ≡ Some s)
    by_test true more = (suc more.0, more.1)
    by_test false more = more

first_of : (xs ys : List Seat) (i : ℕ) (s : Seat) → slice_get xs i ≡ Some s → slice_get (xs ++ ys) i ≡ Some s
first_of [] ys i s at = absurd (let x : None ≡ Some s = at in cc)
first_of (x ∷ xs) ys zero s at = at
first_of (x ∷ xs) ys (suc i) s at = first_of xs ys i s at

behind_of : (xs ys : List Seat) (i : ℕ) (s : Seat) → slice_get ys i ≡ Some s → (j : ℕ) × (slice_get (xs ++ ys) j ≡ Some s)
behind_of [] ys i s at = (i, at)
behind_of (x ∷ xs) ys i s at = let more = behind_of xs ys i s at in (suc more.0, more.1)

pub gave_seated : (sub place : ℕ) (turns : Round) (node : ℕ) → IsSeated turns node → IsSeated (gave sub place turns) node
gave_seated sub place turns node seat = by_test (is_named sub place seat.1) refl
  where
    by_test : (b : Bool) → is_named sub place seat.1 ≡ b → IsSeated (gave sub place turns) node
    by_test true e =
        let kept = kept_by (is_named sub place) turns.seats seat.0 seat.1 seat.2 e in
        let at = behind_of (filter (λ s. not (is_named sub place s)) turns.seats) (filter (is_named sub place) turns.seats) kept.0 seat.1 kept.1 in
        (at.0, seat.1, at.1, seat.3)
    by_test false e =
        let kept = kept_by (λ s. not (is_named sub place s)) turns.seats seat.0 seat.1 seat.2 (ap not e) in (
          kept.0,
          seat.1,
          first_of (filter (λ s. not (is_named sub place s)) turns.seats) (filter (is_named sub place) turns.seats) kept.0 seat.1 kept.1,
          seat.3,
        )

-- another frequency leaves the names
pub named_limited : (sub : ℕ) (frequency : Option ℕ) (round : List LiveSlot) → map ref_of (map (with_frequency sub frequency) round) ≡ map ref_of round
named_limited sub frequency [] = refl
named_limited sub frequency (v ∷ round) = by_test (is_live_of sub v) (named_limited sub frequency round)
  where
    by_test : (b : Bool) → map ref_of (map (with_frequency sub frequency) round) ≡ map ref_of round
        → ref_of (cond b (record v { frequency = frequency }) v) ∷ map ref_of (map (with_frequency sub frequency) round) ≡ ref_of v ∷ map ref_of round
    by_test true more = ap (λ xs. ref_of v ∷ xs) more
    by_test false more = ap (λ xs. ref_of v ∷ xs) more

-- a subscription's slots join where those of its number left
refs_few : (sub place : ℕ) (items : List PlanItem) (numbers : List ℕ) → length (refs_from sub place items numbers) ≤ length items
refs_few sub place [] numbers = omega arith
refs_few sub place (p ∷ items) [] = omega arith
refs_few sub place (p ∷ items) (n ∷ numbers) = omega (arith, refs_few sub (place + 1) items numbers)

pub joined_few : (sub : ℕ) (turns turns₁ turns₂ : Round) (items : List PlanItem) (numbers : List ℕ) → turns₁ ≡ left sub turns
    → slots_of turns₂ ≡ slots_of turns₁ ++ refs_from sub 1 items numbers → length turns₂.seats ≤ length turns.seats + length items
joined_few sub turns turns₁ turns₂ items numbers gone joined =
    omega (
      arith,
      ap (λ (t : Round). length t.seats) gone,
      left_few sub turns,
      length-map turns₂.seats (λ (s : Seat). s.slot),
      length-map turns₁.seats (λ (s : Seat). s.slot),
      ap length joined,
      length-append (slots_of turns₁) (refs_from sub 1 items numbers),
      refs_few sub 1 items numbers,
    )

-- the slots of a subscription, the first apart
pub refs_step : (sub : ℕ) (slot : SlotRef) (slots : List SlotRef) → refs_of sub (slot ∷ slots) ≡ refs_of sub (slot ∷ []) ++ refs_of sub slots
refs_step sub slot slots = by_test (sub == slot.sub)
  where
    by_test : (b : Bool) → cond b (slot ∷ refs_of sub slots) (refs_of sub slots) ≡ cond b (slot ∷ []) [] ++ refs_of sub slots
    by_test true = refl
    by_test false = refl
