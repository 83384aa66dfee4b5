-- The seat of one slot changes: the slots of a round still have their seats.
use Rattle.std.proofs.Common.{◌≡◌, ◌==◌, ◌<◌, ◌≤◌, ℕ, zero, suc, ◌+◌, ◌-◌, Bool, true, false, None, Some, List, [], ◌∷◌, ◌++◌, take, drop, refl, sym}
use Rattle.std.proofs.Common.{◌∙◌, ap, subst, arith, nat_lt, slice_get, slice_set, eq-eqb}
use Rattle.std.proofs.lemmas.Bool.{eqb-true, ltb-true, ltb-false}
use Rattle.ls_value.specs.Each.{Each}
use Rattle.ls_value.proofs.Each.{each_append}
use Rattle.ls_event.specs.declared.item.ItemDef.{ItemDef}
use Rattle.ls_record.specs.Apart.{Apart}
use Rattle.ls_record.specs.Records.{LiveSlot, change, is_at}
use Rattle.ls_record.proofs.Each.{each_at, each_take, each_drop}
use Rattle.ls_seated.specs.Seats.{SeatSeen}
use Rattle.ls_subs.proofs.Rounds.{eqb_swap}
use Rattle.ls_told.specs.Seen.{Watched}
use Rattle.ls_taking.specs.Groups.{SubSeen}
use Rattle.ls_taking.specs.Lives.{IsSeatOf, HasSeat, NoneBehind}

-- what is set stands there, and the others stay
pub get_set : {A : Type 0} (xs : List A) (n : ℕ) (a x : A) → slice_get xs n ≡ Some a → slice_get (slice_set xs n x) n ≡ Some x
get_set [] n a x is = absurd (let y : None ≡ Some a = is in cc)
get_set (y ∷ xs) zero a x is = refl
get_set (y ∷ xs) (suc n) a x is = get_set xs n a x is

pub get_other : {A : Type 0} (xs : List A) (n m : ℕ) (x : A) → (m ≡ n → ⊥) → slice_get (slice_set xs n x) m ≡ slice_get xs m
get_other [] n m x other = refl
get_other (y ∷ xs) zero zero x other = absurd (other refl)
get_other (y ∷ xs) zero (suc m) x other = refl
get_other (y ∷ xs) (suc n) zero x other = refl
get_other (y ∷ xs) (suc n) (suc m) x other = get_other xs n m x (λ e. other (ap suc e))

-- the last groups of one subscription are one
pub same_last : (subs : List SubSeen) (sub j k : ℕ) (g h : SubSeen) → slice_get subs j ≡ Some g → g.sub ≡ sub → NoneBehind subs j sub
    → slice_get subs k ≡ Some h → h.sub ≡ sub → NoneBehind subs k sub → j ≡ k
same_last subs sub j k g h there named only there' named' only' = by_tests (nat_lt j k) (nat_lt k j) refl refl
  where
    by_tests : (a b : Bool) → nat_lt j k ≡ a → nat_lt k j ≡ b → j ≡ k
    by_tests true b t u = absurd (only k h (ltb-true j k t) there' named')
    by_tests false true t u = absurd (only' j g (ltb-true k j u) there named)
    by_tests false false t u = omega (arith, ltb-false j k t, ltb-false k j u)

-- the seat of a rank, from 1, in the last group of a subscription becomes another
pub record SeatMoves (old new : List SubSeen) (sub rank : ℕ) (t u : SeatSeen) : Type 0 where
  pub place : ℕ
  pub group : SubSeen
  pub there : slice_get old place ≡ Some group
  pub named : group.sub ≡ sub
  pub only : NoneBehind old place sub
  pub some : 1 ≤ rank
  pub ranked : slice_get group.seats (rank - 1) ≡ Some t
  pub new_is : new ≡ slice_set old place (record group { seats = slice_set group.seats (rank - 1) u })

-- so no group has another name, nor another place
pub groups_stay : (old : List SubSeen) (k sub : ℕ) (g : SubSeen) (seats : List SeatSeen) → slice_get old k ≡ Some g → (n : ℕ)
    → NoneBehind old n sub → NoneBehind (slice_set old k (record g { seats = seats })) n sub
groups_stay old k sub g seats there n none =
    λ j h less at named. by_test j h less at named (j == k) refl
  where
    by_test : (j : ℕ) (h : SubSeen) → n < j → slice_get (slice_set old k (record g { seats = seats })) j ≡ Some h → h.sub ≡ sub
        → (b : Bool) → (j == k) ≡ b → ⊥
    by_test j h less at named true t =
        let same : j ≡ k = eqb-true j k t in
        let at' : slice_get (slice_set old k (record g { seats = seats })) k ≡ Some h =
        subst (λ (m : ℕ). slice_get (slice_set old k (record g { seats = seats })) m ≡ Some h) same at in
        let is : Some (record g { seats = seats }) ≡ Some h = sym (get_set old k g (record g { seats = seats }) there) ∙ at' in
        let one : record g { seats = seats } ≡ h = cc in
        none k g (omega (arith, less, same)) there (ap (λ (x : SubSeen). x.sub) one ∙ named)
    by_test j h less at named false t =
        let other : j ≡ k → ⊥ = λ e. cc (t, eq-eqb j k e) in
        none j h less (sym (get_other old k j (record g { seats = seats }) other) ∙ at) named

module _ (config : List ItemDef) (ws : List Watched) (old new : List SubSeen) (sub rank : ℕ) (t u : SeatSeen)
    (m : SeatMoves old new sub rank t u) where
  -- the slot itself has the new seat
  pub own_seat : (v : LiveSlot) → v.sub ≡ sub → v.rank ≡ rank → IsSeatOf config ws u v → HasSeat config ws new v
  own_seat v of at is =
      subst (λ (subs : List SubSeen). HasSeat config ws subs v) (sym m.new_is)
      (record {
        place = m.place;
        group = record m.group { seats = slice_set m.group.seats (rank - 1) u };
        seat = u;
        there = get_set old m.place m.group (record m.group { seats = slice_set m.group.seats (rank - 1) u }) m.there;
        named = m.named ∙ sym of;
        only = groups_stay old m.place v.sub m.group (slice_set m.group.seats (rank - 1) u) m.there m.place
            (subst (NoneBehind old m.place) (sym of) m.only);
        ranked = ap (λ (n : ℕ). slice_get (slice_set m.group.seats (rank - 1) u) (n - 1)) at
            ∙ get_set m.group.seats (rank - 1) t u m.ranked;
        of = is;
      })

  -- each other slot has the one that it had
  pub other_seat : (v : LiveSlot) → is_at sub rank v ≡ false → HasSeat config ws old v → HasSeat config ws new v
  other_seat v away h =
      subst (λ (subs : List SubSeen). HasSeat config ws subs v) (sym m.new_is) (by_group (h.place == m.place) refl)
    where
      only : NoneBehind (slice_set old m.place (record m.group { seats = slice_set m.group.seats (rank - 1) u })) h.place v.sub
      only = groups_stay old m.place v.sub m.group (slice_set m.group.seats (rank - 1) u) m.there h.place h.only

      by_group : (b : Bool) → (h.place == m.place) ≡ b
          → HasSeat config ws (slice_set old m.place (record m.group { seats = slice_set m.group.seats (rank - 1) u })) v
      by_group true e =
          let same : h.place ≡ m.place = eqb-true h.place m.place e in
          let is : Some h.group ≡ Some m.group = sym h.there ∙ (ap (slice_get old) same ∙ m.there) in
          let one : h.group ≡ m.group = cc in
          let named : v.sub ≡ sub = sym h.named ∙ (ap (λ (x : SubSeen). x.sub) one ∙ m.named) in
          let apart : v.rank - 1 ≡ rank - 1 → ⊥ =
          λ (x : v.rank - 1 ≡ rank - 1).
          let ranks : v.rank ≡ rank = omega (arith, x, m.some, h.of.rank) in
          cc (away, eq-eqb sub v.sub (sym named), eq-eqb rank v.rank (sym ranks)) in
          record {
            place = h.place;
            group = record m.group { seats = slice_set m.group.seats (rank - 1) u };
            seat = h.seat;
            there = ap (slice_get (slice_set old m.place (record m.group { seats = slice_set m.group.seats (rank - 1) u }))) same
                ∙ get_set old m.place m.group (record m.group { seats = slice_set m.group.seats (rank - 1) u }) m.there;
            named = ap (λ (x : SubSeen). x.sub) (sym one) ∙ h.named;
            only = only;
            ranked = get_other m.group.seats (rank - 1) (v.rank - 1) u apart
                ∙ (ap (λ (x : SubSeen). slice_get x.seats (v.rank - 1)) (sym one) ∙ h.ranked);
            of = h.of;
          }
      by_group false e =
          let other : h.place ≡ m.place → ⊥ = λ x. cc (e, eq-eqb h.place m.place x) in
          record {
            place = h.place;
            group = h.group;
            seat = h.seat;
            there = get_other old m.place h.place (record m.group { seats = slice_set m.group.seats (rank - 1) u }) other ∙ h.there;
            named = h.named;
            only = only;
            ranked = h.ranked;
            of = h.of;
          }

away_swap : (v u : LiveSlot) → is_at v.sub v.rank u ≡ false → is_at u.sub u.rank v ≡ false
away_swap v u h = rw (eqb_swap u.sub v.sub, eqb_swap u.rank v.rank) h

-- the slot of a place changes but for its name, and all have their seats
pub each_moved : (P Q : LiveSlot → Type 0) (f : LiveSlot → LiveSlot) (n : ℕ) (vs : List LiveSlot) (v : LiveSlot) → Apart vs
    → slice_get vs n ≡ Some v → ((w : LiveSlot) → is_at v.sub v.rank w ≡ false → P w → Q w) → Q (f v) → Each P vs
    → Each Q (change n f vs)
each_moved P Q f n [] v a is others own e = tt
each_moved P Q f zero (u ∷ vs) v a is others own e =
    let same : u ≡ v = cc in (
      subst (λ (x : LiveSlot). Q (f x)) (sym same) own,
      each_away vs (subst (λ (x : LiveSlot). Each (λ y. is_at x.sub x.rank y ≡ false) vs) same a.0) e.1,
    )
  where
    each_away : (ws : List LiveSlot) → Each (λ y. is_at v.sub v.rank y ≡ false) ws → Each P ws → Each Q ws
    each_away [] away p = tt
    each_away (w ∷ ws) away p = (others w away.0 p.0, each_away ws away.1 p.1)
each_moved P Q f (suc n) (u ∷ vs) v a is others own e = (
  others u (away_swap u v (each_at (λ y. is_at u.sub u.rank y ≡ false) n v vs is a.0)) e.0,
  each_moved P Q f n vs v a.1 is others own e.1,
)

-- it goes to the back
take_changed : {A : Type 0} (f : A → A) (n : ℕ) (xs : List A) → take n (change n f xs) ≡ take n xs
take_changed f zero xs = refl
take_changed f (suc n) [] = refl
take_changed f (suc n) (x ∷ xs) = ap (λ l. x ∷ l) (take_changed f n xs)

drop_changed : {A : Type 0} (f : A → A) (n : ℕ) (xs : List A) → drop (suc n) (change n f xs) ≡ drop (suc n) xs
drop_changed f n [] = refl
drop_changed f zero (x ∷ xs) = refl
drop_changed f (suc n) (x ∷ xs) = drop_changed f n xs

pub each_back : (Q : LiveSlot → Type 0) (f : LiveSlot → LiveSlot) (n : ℕ) (vs : List LiveSlot) (w : LiveSlot) → Each Q (change n f vs) → Q w
    → Each Q ((take n vs ++ drop (n + 1) vs) ++ w ∷ [])
each_back Q f n vs w e own =
    let before = subst (Each Q) (take_changed f n vs) (each_take Q n (change n f vs) e) in
    let behind = subst (Each Q) (drop_changed f n vs) (each_drop Q (suc n) (change n f vs) e) in
    let behind' : Each Q (drop (n + 1) vs) = subst (λ (k : ℕ). Each Q (drop k vs)) {x = suc n} {y = n + 1} (omega arith) behind in
    each_append Q (take n vs ++ drop (n + 1) vs) (w ∷ []) (each_append Q (take n vs) (drop (n + 1) vs) before behind') (own, tt)
