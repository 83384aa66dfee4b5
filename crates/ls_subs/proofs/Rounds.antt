-- The slots of a round by subscription and rank, as the round changes.
use Rattle.std.proofs.Common.{◌≡◌, ◌==◌, ℕ, ◌+◌, ◌<◌, List, [], ◌∷◌, ◌++◌, refl, sym, ◌∙◌, ap, arith, subst, cond, Bool, true, false}
use Rattle.std.proofs.Common.{◌&&◌, ◌||◌, Some, None, if◌then◌else◌}
use Rattle.std.proofs.lemmas.Bool.{eqb-true, eq-eqb, ne_eqb}
use Rattle.std.proofs.lemmas.Bool.Decides.{nat_tests}
use Rattle.std.proofs.lemmas.List.Sums.{sum_by-cons}
use Rattle.ls_record.specs.Records.{LiveSlot, is_at, is_of, is_used, live_at, without}
use Rattle.ls_record.specs.Acting.{subscriptions}
use Rattle.ls_value.specs.Each.{Each}
use Rattle.ls_record.specs.Apart.{Apart}
use Rattle.ls_value.proofs.Each.{each_append}

-- whether a slot is the first of its subscription, as a number
abbrev pub first : LiveSlot → ℕ
first v = if v.rank == 1 then 1 else 0

pub eqb_self : (n : ℕ) → (n == n) ≡ true
eqb_self n = eq-eqb n n refl

pub eqb_swap : (m n : ℕ) → (m == n) ≡ (n == m)
eqb_swap m n = grind (arith, nat_tests)

pub and_true : (a b : Bool) → (a && b) ≡ true → (a ≡ true) × (b ≡ true)
and_true true b h = (refl, h)
and_true false b h = absurd (let x : false ≡ true = h in cc)

pub both_true : (a b : Bool) → a ≡ true → b ≡ true → (a && b) ≡ true
both_true true b h i = i
both_true false b h i = h

pub and_false : (a b : Bool) → a ≡ false → (a && b) ≡ false
and_false true b h = absurd (let x : true ≡ false = h in cc)
and_false false b h = refl

pub and_false_right : (a b : Bool) → b ≡ false → (a && b) ≡ false
and_false_right true b h = h
and_false_right false b h = refl

pub or_false : (a b : Bool) → (a || b) ≡ false → (a ≡ false) × (b ≡ false)
or_false true b h = absurd (let x : true ≡ false = h in cc)
or_false false b h = (refl, h)

-- a slot that is found is of the subscription and the rank
pub found_at : (sub rank : ℕ) (vs : List LiveSlot) (v : LiveSlot) → live_at sub rank vs ≡ Some v → is_at sub rank v ≡ true
found_at sub rank [] v e = absurd (let x : None ≡ Some v = e in cc)
found_at sub rank (u ∷ vs) v e = by_test (is_at sub rank u) refl e (found_at sub rank vs v)
  where
    by_test : (b : Bool) → is_at sub rank u ≡ b → cond b (Some u) (live_at sub rank vs) ≡ Some v
        → (live_at sub rank vs ≡ Some v → is_at sub rank v ≡ true) → is_at sub rank v ≡ true
    by_test true t f rest =
        let same : u ≡ v = cc in
        subst (λ (x : LiveSlot). is_at sub rank x ≡ true) same t
    by_test false t f rest = rest f

pub found_is : (sub rank : ℕ) (vs : List LiveSlot) (v : LiveSlot) → live_at sub rank vs ≡ Some v → (sub ≡ v.sub) × (rank ≡ v.rank)
found_is sub rank vs v e =
    let both = and_true (sub == v.sub) (rank == v.rank) (found_at sub rank vs v e) in
    (eqb-true sub v.sub both.0, eqb-true rank v.rank both.1)

-- where none is found, none is of the subscription and the rank
pub none_at : (sub rank : ℕ) (vs : List LiveSlot) → live_at sub rank vs ≡ None → Each (λ u. is_at sub rank u ≡ false) vs
none_at sub rank [] e = tt
none_at sub rank (u ∷ vs) e = by_test (is_at sub rank u) refl e (none_at sub rank vs)
  where
    by_test : (b : Bool) → is_at sub rank u ≡ b → cond b (Some u) (live_at sub rank vs) ≡ None
        → (live_at sub rank vs ≡ None → Each (λ x. is_at sub rank x ≡ false) vs) → Each (λ x. is_at sub rank x ≡ false) (u ∷ vs)
    by_test true t f rest = absurd (let x : Some u ≡ None = f in cc)
    by_test false t f rest = (t, rest f)

pub at_none : (sub rank : ℕ) (vs : List LiveSlot) → Each (λ u. is_at sub rank u ≡ false) vs → live_at sub rank vs ≡ None
at_none sub rank [] e = refl
at_none sub rank (u ∷ vs) e = ap (λ b. cond b (Some u) (live_at sub rank vs)) e.0 ∙ at_none sub rank vs e.1

-- a subscription without slots
pub unused_none : (sub rank : ℕ) (vs : List LiveSlot) → is_used sub vs ≡ false → live_at sub rank vs ≡ None
unused_none sub rank [] h = refl
unused_none sub rank (u ∷ vs) h =
    let both = or_false (is_of sub u) (is_used sub vs) h in
    ap (λ b. cond b (Some u) (live_at sub rank vs)) (and_false (sub == u.sub) (rank == u.rank) both.0) ∙ unused_none sub rank vs both.1

-- a slot of a subscription that has one
pub used_rank : (sub : ℕ) (vs : List LiveSlot) → is_used sub vs ≡ true → (rank : ℕ) × ((v : LiveSlot) × (live_at sub rank vs ≡ Some v))
used_rank sub [] h = absurd (let x : false ≡ true = h in cc)
used_rank sub (u ∷ vs) h = by_test (is_of sub u) refl h (used_rank sub vs)
  where
    by_test : (b : Bool) → is_of sub u ≡ b → (b || is_used sub vs) ≡ true
        → (is_used sub vs ≡ true → (rank : ℕ) × ((v : LiveSlot) × (live_at sub rank vs ≡ Some v)))
        → (rank : ℕ) × ((v : LiveSlot) × (live_at sub rank (u ∷ vs) ≡ Some v))
    by_test true t f more = (
      u.rank,
      (
        u,
        ap (λ b. cond (b && (u.rank == u.rank)) (Some u) (live_at sub u.rank vs)) t
            ∙ ap (λ b. cond b (Some u) (live_at sub u.rank vs)) (eqb_self u.rank),
      ),
    )
    by_test false t f more =
        let rest = more f in
        (rest.0, (rest.1.0, ap (λ b. cond (b && (rest.0 == u.rank)) (Some u) (live_at sub rest.0 vs)) t ∙ rest.1.1))

-- the slots of other subscriptions
pub without_gone : (sub q rank : ℕ) (vs : List LiveSlot) → (sub == q) ≡ true → live_at q rank (without sub vs) ≡ None
without_gone sub q rank [] same = refl
without_gone sub q rank (u ∷ vs) same = by_test (is_of sub u) refl (without_gone sub q rank vs same)
  where
    by_test : (b : Bool) → is_of sub u ≡ b → live_at q rank (without sub vs) ≡ None
        → live_at q rank (cond b (without sub vs) (u ∷ without sub vs)) ≡ None
    by_test true t rest = rest
    by_test false t rest = ap (λ b. cond b (Some u) (live_at q rank (without sub vs)))
        (and_false (q == u.sub) (rank == u.rank) (subst (λ n. (n == u.sub) ≡ false) (eqb-true sub q same) t))
        ∙ rest

pub without_other : (sub q rank : ℕ) (vs : List LiveSlot) → (sub == q) ≡ false → live_at q rank (without sub vs) ≡ live_at q rank vs
without_other sub q rank [] other = refl
without_other sub q rank (u ∷ vs) other = by_test (is_of sub u) refl (without_other sub q rank vs other)
  where
    by_test : (b : Bool) → is_of sub u ≡ b → live_at q rank (without sub vs) ≡ live_at q rank vs
        → live_at q rank (cond b (without sub vs) (u ∷ without sub vs)) ≡ live_at q rank (u ∷ vs)
    by_test true t rest = rest ∙ sym (ap (λ b. cond b (Some u) (live_at q rank vs))
        (and_false (q == u.sub) (rank == u.rank) (subst (λ n. (q == n) ≡ false) (eqb-true sub u.sub t) (eqb_swap q sub ∙ other))))
    by_test false t rest = ap (λ o. cond (is_at q rank u) (Some u) o) rest

pub without_used : (sub q : ℕ) (vs : List LiveSlot) → is_used q (without sub vs) ≡ cond (sub == q) false (is_used q vs)
without_used sub q [] = by_test (sub == q)
  where
    by_test : (b : Bool) → false ≡ cond b false false
    by_test true = refl
    by_test false = refl
without_used sub q (u ∷ vs) = by_test (is_of sub u) (sub == q) refl refl (without_used sub q vs)
  where
    by_test : (b c : Bool) → is_of sub u ≡ b → (sub == q) ≡ c → is_used q (without sub vs) ≡ cond c false (is_used q vs)
        → is_used q (cond b (without sub vs) (u ∷ without sub vs)) ≡ cond c false (is_of q u || is_used q vs)
    by_test true true t s rest = rest
    by_test true false t s rest = rest ∙ sym (ap (λ b. b || is_used q vs) (subst (λ n. (q == n) ≡ false) (eqb-true sub u.sub t) (eqb_swap q sub ∙ s)))
    by_test false true t s rest = ap (λ b. b || is_used q (without sub vs)) (subst (λ n. (n == u.sub) ≡ false) (eqb-true sub q s) t) ∙ rest
    by_test false false t s rest = ap (λ b. is_of q u || b) rest

pub each_without : (P : LiveSlot → Type 0) (sub : ℕ) (vs : List LiveSlot) → Each P vs → Each P (without sub vs)
each_without P sub [] e = tt
each_without P sub (u ∷ vs) e = by_test (is_of sub u) (each_without P sub vs e.1)
  where
    by_test : (b : Bool) → Each P (without sub vs) → Each P (cond b (without sub vs) (u ∷ without sub vs))
    by_test true rest = rest
    by_test false rest = (e.0, rest)

pub apart_without : (sub : ℕ) (vs : List LiveSlot) → Apart vs → Apart (without sub vs)
apart_without sub [] a = tt
apart_without sub (u ∷ vs) a = by_test (is_of sub u) (apart_without sub vs a.1)
  where
    by_test : (b : Bool) → Apart (without sub vs) → Apart (cond b (without sub vs) (u ∷ without sub vs))
    by_test true rest = rest
    by_test false rest = (each_without (λ x. is_at u.sub u.rank x ≡ false) sub vs a.0, rest)

-- how many subscriptions are left
pub subscriptions_cons : (v : LiveSlot) (vs : List LiveSlot) → subscriptions (v ∷ vs) ≡ first v + subscriptions vs
subscriptions_cons v vs = sum_by-cons first v vs

pub without_none : (sub : ℕ) (vs : List LiveSlot) → Each (λ u. is_at sub 1 u ≡ false) vs → subscriptions (without sub vs) ≡ subscriptions vs
without_none sub [] e = refl
without_none sub (u ∷ vs) e = by_test (is_of sub u) refl e.0 (without_none sub vs e.1)
  where
    by_test : (b : Bool) → is_of sub u ≡ b → (b && (1 == u.rank)) ≡ false → subscriptions (without sub vs) ≡ subscriptions vs
        → subscriptions (cond b (without sub vs) (u ∷ without sub vs)) ≡ subscriptions (u ∷ vs)
    by_test true t f rest =
        let here : subscriptions (u ∷ vs) ≡ 0 + subscriptions vs = subscriptions_cons u vs ∙ ap (λ b. cond b 1 0 + subscriptions vs) (eqb_swap u.rank 1 ∙ f) in
        omega (arith, here, rest)
    by_test false t f rest = subscriptions_cons u (without sub vs) ∙ ap (λ n. first u + n) rest ∙ sym (subscriptions_cons u vs)

pub without_one : (sub : ℕ) (vs : List LiveSlot) (v : LiveSlot) → Apart vs → live_at sub 1 vs ≡ Some v → subscriptions (without sub vs) + 1 ≡ subscriptions vs
without_one sub [] v a e = absurd (let x : None ≡ Some v = e in cc)
without_one sub (u ∷ vs) v a e = by_test (is_of sub u) (1 == u.rank) refl refl e (without_one sub vs v a.1)
  where
    by_test : (b c : Bool) → is_of sub u ≡ b → (1 == u.rank) ≡ c → cond (b && c) (Some u) (live_at sub 1 vs) ≡ Some v
        → (live_at sub 1 vs ≡ Some v → subscriptions (without sub vs) + 1 ≡ subscriptions vs)
        → subscriptions (cond b (without sub vs) (u ∷ without sub vs)) + 1 ≡ subscriptions (u ∷ vs)
    by_test true true t s f more =
        let others : Each (λ x. is_at sub 1 x ≡ false) vs = subst (λ n. Each (λ x. is_at sub n x ≡ false) vs) (sym (eqb-true 1 u.rank s))
        (subst (λ n. Each (λ x. is_at n u.rank x ≡ false) vs) (sym (eqb-true sub u.sub t)) a.0) in
        let here : subscriptions (u ∷ vs) ≡ 1 + subscriptions vs = subscriptions_cons u vs ∙ ap (λ b. cond b 1 0 + subscriptions vs) (eqb_swap u.rank 1 ∙ s) in
        let rest : subscriptions (without sub vs) ≡ subscriptions vs = without_none sub vs others in
        omega (arith, here, rest)
    by_test true false t s f more =
        let here : subscriptions (u ∷ vs) ≡ 0 + subscriptions vs = subscriptions_cons u vs ∙ ap (λ b. cond b 1 0 + subscriptions vs) (eqb_swap u.rank 1 ∙ s) in
        let rest : subscriptions (without sub vs) + 1 ≡ subscriptions vs = more f in
        omega (arith, here, rest)
    by_test false c t s f more =
        let here : subscriptions (u ∷ vs) ≡ first u + subscriptions vs = subscriptions_cons u vs in
        let left : subscriptions (u ∷ without sub vs) ≡ first u + subscriptions (without sub vs) = subscriptions_cons u (without sub vs) in
        let rest : subscriptions (without sub vs) + 1 ≡ subscriptions vs = more f in
        omega (arith, here, left, rest)

-- a round with more slots at its end
pub behind_none : (sub rank : ℕ) (vs us : List LiveSlot) → live_at sub rank vs ≡ None → live_at sub rank (vs ++ us) ≡ live_at sub rank us
behind_none sub rank [] us e = refl
behind_none sub rank (v ∷ vs) us e =
    let none = none_at sub rank (v ∷ vs) e in
    ap (λ b. cond b (Some v) (live_at sub rank (vs ++ us))) none.0 ∙ behind_none sub rank vs us (at_none sub rank vs none.1)

pub before_none : (sub rank : ℕ) (vs us : List LiveSlot) → live_at sub rank us ≡ None → live_at sub rank (vs ++ us) ≡ live_at sub rank vs
before_none sub rank [] us e = e
before_none sub rank (v ∷ vs) us e = ap (λ o. cond (is_at sub rank v) (Some v) o) (before_none sub rank vs us e)

pub used_append : (sub : ℕ) (vs us : List LiveSlot) → is_used sub (vs ++ us) ≡ (is_used sub vs || is_used sub us)
used_append sub [] us = refl
used_append sub (v ∷ vs) us = by_test (is_of sub v) (used_append sub vs us)
  where
    by_test : (b : Bool) → is_used sub (vs ++ us) ≡ (is_used sub vs || is_used sub us)
        → (b || is_used sub (vs ++ us)) ≡ ((b || is_used sub vs) || is_used sub us)
    by_test true rest = refl
    by_test false rest = rest

pub apart_append : (vs us : List LiveSlot) → Apart vs → Apart us → Each (λ v. Each (λ u. is_at v.sub v.rank u ≡ false) us) vs → Apart (vs ++ us)
apart_append [] us a b c = b
apart_append (v ∷ vs) us a b c = (each_append (λ u. is_at v.sub v.rank u ≡ false) vs us a.0 c.0, apart_append vs us a.1 b c.1)

pub subscriptions_append : (vs us : List LiveSlot) → subscriptions (vs ++ us) ≡ subscriptions vs + subscriptions us
subscriptions_append [] us = omega arith
subscriptions_append (v ∷ vs) us =
    let whole = subscriptions_cons v (vs ++ us) in
    let part = subscriptions_cons v vs in
    let rest = subscriptions_append vs us in
    omega (arith, whole, part, rest)

-- slots of a subscription whose ranks count on
abbrev pub AreSlots : ℕ → ℕ → List LiveSlot → Type 0
AreSlots sub rank [] = Unit {0}
AreSlots sub rank (v ∷ vs) = (v.sub ≡ sub) × (v.rank ≡ rank) × AreSlots sub (rank + 1) vs

pub slots_below : (sub q low rank : ℕ) (vs : List LiveSlot) → AreSlots sub rank vs → low < rank → live_at q low vs ≡ None
slots_below sub q low rank [] s l = refl
slots_below sub q low rank (v ∷ vs) s l =
    ap (λ b. cond b (Some v) (live_at q low vs)) (and_false_right (q == v.sub) (low == v.rank) (ne_eqb low v.rank (λ e. absurd (omega (arith, e, l, s.1)))))
    ∙ slots_below sub q low (rank + 1) vs s.2 (omega (arith, l))

pub slots_unused : (sub q rank : ℕ) (vs : List LiveSlot) → AreSlots sub rank vs → (sub == q) ≡ false → is_used q vs ≡ false
slots_unused sub q rank [] s other = refl
slots_unused sub q rank (v ∷ vs) s other = ap (λ b. b || is_used q vs) (subst (λ n. (q == n) ≡ false) (sym s.0) (eqb_swap q sub ∙ other))
    ∙ slots_unused sub q (rank + 1) vs s.2 other

pub slots_apart : (sub rank : ℕ) (vs : List LiveSlot) → AreSlots sub rank vs → Apart vs
slots_apart sub rank [] s = tt
slots_apart sub rank (v ∷ vs) s = (
  none_at v.sub v.rank vs (slots_below sub v.sub v.rank (rank + 1) vs s.2 (omega (arith, s.1))),
  slots_apart sub (rank + 1) vs s.2,
)

pub slots_later : (sub rank : ℕ) (vs : List LiveSlot) → AreSlots sub rank vs → 1 < rank → subscriptions vs ≡ 0
slots_later sub rank [] s l = refl
slots_later sub rank (v ∷ vs) s l =
    let here : subscriptions (v ∷ vs) ≡ 0 + subscriptions vs =
    subscriptions_cons v vs ∙ ap (λ b. cond b 1 0 + subscriptions vs) (ne_eqb v.rank 1 (λ e. absurd (omega (arith, e, l, s.1)))) in
    let rest : subscriptions vs ≡ 0 = slots_later sub (rank + 1) vs s.2 (omega (arith, l)) in
    omega (arith, here, rest)

pub slots_one : (sub : ℕ) (v : LiveSlot) (vs : List LiveSlot) → AreSlots sub 1 (v ∷ vs) → subscriptions (v ∷ vs) ≡ 1
slots_one sub v vs s =
    subscriptions_cons v vs ∙ ap (λ b. cond b 1 0 + subscriptions vs) (eq-eqb v.rank 1 s.1) ∙ ap (λ n. 1 + n) (slots_later sub 2 vs s.2 (omega arith))

-- slots of an unused subscription stand apart from all
pub unused_apart : (sub rank : ℕ) (round vs : List LiveSlot) → is_used sub round ≡ false → AreSlots sub rank vs
    → Each (λ v. Each (λ u. is_at v.sub v.rank u ≡ false) vs) round
unused_apart sub rank [] vs h s = tt
unused_apart sub rank (v ∷ round) vs h s =
    let both = or_false (is_of sub v) (is_used sub round) h in
    (none_at v.sub v.rank vs (unused_none v.sub v.rank vs (slots_unused sub v.sub rank vs s both.0)), unused_apart sub rank round vs both.1 s)
