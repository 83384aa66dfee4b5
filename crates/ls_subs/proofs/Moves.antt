-- A round whose slot of a place was moved past a cut: it stays there, or goes to the back.
use Rattle.std.proofs.Common.{◌≡◌, ◌==◌, ℕ, zero, suc, ◌+◌, List, [], ◌∷◌, ◌++◌, take, drop, refl, sym, ◌∙◌, ap, arith, subst, cond, Bool, true, false}
use Rattle.std.proofs.Common.{◌||◌, Some, None, slice_get}
use Rattle.std.proofs.lemmas.Bool.{eqb-true}
use Rattle.ls_event.specs.declared.event.Taken.{Taken}
use Rattle.ls_record.specs.Records.{LiveSlot, is_at, is_of, is_used, live_at}
use Rattle.ls_record.specs.Acting.{subscriptions}
use Rattle.ls_value.specs.Each.{Each}
use Rattle.ls_record.specs.Apart.{Apart}
use Rattle.ls_record.proofs.Each.{each_map, each_at}
use Rattle.ls_subs.specs.Standing.{passed_live, passed_at, passed_back}
use Rattle.ls_subs.proofs.Rounds.{first, eqb_self, eqb_swap, and_true, at_none, behind_none, before_none, used_append, apart_append, subscriptions_cons}
use Rattle.ls_subs.proofs.Rounds.{subscriptions_append}

-- a round in which a slot became another of its subscription and rank
pub record Moved (round round' : List LiveSlot) (v w : LiveSlot) : Type 0 where
  pub apart : Apart round'
  pub at : (sub rank : ℕ) → live_at sub rank round' ≡ cond (is_at sub rank v) (Some w) (live_at sub rank round)
  pub used : (sub : ℕ) → is_used sub round' ≡ is_used sub round
  pub count : subscriptions round' ≡ subscriptions round

is_at_swap : (v u : LiveSlot) → is_at v.sub v.rank u ≡ false → is_at u.sub u.rank v ≡ false
is_at_swap v u h = rw (eqb_swap u.sub v.sub, eqb_swap u.rank v.rank) h

-- a slot that stands apart from one of a subscription and a rank is of another
apart_from : (sub rank : ℕ) (u v : LiveSlot) → is_at sub rank u ≡ true → is_at u.sub u.rank v ≡ false → is_at sub rank v ≡ false
apart_from sub rank u v here away =
    let both = and_true (sub == u.sub) (rank == u.rank) here in
    subst (λ n. is_at n rank v ≡ false) (sym (eqb-true sub u.sub both.0))
    (subst (λ n. is_at u.sub n v ≡ false) (sym (eqb-true rank u.rank both.1)) away)

each_apart_from : (sub rank : ℕ) (u : LiveSlot) (vs : List LiveSlot) → is_at sub rank u ≡ true → Each (λ x. is_at u.sub u.rank x ≡ false) vs
    → live_at sub rank vs ≡ None
each_apart_from sub rank u vs here away = at_none sub rank vs
    (each_map (λ x. is_at u.sub u.rank x ≡ false) (λ x. is_at sub rank x ≡ false) vs (λ x h. apart_from sub rank u x here h) away)

-- the slot of a place of a round is found by its subscription and rank
pub found_live : (n : ℕ) (round : List LiveSlot) (v : LiveSlot) → Apart round → slice_get round n ≡ Some v → live_at v.sub v.rank round ≡ Some v
found_live n [] v a is = absurd (let x : None ≡ Some v = is in cc)
found_live zero (u ∷ vs) v a is =
    let same : u ≡ v = cc in
    subst (λ (x : LiveSlot). live_at x.sub x.rank (u ∷ vs) ≡ Some x) same (here (is_at u.sub u.rank u) (self u))
  where
    self : (x : LiveSlot) → is_at x.sub x.rank x ≡ true
    self x = rw (eqb_self x.sub, eqb_self x.rank) refl

    here : (b : Bool) → b ≡ true → cond b (Some u) (live_at u.sub u.rank vs) ≡ Some u
    here true t = refl
    here false t = absurd (let x : false ≡ true = t in cc)
found_live (suc n) (u ∷ vs) v a is =
    let away : is_at v.sub v.rank u ≡ false = is_at_swap u v (each_at (λ x. is_at u.sub u.rank x ≡ false) n v vs is a.0) in
    ap (λ b. cond b (Some u) (live_at v.sub v.rank vs)) away ∙ found_live n vs v a.1 is

-- it stays at its place
each_stays : (P : LiveSlot → Type 0) (t : Taken) (n : ℕ) (vs : List LiveSlot) → ((x : LiveSlot) → P x → P (passed_live t x)) → Each P vs → Each P (passed_at n t vs)
each_stays P t n [] f e = tt
each_stays P t zero (u ∷ vs) f e = (f u e.0, e.1)
each_stays P t (suc n) (u ∷ vs) f e = (e.0, each_stays P t n vs f e.1)

stays_apart : (t : Taken) (n : ℕ) (vs : List LiveSlot) → Apart vs → Apart (passed_at n t vs)
stays_apart t n [] a = tt
stays_apart t zero (u ∷ vs) a = a
stays_apart t (suc n) (u ∷ vs) a = (each_stays (λ x. is_at u.sub u.rank x ≡ false) t n vs (λ x h. h) a.0, stays_apart t n vs a.1)

stays_at : (t : Taken) (n : ℕ) (vs : List LiveSlot) (v : LiveSlot) → Apart vs → slice_get vs n ≡ Some v → (sub rank : ℕ)
    → live_at sub rank (passed_at n t vs) ≡ cond (is_at sub rank v) (Some (passed_live t v)) (live_at sub rank vs)
stays_at t n [] v a is sub rank = absurd (let x : None ≡ Some v = is in cc)
stays_at t zero (u ∷ vs) v a is sub rank =
    let same : u ≡ v = cc in
    subst (λ (x : LiveSlot). cond (is_at sub rank u) (Some (passed_live t u)) (live_at sub rank vs)
    ≡ cond (is_at sub rank x) (Some (passed_live t x)) (cond (is_at sub rank u) (Some u) (live_at sub rank vs))) same (by_test (is_at sub rank u))
  where
    by_test : (b : Bool) → cond b (Some (passed_live t u)) (live_at sub rank vs)
        ≡ cond b (Some (passed_live t u)) (cond b (Some u) (live_at sub rank vs))
    by_test true = refl
    by_test false = refl
stays_at t (suc n) (u ∷ vs) v a is sub rank =
    by_test (is_at sub rank u) refl (stays_at t n vs v a.1 is sub rank) (each_at (λ x. is_at u.sub u.rank x ≡ false) n v vs is a.0)
  where
    by_test : (b : Bool) → is_at sub rank u ≡ b
        → live_at sub rank (passed_at n t vs) ≡ cond (is_at sub rank v) (Some (passed_live t v)) (live_at sub rank vs)
        → is_at u.sub u.rank v ≡ false
        → cond b (Some u) (live_at sub rank (passed_at n t vs)) ≡ cond (is_at sub rank v) (Some (passed_live t v)) (cond b (Some u) (live_at sub rank vs))
    by_test true here rest away = sym (ap (λ c. cond c (Some (passed_live t v)) (Some u)) (apart_from sub rank u v here away))
    by_test false other rest away = rest

stays_used : (t : Taken) (n : ℕ) (vs : List LiveSlot) (sub : ℕ) → is_used sub (passed_at n t vs) ≡ is_used sub vs
stays_used t n [] sub = refl
stays_used t zero (u ∷ vs) sub = refl
stays_used t (suc n) (u ∷ vs) sub = ap (λ b. is_of sub u || b) (stays_used t n vs sub)

stays_count : (t : Taken) (n : ℕ) (vs : List LiveSlot) → subscriptions (passed_at n t vs) ≡ subscriptions vs
stays_count t n [] = refl
stays_count t zero (u ∷ vs) = subscriptions_cons (passed_live t u) vs ∙ sym (subscriptions_cons u vs)
stays_count t (suc n) (u ∷ vs) = subscriptions_cons u (passed_at n t vs) ∙ ap (λ m. first u + m) (stays_count t n vs) ∙ sym (subscriptions_cons u vs)

pub moved_at : (t : Taken) (n : ℕ) (vs : List LiveSlot) (v : LiveSlot) → Apart vs → slice_get vs n ≡ Some v → Moved vs (passed_at n t vs) v (passed_live t v)
moved_at t n vs v a is =
    record { apart = stays_apart t n vs a; at = stays_at t n vs v a is; used = stays_used t n vs; count = stays_count t n vs }

-- a round without the slot of a place
abbrev out_of : ℕ → List LiveSlot → List LiveSlot
out_of n vs = take n vs ++ drop (suc n) vs

each_out : (P : LiveSlot → Type 0) (n : ℕ) (vs : List LiveSlot) → Each P vs → Each P (out_of n vs)
each_out P zero [] e = tt
each_out P (suc n) [] e = tt
each_out P zero (u ∷ vs) e = e.1
each_out P (suc n) (u ∷ vs) e = (e.0, each_out P n vs e.1)

out_apart : (n : ℕ) (vs : List LiveSlot) → Apart vs → Apart (out_of n vs)
out_apart zero [] a = tt
out_apart (suc n) [] a = tt
out_apart zero (u ∷ vs) a = a.1
out_apart (suc n) (u ∷ vs) a = (each_out (λ x. is_at u.sub u.rank x ≡ false) n vs a.0, out_apart n vs a.1)

out_away : (n : ℕ) (vs : List LiveSlot) (v : LiveSlot) → Apart vs → slice_get vs n ≡ Some v → Each (λ u. is_at u.sub u.rank v ≡ false) (out_of n vs)
out_away n [] v a is = absurd (let x : None ≡ Some v = is in cc)
out_away zero (u ∷ vs) v a is =
    let same : u ≡ v = cc in
    each_map (λ x. is_at v.sub v.rank x ≡ false) (λ x. is_at x.sub x.rank v ≡ false) vs (λ x h. is_at_swap v x h)
    (subst (λ (y : LiveSlot). Each (λ x. is_at y.sub y.rank x ≡ false) vs) same a.0)
out_away (suc n) (u ∷ vs) v a is = (each_at (λ x. is_at u.sub u.rank x ≡ false) n v vs is a.0, out_away n vs v a.1 is)

out_at : (n : ℕ) (vs : List LiveSlot) (v : LiveSlot) → Apart vs → slice_get vs n ≡ Some v → (sub rank : ℕ)
    → live_at sub rank (out_of n vs) ≡ cond (is_at sub rank v) None (live_at sub rank vs)
out_at n [] v a is sub rank = absurd (let x : None ≡ Some v = is in cc)
out_at zero (u ∷ vs) v a is sub rank =
    let same : u ≡ v = cc in
    subst (λ (x : LiveSlot). live_at sub rank vs ≡ cond (is_at sub rank x) None (cond (is_at sub rank u) (Some u) (live_at sub rank vs))) same
    (by_test (is_at sub rank u) refl)
  where
    by_test : (b : Bool) → is_at sub rank u ≡ b → live_at sub rank vs ≡ cond b None (cond b (Some u) (live_at sub rank vs))
    by_test true here = each_apart_from sub rank u vs here a.0
    by_test false other = refl
out_at (suc n) (u ∷ vs) v a is sub rank =
    by_test (is_at sub rank u) refl (out_at n vs v a.1 is sub rank) (each_at (λ x. is_at u.sub u.rank x ≡ false) n v vs is a.0)
  where
    by_test : (b : Bool) → is_at sub rank u ≡ b → live_at sub rank (out_of n vs) ≡ cond (is_at sub rank v) None (live_at sub rank vs)
        → is_at u.sub u.rank v ≡ false
        → cond b (Some u) (live_at sub rank (out_of n vs)) ≡ cond (is_at sub rank v) None (cond b (Some u) (live_at sub rank vs))
    by_test true here rest away = sym (ap (λ c. cond c None (Some u)) (apart_from sub rank u v here away))
    by_test false other rest away = rest

or_swap : (a b c : Bool) → (a || (b || c)) ≡ (b || (a || c))
or_swap true true c = refl
or_swap true false c = refl
or_swap false b c = refl

out_used : (n : ℕ) (vs : List LiveSlot) (v : LiveSlot) → slice_get vs n ≡ Some v → (sub : ℕ) → is_used sub vs ≡ (is_of sub v || is_used sub (out_of n vs))
out_used n [] v is sub = absurd (let x : None ≡ Some v = is in cc)
out_used zero (u ∷ vs) v is sub = let same : u ≡ v = cc in ap (λ (x : LiveSlot). is_of sub x || is_used sub vs) same
out_used (suc n) (u ∷ vs) v is sub = ap (λ b. is_of sub u || b) (out_used n vs v is sub) ∙ or_swap (is_of sub u) (is_of sub v) (is_used sub (out_of n vs))

out_count : (n : ℕ) (vs : List LiveSlot) (v : LiveSlot) → slice_get vs n ≡ Some v → subscriptions vs ≡ first v + subscriptions (out_of n vs)
out_count n [] v is = absurd (let x : None ≡ Some v = is in cc)
out_count zero (u ∷ vs) v is = let same : u ≡ v = cc in subscriptions_cons u vs ∙ ap (λ (x : LiveSlot). first x + subscriptions vs) same
out_count (suc n) (u ∷ vs) v is =
    let whole = subscriptions_cons u vs in
    let left = subscriptions_cons u (out_of n vs) in
    let rest = out_count n vs v is in
    omega (arith, whole, left, rest)

-- it goes to the back
or_back : (a b : Bool) → (b || (a || false)) ≡ (a || b)
or_back true true = refl
or_back true false = refl
or_back false true = refl
or_back false false = refl

back_at : (t : Taken) (n : ℕ) (vs : List LiveSlot) (v : LiveSlot) → Apart vs → slice_get vs n ≡ Some v → (sub rank : ℕ)
    → live_at sub rank (out_of n vs ++ passed_live t v ∷ []) ≡ cond (is_at sub rank v) (Some (passed_live t v)) (live_at sub rank vs)
back_at t n vs v a is sub rank = by_test (is_at sub rank v) refl (out_at n vs v a is sub rank)
  where
    by_test : (b : Bool) → is_at sub rank v ≡ b → live_at sub rank (out_of n vs) ≡ cond (is_at sub rank v) None (live_at sub rank vs)
        → live_at sub rank (out_of n vs ++ passed_live t v ∷ []) ≡ cond b (Some (passed_live t v)) (live_at sub rank vs)
    by_test true here rest = behind_none sub rank (out_of n vs) (passed_live t v ∷ []) (rest ∙ ap (λ b. cond b None (live_at sub rank vs)) here)
        ∙ ap (λ b. cond b (Some (passed_live t v)) None) here
    by_test false other rest = before_none sub rank (out_of n vs) (passed_live t v ∷ []) (ap (λ b. cond b (Some (passed_live t v)) None) other)
        ∙ rest ∙ ap (λ b. cond b None (live_at sub rank vs)) other

moved_out : (t : Taken) (n : ℕ) (vs : List LiveSlot) (v : LiveSlot) → Apart vs → slice_get vs n ≡ Some v
    → Moved vs (out_of n vs ++ passed_live t v ∷ []) v (passed_live t v)
moved_out t n vs v a is =
    record {
      apart = apart_append (out_of n vs) (passed_live t v ∷ []) (out_apart n vs a) (tt, tt)
          (each_map (λ u. is_at u.sub u.rank v ≡ false) (λ u. Each (λ x. is_at u.sub u.rank x ≡ false) (passed_live t v ∷ [])) (out_of n vs)
          (λ u h. (h, tt)) (out_away n vs v a is));
      at = back_at t n vs v a is;
      used = λ sub. used_append sub (out_of n vs) (passed_live t v ∷ []) ∙ or_back (is_of sub v) (is_used sub (out_of n vs)) ∙ sym (out_used n vs v is sub);
      count = (let whole = subscriptions_append (out_of n vs) (passed_live t v ∷ []) in
          let last : subscriptions (passed_live t v ∷ []) ≡ first v + subscriptions [] = subscriptions_cons (passed_live t v) [] in
          let none : subscriptions [] ≡ 0 = refl in
          let out = out_count n vs v is in
          omega (arith, whole, last, none, out));
    }

pub moved_back : (t : Taken) (n : ℕ) (vs : List LiveSlot) (v : LiveSlot) → Apart vs → slice_get vs n ≡ Some v → Moved vs (passed_back n v t vs) v (passed_live t v)
moved_back t n vs v a is =
    let next : suc n ≡ n + 1 = omega arith in
    subst (λ m. Moved vs ((take n vs ++ drop m vs) ++ passed_live t v ∷ []) v (passed_live t v)) next (moved_out t n vs v a is)
