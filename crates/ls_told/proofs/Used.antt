-- The subscriptions that have slots in a round, and which ones, where slots change, go to its end, or join it.
use Rattle.std.proofs.Common.{◌≡◌, ◌==◌, ◌&&◌, ◌||◌, ℕ, zero, suc, List, [], ◌∷◌, ◌++◌, take, drop, map, refl, sym, ◌∙◌, ap, cond, Bool, true, false}
use Rattle.std.proofs.Common.{Some, None, is_some, slice_get}
use Rattle.ls_record.specs.Records.{LiveSlot, change, is_of, is_at, is_used, live_at}
use Rattle.ls_subs.proofs.Rounds.{used_append}

-- a change that leaves the slots' subscriptions
pub used_changed : (f : LiveSlot → LiveSlot) → ((v : LiveSlot) → (f v).sub ≡ v.sub) → (n : ℕ) (vs : List LiveSlot) (sub : ℕ)
    → is_used sub (change n f vs) ≡ is_used sub vs
used_changed f same n [] sub = refl
used_changed f same zero (v ∷ vs) sub = ap (λ (k : ℕ). (sub == k) || is_used sub vs) (same v)
used_changed f same (suc n) (v ∷ vs) sub = ap (λ (b : Bool). is_of sub v || b) (used_changed f same n vs sub)

pub used_mapped : (f : LiveSlot → LiveSlot) → ((v : LiveSlot) → (f v).sub ≡ v.sub) → (vs : List LiveSlot) (sub : ℕ)
    → is_used sub (map f vs) ≡ is_used sub vs
used_mapped f same [] sub = refl
used_mapped f same (v ∷ vs) sub =
    ap (λ (k : ℕ). (sub == k) || is_used sub (map f vs)) (same v) ∙ ap (λ (b : Bool). is_of sub v || b) (used_mapped f same vs sub)

-- a slot goes to the end
or_swap : (a b c : Bool) → (a || (b || c)) ≡ (b || (a || c))
or_swap true true c = refl
or_swap true false c = refl
or_swap false b c = refl

or_last : (a b : Bool) → (a || (b || false)) ≡ (b || a)
or_last true true = refl
or_last true false = refl
or_last false true = refl
or_last false false = refl

used_out : (sub n : ℕ) (vs : List LiveSlot) (v : LiveSlot) → slice_get vs n ≡ Some v
    → is_used sub vs ≡ (is_of sub v || is_used sub (take n vs ++ drop (suc n) vs))
used_out sub n [] v is = absurd (let x : None ≡ Some v = is in cc)
used_out sub zero (u ∷ vs) v is = let same : u ≡ v = cc in ap (λ (x : LiveSlot). is_of sub x || is_used sub vs) same
used_out sub (suc n) (u ∷ vs) v is =
    ap (λ (b : Bool). is_of sub u || b) (used_out sub n vs v is) ∙ or_swap (is_of sub u) (is_of sub v) (is_used sub (take n vs ++ drop (suc n) vs))

pub used_back : (sub n : ℕ) (vs : List LiveSlot) (v u : LiveSlot) → slice_get vs n ≡ Some v → u.sub ≡ v.sub
    → is_used sub ((take n vs ++ drop (suc n) vs) ++ u ∷ []) ≡ is_used sub vs
used_back sub n vs v u is same =
    used_append sub (take n vs ++ drop (suc n) vs) (u ∷ [])
    ∙ ap (λ (k : ℕ). is_used sub (take n vs ++ drop (suc n) vs) || ((sub == k) || false)) same
    ∙ or_last (is_used sub (take n vs ++ drop (suc n) vs)) (is_of sub v)
    ∙ sym (used_out sub n vs v is)

-- whether there is a slot of a rank in a subscription: it is the first one, or among the others
live_first : (sub rank : ℕ) (v : LiveSlot) (vs : List LiveSlot)
    → is_some (live_at sub rank (v ∷ vs)) ≡ (is_at sub rank v || is_some (live_at sub rank vs))
live_first sub rank v vs = by_test (is_at sub rank v)
  where
    by_test : (b : Bool) → is_some (cond b (Some v) (live_at sub rank vs)) ≡ (b || is_some (live_at sub rank vs))
    by_test true = refl
    by_test false = refl

same_at : (sub rank : ℕ) (v u : LiveSlot) → u.sub ≡ v.sub → u.rank ≡ v.rank → is_at sub rank u ≡ is_at sub rank v
same_at sub rank v u one same =
    ap (λ (k : ℕ). (sub == k) && (rank == u.rank)) one ∙ ap (λ (k : ℕ). (sub == v.sub) && (rank == k)) same

pub live_changed : (f : LiveSlot → LiveSlot) → ((v : LiveSlot) → (f v).sub ≡ v.sub) → ((v : LiveSlot) → (f v).rank ≡ v.rank) → (n : ℕ)
    (vs : List LiveSlot) (sub rank : ℕ) → is_some (live_at sub rank (change n f vs)) ≡ is_some (live_at sub rank vs)
live_changed f one same n [] sub rank = refl
live_changed f one same zero (v ∷ vs) sub rank =
    live_first sub rank (f v) vs ∙ ap (λ (b : Bool). b || is_some (live_at sub rank vs)) (same_at sub rank v (f v) (one v) (same v))
    ∙ sym (live_first sub rank v vs)
live_changed f one same (suc n) (v ∷ vs) sub rank =
    live_first sub rank v (change n f vs) ∙ ap (λ (b : Bool). is_at sub rank v || b) (live_changed f one same n vs sub rank)
    ∙ sym (live_first sub rank v vs)

pub live_mapped : (f : LiveSlot → LiveSlot) → ((v : LiveSlot) → (f v).sub ≡ v.sub) → ((v : LiveSlot) → (f v).rank ≡ v.rank) → (vs : List LiveSlot)
    (sub rank : ℕ) → is_some (live_at sub rank (map f vs)) ≡ is_some (live_at sub rank vs)
live_mapped f one same [] sub rank = refl
live_mapped f one same (v ∷ vs) sub rank =
    live_first sub rank (f v) (map f vs)
    ∙ ap (λ (b : Bool). b || is_some (live_at sub rank (map f vs))) (same_at sub rank v (f v) (one v) (same v))
    ∙ ap (λ (b : Bool). is_at sub rank v || b) (live_mapped f one same vs sub rank)
    ∙ sym (live_first sub rank v vs)

pub live_append : (sub rank : ℕ) (vs us : List LiveSlot)
    → is_some (live_at sub rank (vs ++ us)) ≡ (is_some (live_at sub rank vs) || is_some (live_at sub rank us))
live_append sub rank [] us = refl
live_append sub rank (v ∷ vs) us = by_test (is_at sub rank v) (live_append sub rank vs us)
  where
    by_test : (b : Bool) → is_some (live_at sub rank (vs ++ us)) ≡ (is_some (live_at sub rank vs) || is_some (live_at sub rank us))
        → is_some (cond b (Some v) (live_at sub rank (vs ++ us))) ≡ (is_some (cond b (Some v) (live_at sub rank vs)) || is_some (live_at sub rank us))
    by_test true rest = refl
    by_test false rest = rest

live_out : (sub rank n : ℕ) (vs : List LiveSlot) (v : LiveSlot) → slice_get vs n ≡ Some v
    → is_some (live_at sub rank vs) ≡ (is_at sub rank v || is_some (live_at sub rank (take n vs ++ drop (suc n) vs)))
live_out sub rank n [] v is = absurd (let x : None ≡ Some v = is in cc)
live_out sub rank zero (u ∷ vs) v is =
    let same : u ≡ v = cc in
    live_first sub rank u vs ∙ ap (λ (x : LiveSlot). is_at sub rank x || is_some (live_at sub rank vs)) same
live_out sub rank (suc n) (u ∷ vs) v is =
    let rest : List LiveSlot = take n vs ++ drop (suc n) vs in
    live_first sub rank u vs
    ∙ ap (λ (b : Bool). is_at sub rank u || b) (live_out sub rank n vs v is)
    ∙ or_swap (is_at sub rank u) (is_at sub rank v) (is_some (live_at sub rank rest))
    ∙ ap (λ (b : Bool). is_at sub rank v || b) (sym (live_first sub rank u rest))

pub live_back : (sub rank n : ℕ) (vs : List LiveSlot) (v u : LiveSlot) → slice_get vs n ≡ Some v → u.sub ≡ v.sub → u.rank ≡ v.rank
    → is_some (live_at sub rank ((take n vs ++ drop (suc n) vs) ++ u ∷ [])) ≡ is_some (live_at sub rank vs)
live_back sub rank n vs v u is one same =
    let rest : List LiveSlot = take n vs ++ drop (suc n) vs in
    live_append sub rank rest (u ∷ [])
    ∙ ap (λ (b : Bool). is_some (live_at sub rank rest) || b) (live_first sub rank u [])
    ∙ ap (λ (b : Bool). is_some (live_at sub rank rest) || (b || false)) (same_at sub rank v u one same)
    ∙ or_last (is_some (live_at sub rank rest)) (is_at sub rank v)
    ∙ sym (live_out sub rank n vs v is)
