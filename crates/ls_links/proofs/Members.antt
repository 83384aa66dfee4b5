-- Members of a list, by their places, and what filters keep of them.
use Rattle.std.proofs.Common.{◌≡◌, ℕ, suc, zero, ◌+◌, ◌<◌, List, [], ◌∷◌, ◌++◌, length, map, refl, sym, ◌∙◌, ap, arith, cond, Bool, true, false, Some, None}
use Rattle.std.proofs.Common.{Option, inl, inr}
use Rattle.std.specs.Prelude.{slice_get, ◌⊎◌}
use Rattle.std.specs.List.{filter, range_with_len}
use Rattle.ls_links.specs.Chains.{In}

pub nothing_there : {A : Type 0} (x : A) (o : Option A) → o ≡ None → o ≡ Some x → ⊥
nothing_there x o p q = cc

pub differs : (v : Bool) → v ≡ true → v ≡ false → ⊥
differs v t f = let x : true ≡ false = sym t ∙ f in cc

pub bool_same : (a b : Bool) → (a ≡ true → b ≡ true) → (b ≡ true → a ≡ true) → a ≡ b
bool_same true b f g = sym (f refl)
bool_same false true f g = g refl
bool_same false false f g = refl

-- two tests that agree at the members
pub filter_agree_in : {A : Type 0} (p q : A → Bool) (xs : List A) → ((x : A) → In xs x → p x ≡ q x) → filter p xs ≡ filter q xs
filter_agree_in p q [] h = refl
filter_agree_in p q (x ∷ xs) h =
    rw (h x (zero, refl)) (ap (λ (zs : List _). cond (q x) (x ∷ zs) zs) (filter_agree_in p q xs (λ y i. h y (suc i.0, i.1))))

pub filter_map : {A B : Type 0} (f : A → B) (p : B → Bool) (xs : List A) → filter p (map f xs) ≡ map f (filter (λ x. p (f x)) xs)
filter_map f p [] = refl
filter_map f p (x ∷ xs) =
    ap (λ (zs : List _). cond (p (f x)) (f x ∷ zs) zs) (filter_map f p xs)
    ∙ elim (p (f x)) as (λ v. cond v (f x ∷ map f (filter (λ x. p (f x)) xs)) (map f (filter (λ x. p (f x)) xs))
    ≡ map f (cond v (x ∷ filter (λ x. p (f x)) xs) (filter (λ x. p (f x)) xs))) [ true ↦ refl | false ↦ refl ]

pub filter_none : {A : Type 0} (p : A → Bool) (xs : List A) → ((x : A) → In xs x → p x ≡ false) → filter p xs ≡ []
filter_none p [] h = refl
filter_none p (x ∷ xs) h = rw (h x (zero, refl)) (filter_none p xs (λ y i. h y (suc i.0, i.1)))

pub filter_all : {A : Type 0} (p : A → Bool) (xs : List A) → ((x : A) → In xs x → p x ≡ true) → filter p xs ≡ xs
filter_all p [] h = refl
filter_all p (x ∷ xs) h = rw (h x (zero, refl)) (ap (λ (zs : List _). x ∷ zs) (filter_all p xs (λ y i. h y (suc i.0, i.1))))

pub map_agree_in : {A B : Type 0} (f g : A → B) (xs : List A) → ((x : A) → In xs x → f x ≡ g x) → map f xs ≡ map g xs
map_agree_in f g [] h = refl
map_agree_in f g (x ∷ xs) h = rw (h x (zero, refl)) (ap (λ (zs : List _). g x ∷ zs) (map_agree_in f g xs (λ y i. h y (suc i.0, i.1))))

pub in_filter : {A : Type 0} (p : A → Bool) (xs : List A) (x : A) → In (filter p xs) x → In xs x × (p x ≡ true)
in_filter p [] x m = absurd (nothing_there x None refl m.1)
in_filter p (y ∷ xs) x m = by_test (p y) refl m (λ r. in_filter p xs x r)
  where
    by_test : (v : Bool) → p y ≡ v → In (cond v (y ∷ filter p xs) (filter p xs)) x → (In (filter p xs) x → In xs x × (p x ≡ true))
        → In (y ∷ xs) x × (p x ≡ true)
    by_test true e (zero, h) rec = ((zero, h), (let s : y ≡ x = cc in ap p (sym s) ∙ e))
    by_test true e (suc i, h) rec = let r = rec (i, h) in ((suc r.0.0, r.0.1), r.1)
    by_test false e r rec = let q = rec r in ((suc q.0.0, q.0.1), q.1)

pub filter_in : {A : Type 0} (p : A → Bool) (xs : List A) (x : A) → In xs x → p x ≡ true → In (filter p xs) x
filter_in p [] x m t = absurd (nothing_there x None refl m.1)
filter_in p (y ∷ xs) x (zero, h) t =
    let s : y ≡ x = cc in
    rw (ap p s ∙ t) (zero, h)
filter_in p (y ∷ xs) x (suc i, h) t = by_test (p y) (filter_in p xs x (i, h) t)
  where
    by_test : (v : Bool) → In (filter p xs) x → In (cond v (y ∷ filter p xs) (filter p xs)) x
    by_test true m = (suc m.0, m.1)
    by_test false m = m

pub in_append : {A : Type 0} (a b : List A) (x : A) → In (a ++ b) x → In a x ⊎ In b x
in_append [] b x m = inr m
in_append (y ∷ a) b x (zero, h) = inl (zero, h)
in_append (y ∷ a) b x (suc i, h) = by_case (in_append a b x (i, h))
  where
    by_case : In a x ⊎ In b x → In (y ∷ a) x ⊎ In b x
    by_case (inl m) = inl (suc m.0, m.1)
    by_case (inr m) = inr m

pub append_in_left : {A : Type 0} (a b : List A) (i : ℕ) (x : A) → slice_get a i ≡ Some x → slice_get (a ++ b) i ≡ Some x
append_in_left [] b i x h = absurd (nothing_there x None refl h)
append_in_left (y ∷ a) b zero x h = h
append_in_left (y ∷ a) b (suc i) x h = append_in_left a b i x h

pub append_in_right : {A : Type 0} (a b : List A) (x : A) → In b x → In (a ++ b) x
append_in_right [] b x m = m
append_in_right (y ∷ a) b x m = let r = append_in_right a b x m in (suc r.0, r.1)

pub last_at : {A : Type 0} (a : List A) (x : A) → slice_get (a ++ x ∷ []) (length a) ≡ Some x
last_at [] x = refl
last_at (y ∷ a) x = last_at a x

-- a member of a list with one more at the end
pub in_push : {A : Type 0} (a : List A) (y : A) (i : ℕ) (x : A) → slice_get (a ++ y ∷ []) i ≡ Some x → (slice_get a i ≡ Some x) ⊎ ((i ≡ length a) × (y ≡ x))
in_push [] y zero x h = inr (refl, cc)
in_push [] y (suc i) x h = absurd (nothing_there x None refl h)
in_push (z ∷ a) y zero x h = inl h
in_push (z ∷ a) y (suc i) x h = by_case (in_push a y i x h)
  where
    by_case : (slice_get a i ≡ Some x) ⊎ ((i ≡ length a) × (y ≡ x)) → (slice_get a i ≡ Some x) ⊎ ((suc i ≡ length (z ∷ a)) × (y ≡ x))
    by_case (inl m) = inl m
    by_case (inr m) = inr (ap suc m.0, m.1)

-- a member of a list that was mapped
pub in_map : {A B : Type 0} (f : A → B) (xs : List A) (i : ℕ) (y : B) → slice_get (map f xs) i ≡ Some y → (x : A) × (slice_get xs i ≡ Some x) × (f x ≡ y)
in_map f [] i y h = absurd (nothing_there y None refl h)
in_map f (x ∷ xs) zero y h = (x, refl, cc)
in_map f (x ∷ xs) (suc i) y h = in_map f xs i y h

pub map_in : {A B : Type 0} (f : A → B) (xs : List A) (i : ℕ) (x : A) → slice_get xs i ≡ Some x → slice_get (map f xs) i ≡ Some (f x)
map_in f [] i x h = absurd (nothing_there x None refl h)
map_in f (y ∷ xs) zero x h = let s : y ≡ x = cc in ap (λ (z : _). Some (f z)) s
map_in f (y ∷ xs) (suc i) x h = map_in f xs i x h

-- a test that passes at one place alone
pub one_passes : {A : Type 0} (p : A → Bool) (xs : List A) (i : ℕ) (x : A) → slice_get xs i ≡ Some x → p x ≡ true
    → ((j : ℕ) (y : A) → slice_get xs j ≡ Some y → p y ≡ true → j ≡ i) → length (filter p xs) ≡ 1
one_passes p [] i x h t once = absurd (nothing_there x None refl h)
one_passes p (z ∷ xs) zero x h t once =
    let s : z ≡ x = cc in
    rw (ap p s ∙ t) (ap (λ (zs : List _). suc (length zs)) (filter_none p xs (λ y m. none y m (p y) refl)))
  where
    none : (y : _) → In xs y → (v : Bool) → p y ≡ v → v ≡ false
    none y m true e = let q : suc m.0 ≡ 0 = once (suc m.0) y m.1 e in absurd (omega arith)
    none y m false e = refl
one_passes p (z ∷ xs) (suc i) x h t once = by_test (p z) refl (one_passes p xs i x h t (λ j y g u. (let q : suc j ≡ suc i = once (suc j) y g u in omega arith)))
  where
    by_test : (v : Bool) → p z ≡ v → length (filter p xs) ≡ 1 → length (cond v (z ∷ filter p xs) (filter p xs)) ≡ 1
    by_test true e r = let q : 0 ≡ suc i = once 0 z refl e in absurd (omega arith)
    by_test false e r = r

pub in_range : (a n i x : ℕ) → slice_get (range_with_len a n) i ≡ Some x → (x ≡ a + i) × (i < n)
in_range a zero i x h = absurd (nothing_there x None refl h)
in_range a (suc n) zero x h = let e : a ≡ x = cc in (omega arith, omega arith)
in_range a (suc n) (suc i) x h = let r = in_range (a + 1) n i x h in (omega (arith, r.0), omega (arith, r.1))
