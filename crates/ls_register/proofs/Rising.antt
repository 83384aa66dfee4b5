-- Numbers that rise: where one stands, one more, and one less.
use Rattle.std.proofs.Common.{◌≡◌, ℕ, zero, suc, ◌<◌, ◌≤◌, ◌==◌, List, [], ◌∷◌, ◌++◌, length, Bool, true, false, not, ◌||◌, cond}
use Rattle.std.proofs.Common.{Result, Ok, Err, MatchResult, get_or, remove, refl, sym, ◌∙◌, ap, subst, arith, eq-eqb}
use Rattle.std.proofs.Common.{nat_lt, nat_cmp}
use Rattle.std.specs.List.Sorted.{IsBinarySearchResult}
use Rattle.std.proofs.lemmas.List.Sorted.{searched}
use Rattle.std.proofs.lemmas.Bool.{eqb-true, ltb-true, ltb-false}
use Rattle.std.specs.List.{filter}
use Rattle.ls_value.specs.Each.{Each}
use Rattle.ls_register.specs.Sessions.{AreRising, is_among}

pub each_append : {A : Type 0} (P : A → Type 0) (xs ys : List A) → Each P xs → Each P ys → Each P (xs ++ ys)
each_append P [] ys e f = f
each_append P (x ∷ xs) ys e f = (e.0, each_append P xs ys e.1 f)

pub each_as : {A : Type 0} (P Q : A → Type 0) (xs : List A) → ((x : A) → P x → Q x) → Each P xs → Each Q xs
each_as P Q [] imp e = tt
each_as P Q (x ∷ xs) imp e = (imp x e.0, each_as P Q xs imp e.1)

pub each_first : {A : Type 0} (P : A → Type 0) (xs ys : List A) → Each P (xs ++ ys) → Each P xs
each_first P [] ys e = tt
each_first P (x ∷ xs) ys e = (e.0, each_first P xs ys e.1)

pub each_filter : {A : Type 0} (P : A → Type 0) (f : A → Bool) (xs : List A) → Each P xs → Each P (filter f xs)
each_filter P f [] e = tt
each_filter P f (x ∷ xs) e = by_test (f x) (each_filter P f xs e.1)
  where
    by_test : (b : Bool) → Each P (filter f xs) → Each P (cond b (x ∷ filter f xs) (filter f xs))
    by_test true rest = (e.0, rest)
    by_test false rest = rest

each_get : (P : ℕ → Type 0) (xs : List ℕ) (k : ℕ) → k < length xs → Each P xs → P (get_or xs k 0)
each_get P [] k w e = absurd (omega (arith, w))
each_get P (x ∷ xs) zero w e = e.0
each_get P (x ∷ xs) (suc k) w e = each_get P xs k (omega (arith, w)) e.1

pub not_same : (m n : ℕ) → (m ≡ n → ⊥) → (m == n) ≡ false
not_same m n apart = by_test (m == n) refl
  where
    by_test : (b : Bool) → (m == n) ≡ b → (m == n) ≡ false
    by_test true t = absurd (apart (eqb-true m n t))
    by_test false t = t

pub same_as : (m n : ℕ) → m ≡ n → (m == n) ≡ true
same_as m n is = eq-eqb m n is

-- in order
pub rising_sorted : (ns : List ℕ) → AreRising ns → (i j : ℕ) → i ≤ j → j < length ns → get_or ns i 0 ≤ get_or ns j 0
rising_sorted [] r i j le w = absurd (omega (arith, w))
rising_sorted (n ∷ ns) r zero zero le w = omega arith
rising_sorted (n ∷ ns) r zero (suc j) le w =
    let less : n < get_or ns j 0 = each_get (λ m. n < m) ns j (omega (arith, w)) r.0 in
    omega (arith, less)
rising_sorted (n ∷ ns) r (suc i) zero le w = absurd (omega (arith, le))
rising_sorted (n ∷ ns) r (suc i) (suc j) le w = rising_sorted ns r.1 i j (omega (arith, le)) (omega (arith, w))

-- a greater one at the end
pub rising_push : (ns : List ℕ) (n : ℕ) → AreRising ns → Each (λ m. m < n) ns → AreRising (ns ++ n ∷ [])
rising_push [] n r below = (tt, tt)
rising_push (m ∷ ns) n r below =
    (each_append (λ k. m < k) ns (n ∷ []) r.0 (below.0, tt), rising_push ns n r.1 below.1)

-- what is left
pub rising_filter : (f : ℕ → Bool) (ns : List ℕ) → AreRising ns → AreRising (filter f ns)
rising_filter f [] r = tt
rising_filter f (n ∷ ns) r = by_test (f n) (rising_filter f ns r.1)
  where
    by_test : (b : Bool) → AreRising (filter f ns) → AreRising (cond b (n ∷ filter f ns) (filter f ns))
    by_test true rest = (each_filter (λ m. n < m) f ns r.0, rest)
    by_test false rest = rest

-- those behind a smaller number
filter_all : (n : ℕ) (ns : List ℕ) → Each (λ m. n < m) ns → filter (λ m. not (m == n)) ns ≡ ns
filter_all n [] e = refl
filter_all n (m ∷ ns) e =
    ap (λ b. cond (not b) (m ∷ filter (λ k. not (k == n)) ns) (filter (λ k. not (k == n)) ns))
    (not_same m n (λ is. omega (arith, e.0, is)))
    ∙ ap (λ l. m ∷ l) (filter_all n ns e.1)

-- the one of a place is left out
pub removed_is : (ns : List ℕ) (k n : ℕ) → AreRising ns → k < length ns → get_or ns k 0 ≡ n
    → remove ns k ≡ filter (λ m. not (m == n)) ns
removed_is [] k n r w is = absurd (omega (arith, w))
removed_is (m ∷ ns) zero n r w is =
    sym (ap (λ b. cond (not b) (m ∷ filter (λ k. not (k == n)) ns) (filter (λ k. not (k == n)) ns)) (same_as m n is)
    ∙ filter_all n ns (subst (λ (x : ℕ). Each (λ k. x < k) ns) is r.0))
removed_is (m ∷ ns) (suc k) n r w is =
    let less : m < get_or ns k 0 = each_get (λ x. m < x) ns k (omega (arith, w)) r.0 in
    ap (λ l. m ∷ l) (removed_is ns k n r.1 (omega (arith, w)) is)
    ∙ sym (ap (λ b. cond (not b) (m ∷ filter (λ x. not (x == n)) ns) (filter (λ x. not (x == n)) ns))
    (not_same m n (λ same. omega (arith, less, same, is))))

or_right : (a b : Bool) → b ≡ true → (a || b) ≡ true
or_right true b t = refl
or_right false b t = t

-- a number is there
pub among_at : (ns : List ℕ) (k n : ℕ) → k < length ns → get_or ns k 0 ≡ n → is_among n ns ≡ true
among_at [] k n w is = absurd (omega (arith, w))
among_at (m ∷ ns) zero n w is = ap (λ b. b || is_among n ns) (same_as m n is)
among_at (m ∷ ns) (suc k) n w is = or_right (m == n) (is_among n ns) (among_at ns k n (omega (arith, w)) is)

-- or it isn't
pub among_none : (ns : List ℕ) (n : ℕ) → ((k : ℕ) → k < length ns → get_or ns k 0 ≡ n → ⊥) → is_among n ns ≡ false
among_none [] n none = refl
among_none (m ∷ ns) n none =
    ap (λ b. b || is_among n ns) (not_same m n (λ is. none 0 (omega arith) is))
    ∙ among_none ns n (λ k w is. none (suc k) (omega (arith, w)) is)

-- one at the end is there
pub among_end : (ns : List ℕ) (n : ℕ) → is_among n (ns ++ n ∷ []) ≡ true
among_end [] n = ap (λ b. b || false) (same_as n n refl)
among_end (m ∷ ns) n = or_right (m == n) (is_among n (ns ++ n ∷ [])) (among_end ns n)

-- one above all isn't
pub among_above : (ns : List ℕ) (n most : ℕ) → Each (λ m. m ≤ most) ns → most < n → is_among n ns ≡ false
among_above [] n most e more = refl
among_above (m ∷ ns) n most e more =
    ap (λ b. b || is_among n ns) (not_same m n (λ is. omega (arith, e.0, more, is))) ∙ among_above ns n most e.1 more

-- one that is left out isn't
pub among_filtered : (ns : List ℕ) (n : ℕ) → is_among n (filter (λ m. not (m == n)) ns) ≡ false
among_filtered [] n = refl
among_filtered (m ∷ ns) n = by_test (m == n) refl (among_filtered ns n)
  where
    by_test : (b : Bool) → (m == n) ≡ b → is_among n (filter (λ k. not (k == n)) ns) ≡ false
        → is_among n (cond (not b) (m ∷ filter (λ k. not (k == n)) ns) (filter (λ k. not (k == n)) ns)) ≡ false
    by_test true t rest = rest
    by_test false t rest = ap (λ b. b || is_among n (filter (λ k. not (k == n)) ns)) t ∙ rest

-- what a search found, and what it missed
pub found : (ns xs : List ℕ) (n k : ℕ) (r : Result ℕ ℕ) → xs ≡ ns → AreRising ns → IsBinarySearchResult (λ y. nat_cmp y n) xs r
    → r ≡ Ok k → (k < length ns) × (get_or ns k 0 ≡ n)
found ns xs n k r same rise search ok =
    subst (λ (q : Result ℕ ℕ). MatchResult q (λ i. (i < length ns) × (get_or ns i 0 ≡ n))
    (λ i. (i ≤ length ns) × ((k : ℕ) → k < i → get_or ns k 0 < n) × ((k : ℕ) → i ≤ k → k < length ns → n < get_or ns k 0))) ok
    (searched ns n r (subst (λ (l : List ℕ). IsBinarySearchResult (λ y. nat_cmp y n) l r) same search) (rising_sorted ns rise))

pub missed : (ns xs : List ℕ) (n i : ℕ) (r : Result ℕ ℕ) → xs ≡ ns → AreRising ns → IsBinarySearchResult (λ y. nat_cmp y n) xs r
    → r ≡ Err i → is_among n ns ≡ false
missed ns xs n i r same rise search err =
    let at = subst (λ (q : Result ℕ ℕ). MatchResult q (λ i. (i < length ns) × (get_or ns i 0 ≡ n))
    (λ i. (i ≤ length ns) × ((k : ℕ) → k < i → get_or ns k 0 < n) × ((k : ℕ) → i ≤ k → k < length ns → n < get_or ns k 0))) err
    (searched ns n r (subst (λ (l : List ℕ). IsBinarySearchResult (λ y. nat_cmp y n) l r) same search) (rising_sorted ns rise)) in
    among_none ns n (λ k w is. by_order k w is (at.1 k) (at.2 k))
  where
    by_order : (k : ℕ) → k < length ns → get_or ns k 0 ≡ n → (k < i → get_or ns k 0 < n) → (i ≤ k → k < length ns → n < get_or ns k 0) → ⊥
    by_order k w is low high = by_test (nat_lt k i) refl
      where
        by_test : (b : Bool) → nat_lt k i ≡ b → ⊥
        by_test true t = let l = low (ltb-true k i t) in omega (arith, l, is)
        by_test false t = let h = high (ltb-false k i t) w in omega (arith, h, is)
