-- Each step keeps the rule.
use Rattle.std.proofs.Common.{◌≡◌, ◌≢◌, ◌⊎◌, ℕ, zero, suc, List, [], ◌∷◌, ◌++◌, length, set, Bool, true, false, true≢false}
use Rattle.std.proofs.Common.{refl, sym, ap, ◌∙◌, subst, ⊎_elim, inl, inr}
use mathlib.Core.Option.{Option, some, none, some-ne-none, some-injective}
use lib.ListN.{get_elem?}
use Rattle.atomic_table.specs.Table.{Me, step, keeps, Allows, Splits, Joins, opening}
use Rattle.atomic_table.proofs.Lists.{at_set, at_snoc, set_again}
use Rattle.ls_pair.specs.declared.side.Role.{Role}
use Rattle.ls_pair.specs.declared.side.Role.TheVariants.{Pair, Item, Session, Spent}
use Rattle.ls_pair.specs.declared.side.Side.{Side}
use Rattle.ls_pair.specs.Ties.{side, pair, paired, spent, said, Knows, Fits, Tied, Agreed, Passed}

-- what stands in a list with one element more
at_snoc_where : {A : Type 0} (l : List A) (a b : A) (j : ℕ) → get_elem? (l ++ a ∷ []) j ≡ some b → (get_elem? l j ≡ some b) ⊎ ((j ≡ length l) × (a ≡ b))
at_snoc_where [] a b zero e = inr (refl, some-injective a b e)
at_snoc_where [] a b (suc j) e = absurd (some-ne-none b (sym e))
at_snoc_where (x ∷ xs) a b zero e = inl e
at_snoc_where (x ∷ xs) a b (suc j) e = ⊎_elim (λ t. inl t) (λ t. inr (ap suc t.0, t.1)) (at_snoc_where xs a b j e)

module _ {E : Type 0} where
  -- after one side's view has changed, each still fits
  fits_set : (whole : Bool) (a b : ℕ) (list : List E) (views : List (Side E)) (by : ℕ) (w : Side E)
      → ((j : ℕ) (u : Side E) → j ≢ by → get_elem? views j ≡ some u → Fits whole a b list j u) → Fits whole a b list by w
      → (j : ℕ) (u : Side E) → get_elem? (set views by w) j ≡ some u → Fits whole a b list j u
  fits_set whole a b list views by w others mine j u e =
      ⊎_elim
      (λ (x : (j ≡ by) × (w ≡ u)). subst (λ (y : ℕ × Side E). Fits whole a b list y.0 y.1) (λ i. (sym x.0 i, x.1 i)) mine)
      (λ (x : (j ≢ by) × (get_elem? views j ≡ some u)). others j u x.0 x.1)
      (at_set views by j w u e)

  -- beside the pair there is no side
  alone : (whole : Bool) (a b : ℕ) (list : List E) (j : ℕ) (u : Side E) → whole ≡ true → j ≢ a → Fits whole a b list j u → u.role ≡ Spent
  alone whole a b list j u is apart f = by_role u.role refl
    where
      by_role : (r : Role) → u.role ≡ r → u.role ≡ Spent
      by_role Pair e = absurd (apart (subst (Knows whole a b list j u) e f).1)
      by_role Item e = absurd (true≢false (sym is ∙ (subst (Knows whole a b list j u) e f).0))
      by_role Session e = absurd (true≢false (sym is ∙ (subst (Knows whole a b list j u) e f).0))
      by_role Spent e = e

  -- beside the two sides there is no other
  third : (whole : Bool) (a b : ℕ) (list : List E) (j : ℕ) (u : Side E) → whole ≡ false → j ≢ a → j ≢ b → Fits whole a b list j u → u.role ≡ Spent
  third whole a b list j u is apart apart' f = by_role u.role refl
    where
      by_role : (r : Role) → u.role ≡ r → u.role ≡ Spent
      by_role Pair e = absurd (true≢false (sym (subst (Knows whole a b list j u) e f).0 ∙ is))
      by_role Item e = absurd (apart (subst (Knows whole a b list j u) e f).1)
      by_role Session e = absurd (apart' (subst (Knows whole a b list j u) e f).1)
      by_role Spent e = e

  spent_fits : (whole : Bool) (a b : ℕ) (list : List E) (j : ℕ) (u : Side E) → u.role ≡ Spent → Fits whole a b list j u
  spent_fits whole a b list j u e = subst (Knows whole a b list j u) (sym e) tt

  pub begins : Tied (opening (0 ∷ []) [] (pair {E = E} []))
  begins = (true, 0, 0, [], one)
    where
      one : (by : ℕ) (v : Side E) → get_elem? (pair [] ∷ []) by ≡ some v → Fits true 0 0 [] by v
      one zero v e = subst (Fits true 0 0 [] 0) (some-injective _ _ e) (refl, refl, refl, refl)
      one (suc by) v e = absurd (some-ne-none v (sym e))

  -- a step of the pair, whose list becomes ys
  moves : (slots id : ℕ) (v : Side E) (ys : List E) (f : ℕ → ℕ) (then : ℕ → Me E (Side E) → Type 0) → v.role ≡ Pair
      → ((found : ℕ) → v.items ≡ v.sessions → then found (pair ys, []))
      → Allows Tied slots id (v, []) 0 f then
  moves slots id v ys f then is goes s k sized at small =
      let mine = subst (Knows k.0 k.1 k.2 k.3 id v) is (k.4 id v at) in (
        pair ys,
        keeps,
        tt,
        (
          true,
          k.1,
          k.2,
          ys,
          fits_set true k.1 k.2 ys s.views id (pair ys)
              (λ j u apart e. spent_fits true k.1 k.2 ys j u (alone k.0 k.1 k.2 k.3 j u mine.0 (λ q. apart (q ∙ sym mine.1)) (k.4 j u e)))
              (refl, mine.1, refl, refl),
        ),
        goes _ mine.3,
      )

  pub agrees : (slots id : ℕ) (v : Side E) → v.role ≡ Pair → Allows Tied slots id (v, []) 0 (λ n. n) (Agreed (step slots 0 0 0 none) (v, []))
  agrees slots id v is = moves slots id v v.list (λ n. n) (Agreed (step slots 0 0 0 none) (v, [])) is (λ found same. (refl, same))

  pub passes : (slots id : ℕ) (xs : List E) (x : Option E) (f : ℕ → ℕ) → Allows Tied slots id (pair xs, []) 0 f (Passed (step slots 0 0 0 x) (pair xs, []))
  passes slots id xs x f = moves slots id (pair xs) (xs ++ said x) f (Passed (step slots 0 0 0 x) (pair xs, [])) refl (λ found same. refl)

  -- the pair is cut into its sides
  pub cuts : (id : ℕ) (xs : List E) → Splits Tied id (pair xs) (side Item xs) (side Session xs)
  cuts id xs s k at =
      let mine = k.4 id (pair xs) at in
      let b = length (set s.views id (side Item xs)) in (
        false,
        id,
        b,
        xs,
        λ j u e. at_end s.views id j u b refl (λ i w apart e'. alone k.0 k.1 k.2 k.3 i w mine.0 (λ q. apart (q ∙ sym mine.1)) (k.4 i w e')) e,
      )
    where
      at_end : (views : List (Side E)) (id j : ℕ) (u : Side E) (b : ℕ) → b ≡ length (set views id (side Item xs))
          → ((i : ℕ) (w : Side E) → i ≢ id → get_elem? views i ≡ some w → w.role ≡ Spent)
          → get_elem? (set views id (side Item xs) ++ side Session xs ∷ []) j ≡ some u → Fits false id b xs j u
      at_end views id j u b is others e =
          ⊎_elim
          (λ (was : get_elem? (set views id (side Item xs)) j ≡ some u).
          ⊎_elim
          (λ (x : (j ≡ id) × (side Item xs ≡ u)). subst (Fits false id b xs j) x.1 (refl, x.0, refl))
          (λ (x : (j ≢ id) × (get_elem? views j ≡ some u)). spent_fits false id b xs j u (others j u x.0 x.1))
          (at_set views id j (side Item xs) u was))
          (λ (new : (j ≡ length (set views id (side Item xs))) × (side Session xs ≡ u)). subst (Fits false id b xs j) new.1 (refl, new.0 ∙ sym is, refl))
          (at_snoc_where (set views id (side Item xs)) (side Session xs) u j e)

  pub joins : (id : ℕ) (xs : List E) (other : ℕ) (ys : List E)
      → Joins Tied id (side Item xs) other (side Session ys) (paired (side Item xs) (side Session ys)) spent
  joins id xs other ys s k at apart there =
      let w = paired (side Item xs) (side Session ys) in
      let mine = k.4 id (side Item xs) at in
      let theirs =
      ⊎_elim
      (λ (t : (other ≡ id) × (w ≡ side Session ys)). absurd (apart t.0))
      (λ (t : (other ≢ id) × (get_elem? s.views other ≡ some (side Session ys))). k.4 other (side Session ys) t.1)
      (at_set s.views id other w (side Session ys) there) in
      let same : xs ≡ ys = mine.2 ∙ sym theirs.2 in (
        true,
        id,
        k.2,
        xs,
        fits_set true id k.2 xs (set s.views id w) other spent
            (λ j u off_other e. fits_before s.views id j u off_other w
            (λ i v off_id off_other' e'. third k.0 k.1 k.2 k.3 i v mine.0 (λ q. off_id (q ∙ sym mine.1)) (λ q. off_other' (q ∙ sym theirs.1)) (k.4 i v e'))
            (refl, refl, refl, same)
            e)
            tt,
      )
    where
      fits_before : (views : List (Side E)) (id j : ℕ) (u : Side E) → j ≢ other → (w : Side E)
          → ((i : ℕ) (v : Side E) → i ≢ id → i ≢ other → get_elem? views i ≡ some v → v.role ≡ Spent)
          → Fits true id k.2 xs id w
          → get_elem? (set views id w) j ≡ some u → Fits true id k.2 xs j u
      fits_before views id j u off_other w others mine e =
          ⊎_elim
          (λ (x : (j ≡ id) × (w ≡ u)). subst (λ (y : ℕ × Side E). Fits true id k.2 xs y.0 y.1) (λ i. (sym x.0 i, x.1 i)) mine)
          (λ (x : (j ≢ id) × (get_elem? views j ≡ some u)). spent_fits true id k.2 xs j u (others j u x.0 off_other x.1))
          (at_set views id j w u e)

  -- what a join owes, as a fact of the two views
  abbrev pub Joining : ℕ → Side E → ℕ → Side E → Type 0
  Joining id v other u = Joins Tied id v other u (paired v u) spent

  pub first_of : (v w : Side E) → (◌≡◌ {A = List (Side E)} (v ∷ []) (w ∷ [])) → v ≡ w
  first_of v w e = ap (head_or v) e
    where
      head_or : Side E → List (Side E) → Side E
      head_or d [] = d
      head_or d (x ∷ xs) = x

  -- a token that knows nothing
  pub signs : (id : ℕ) (v : Side E) → Splits Tied id v v spent
  signs id v s k at = (
    k.0,
    k.1,
    k.2,
    k.3,
    λ j u e. ⊎_elim
        (λ was. k.4 j u (subst (λ l. get_elem? l j ≡ some u) (set_again s.views id v at) was))
        (λ (same : spent ≡ u). subst (Fits k.0 k.1 k.2 k.3 j) same tt)
        (at_snoc (set s.views id v) spent u j e),
  )
