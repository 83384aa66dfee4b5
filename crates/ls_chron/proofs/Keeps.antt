-- Each step keeps the rule.
use Rattle.std.proofs.Common.{◌≡◌, ◌≢◌, ℕ, zero, suc, ◌+◌, eqb, ltb, List, [], ◌∷◌, ◌++◌, length, set, get_or, cond}
use Rattle.std.proofs.Common.{Bool, true, false, true≢false, refl, sym, ap, ◌∙◌, subst, ⊎_elim, arith, length-append, eq-eqb}
use mathlib.Core.Option.{some, none, some-ne-none, some-injective}
use mathlib.Core.List.{IsPrefix}
use lib.ListN.{get_elem?}
use prog.Atomic.{either}
use Rattle.atomic_table.specs.Table.{Me, step, keeps, Allows, Splits, Joins, opening}
use Rattle.atomic_table.proofs.Lists.{at_set, at_snoc, set_again}
use Rattle.ls_chron.specs.declared.view.View.{View}
use Rattle.ls_chron.specs.History.{writer, reader, copied, spent, longer, compares, Fits, Kept, Appended, Counted, Compared}
use Rattle.ls_chron.proofs.Beginnings.{prefix_self, prefix_trans, prefix_shorter, prefix_length}

off : false ≡ true → ⊥
off e = true≢false (sym e)

-- the word after an exchange that finds what it looks for
exchanged_word : (ws : List ℕ) (n : ℕ) → ws ≡ n ∷ [] → set ws 0 (either (eqb (get_or ws 0 0) n) (n + 1) (get_or ws 0 0)) ≡ (n + 1) ∷ []
exchanged_word ws n is =
    subst (λ (w : List ℕ). set w 0 (either (eqb (get_or w 0 0) n) (n + 1) (get_or w 0 0)) ≡ (n + 1) ∷ []) (sym is)
    (ap (λ b. either b (n + 1) n ∷ []) (eq-eqb n n refl))

same_word : (ws : List ℕ) (n : ℕ) → ws ≡ n ∷ [] → set ws 0 (get_or ws 0 0) ≡ n ∷ []
same_word ws n is = subst (λ (w : List ℕ). set w 0 (get_or w 0 0) ≡ n ∷ []) (sym is) refl

word_is : (ws : List ℕ) (n : ℕ) → ws ≡ n ∷ [] → get_or ws 0 0 ≡ n
word_is ws n is = ap (λ (w : List ℕ). get_or w 0 0) is

module _ {E : Type 0} where
  -- after one token's view has changed, each still fits
  fits_set : (seat : ℕ) (log now : List E) (views : List (View E)) (by : ℕ) (w : View E)
      → ((j : ℕ) (u : View E) → j ≢ by → get_elem? views j ≡ some u → Fits seat now j u) → Fits seat now by w
      → (j : ℕ) (u : View E) → get_elem? (set views by w) j ≡ some u → Fits seat now j u
  fits_set seat log now views by w others mine j u e =
      ⊎_elim
      (λ (x : (j ≡ by) × (w ≡ u)). subst (λ (y : ℕ × View E). Fits seat now y.0 y.1) (λ i. (sym x.0 i, x.1 i)) mine)
      (λ (x : (j ≢ by) × (get_elem? views j ≡ some u)). others j u x.0 x.1)
      (at_set views by j w u e)

  fits_reader : (seat : ℕ) (log : List E) (by : ℕ) (xs : List E) → IsPrefix xs log → Fits seat log by (reader xs)
  fits_reader seat log by xs p = ((λ c. absurd (off c)), p, (log, refl), (log, refl))

  pub begins : Kept (opening (0 ∷ []) [] (writer {E = E} []))
  begins = (0, [], refl, one)
    where
      one : (by : ℕ) (v : View E) → get_elem? (writer [] ∷ []) by ≡ some v → Fits 0 [] by v
      one zero v e = subst (Fits 0 [] 0) (some-injective _ _ e) ((λ _. (refl, refl)), ([], refl), ([], refl), ([], refl))
      one (suc by) v e = absurd (some-ne-none v (sym e))

  pub appends : (slots id : ℕ) (xs : List E) (n : ℕ) (x : E) → n ≡ length xs
      → Allows Kept slots id (writer xs, []) 0 (λ k. either (eqb k n) (n + 1) k) (Appended (step slots 0 n (n + 1) (some x)) (writer xs, []))
  appends slots id xs n x is s k sized at small =
      let seat = k.0 in
      let log = k.1 in
      let mine = (k.3 id (writer xs) at).0 refl in
      let now = log ++ x ∷ [] in
      let w = writer (xs ++ x ∷ []) in
      let long : n ≡ length log = is ∙ ap length mine.1 in
      let words : s.words ≡ n ∷ [] = k.2 ∙ ap (λ (m : ℕ). m ∷ []) (sym long) in
      let longer_by_one : n + 1 ≡ length now = omega (arith, length-append log (x ∷ [])) in (
        w,
        keeps,
        tt,
        (
          seat,
          now,
          exchanged_word s.words n words ∙ ap (λ (m : ℕ). m ∷ []) longer_by_one,
          fits_set seat log now s.views id w
              (λ j u apart e. let f = k.3 j u e in (
                (λ wr. absurd (apart ((f.0 wr).0 ∙ sym mine.0))),
                prefix_trans u.list log now f.1 (x ∷ [], refl),
                prefix_trans u.mine log now f.2 (x ∷ [], refl),
                prefix_trans u.theirs log now f.3 (x ∷ [], refl),
              ))
              (let all : xs ++ x ∷ [] ≡ now = ap (λ l. l ++ x ∷ []) mine.1 in
              ((λ _. (mine.0, all)), subst (λ l. IsPrefix l now) (sym all) (prefix_self now), (now, refl), (now, refl))),
        ),
        refl,
      )

  -- a token that is not the writer, or is, changes nothing
  loads : (slots id : ℕ) (v w : View E) (then : ℕ → Me E (View E) → Type 0)
      → ((seat : ℕ) (log : List E) → Fits seat log id v → Fits seat log id w × then (length log) (w, []))
      → Allows Kept slots id (v, []) 0 (λ n. n) then
  loads slots id v w then goes s k sized at small =
      let g = goes k.0 k.1 (k.3 id v at) in (
        w,
        keeps,
        tt,
        (k.0, k.1, same_word s.words (length k.1) k.2, fits_set k.0 k.1 k.1 s.views id w (λ j u apart e. k.3 j u e) g.0),
        subst (λ (n : ℕ). then n (w, [])) (sym (word_is s.words (length k.1) k.2)) g.1,
      )

  pub counts : (slots id : ℕ) (v : View E) → Allows Kept slots id (v, []) 0 (λ n. n) (Counted (step slots 0 0 0 none) (v, []))
  counts slots id v = loads slots id v v (Counted (step slots 0 0 0 none) (v, [])) (λ seat log f. (f, (refl, prefix_length v.list log f.1)))

  pub compares_now : (slots id : ℕ) (v : View E) → Allows Kept slots id (v, []) 0 (λ n. n) (Compared (step slots 0 0 0 none) (v, []))
  compares_now slots id v =
      let w : View E = record { writes = v.writes; list = v.list; mine = []; theirs = [] } in
      loads slots id v w (Compared (step slots 0 0 0 none) (v, []))
      (λ seat log f. (
        (f.0, f.1, (log, refl), (log, refl)),
        (
          refl,
          (λ le. prefix_shorter v.mine v.list log f.2 f.1 le),
          (λ le. prefix_shorter v.theirs v.list log f.3 f.1 le),
          (λ wr. subst (IsPrefix v.theirs) (sym (f.0 wr).1) f.3),
        ),
      ))

  -- one more reader
  pub copies : (id : ℕ) (v : View E) → Splits Kept id v v (copied v)
  copies id v s k at = (
    k.0,
    k.1,
    k.2,
    λ j u e. ⊎_elim
        (λ was. k.3 j u (subst (λ l. get_elem? l j ≡ some u) (set_again s.views id v at) was))
        (λ (same : copied v ≡ u). subst (Fits k.0 k.1 j) same (fits_reader k.0 k.1 j v.list (k.3 id v at).1))
        (at_snoc (set s.views id v) (copied v) u j e),
  )

  longer_begins : (log xs ys : List E) → IsPrefix xs log → IsPrefix ys log → IsPrefix (longer xs ys) log
  longer_begins log xs ys p q = cond_of (ltb (length xs) (length ys))
    where
      cond_of : (b : Bool) → IsPrefix (cond b ys xs) log
      cond_of true = q
      cond_of false = p

  chosen_begins : (log : List E) (b : Bool) (xs ys : List E) → IsPrefix xs log → IsPrefix ys log → IsPrefix (cond b xs (longer xs ys)) log
  chosen_begins log true xs ys p q = p
  chosen_begins log false xs ys p q = longer_begins log xs ys p q

  -- a token takes in a reader's list
  pub joins : (id : ℕ) (v : View E) (other : ℕ) (ys : List E) → Joins Kept id v other (reader ys) (compares v (reader ys)) spent
  joins id v other ys s k at apart there =
      let u = reader ys in
      let w = compares v u in
      let mine = k.3 id v at in
      let theirs =
      ⊎_elim
      (λ (t : (other ≡ id) × (w ≡ u)). absurd (apart t.0))
      (λ (t : (other ≢ id) × (get_elem? s.views other ≡ some u)). k.3 other u t.1)
      (at_set s.views id other w u there) in
      let fits : Fits k.0 k.1 id w = (
        (λ wr. let whole = mine.0 wr in (whole.0, ap (λ b. cond b v.list (longer v.list ys)) wr ∙ whole.1)),
        chosen_begins k.1 v.writes v.list ys mine.1 theirs.1,
        mine.1,
        theirs.1,
      ) in (
        k.0,
        k.1,
        k.2,
        fits_set k.0 k.1 k.1 (set s.views id w) other spent
            (λ j x _ e. fits_set k.0 k.1 k.1 s.views id w (λ i y _ e'. k.3 i y e') fits j x e)
            (fits_reader k.0 k.1 other [] (k.1, refl)),
      )

  -- what a join owes, as a fact of the other view
  abbrev pub Joining : ℕ → View E → ℕ → View E → Type 0
  Joining id v other u = Joins Kept id v other u (compares v u) spent

  -- the writer took in a reader's list, and compared
  pub whole_told : (xs ys : List E) (m0 m1 m2 : Me E (View E)) (u : View E) → m0 ≡ (writer xs, []) → u ≡ reader ys
      → m1 ≡ (compares m0.0 u, m0.1) → Compared (step 0 0 0 0 none) m1 0 m2
      → (m2 ≡ (writer xs, [])) × IsPrefix ys xs
  whole_told xs ys m0 m1 m2 u is-m0 is-u is-m1 told =
      let m1-is : m1 ≡ (compares (writer xs) (reader ys), []) =
      is-m1 ∙ ap (λ (p : Me E (View E) × View E). (compares p.0.0 p.1, p.0.1)) (λ i. (is-m0 i, is-u i)) in
      let known = subst (λ (m : Me E (View E)). Compared (step 0 0 0 0 none) m 0 m2) m1-is told in
      (known.0, known.3 refl)
