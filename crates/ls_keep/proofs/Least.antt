-- The least number behind which all lines may be kept.
use Rattle.std.proofs.Common.{◌≡◌, ◌≤◌, ◌<◌, ℕ, zero, suc, ◌+◌, ◌-◌, List, ◌++◌, length, drop, Bool, true, false, nat_le, min, max}
use Rattle.std.proofs.Common.{refl, sym, ◌∙◌, ap, subst, arith, cond, nat_lt}
use Rattle.std.proofs.lemmas.Bool.{and_from, and_parts, leb-true, leb-false, le-leb, ltb-true, ltb-false}
use Rattle.std.proofs.lemmas.List.{length-drop, length-append, drop-drop, drop-append-le, drop_all}
use Rattle.std.proofs.lemmas.List.Sums.{sum_by-take-drop, sum_by-append}
use Rattle.ls_keep.specs.Keeping.{bytes_of, may_keep, least_from, least_keeping, given_up_after}
use Rattle.ls_keep.specs.declared.limits.TheConstants.{MOST_KEPT_LINES, MOST_KEPT_BYTES}

-- lines behind a later number have no more bytes
bytes_behind : (texts : List (List ℕ)) (n more : ℕ) → bytes_of (drop (n + more) texts) ≤ bytes_of (drop n texts)
bytes_behind texts n more =
    subst (λ (ts : List (List ℕ)). bytes_of ts ≤ bytes_of (drop n texts)) (drop-drop more n texts)
    (omega (arith, sum_by-take-drop length (drop n texts) more))

-- where lines may be kept, those behind a later number may
pub may_keep-later : (texts : List (List ℕ)) (n k : ℕ) → n ≤ k → may_keep texts n ≡ true → may_keep texts k ≡ true
may_keep-later texts n k later may =
    let parts = and_parts (nat_le (length (drop n texts)) MOST_KEPT_LINES) (nat_le (bytes_of (drop n texts)) MOST_KEPT_BYTES) may in
    let few : length (drop n texts) ≤ MOST_KEPT_LINES = leb-true _ _ parts.0 in
    let short : bytes_of (drop n texts) ≤ MOST_KEPT_BYTES = leb-true _ _ parts.1 in
    let same : n + (k - n) ≡ k = omega (arith, later) in
    let less : bytes_of (drop k texts) ≤ bytes_of (drop n texts) =
    subst (λ (m : ℕ). bytes_of (drop m texts) ≤ bytes_of (drop n texts)) same (bytes_behind texts n (k - n)) in
    and_from (nat_le (length (drop k texts)) MOST_KEPT_LINES) (nat_le (bytes_of (drop k texts)) MOST_KEPT_BYTES)
    (le-leb _ _ (omega (arith, length-drop n texts, length-drop k texts)))
    (le-leb _ _ (omega arith))

-- no lines may be kept
pub may_keep-none : (texts : List (List ℕ)) (n : ℕ) → length texts ≤ n → may_keep texts n ≡ true
may_keep-none texts n past = rw (drop_all n texts past) refl

-- behind the least number they may be kept, and behind none before it
pub least_from-keeps : (k n : ℕ) (texts : List (List ℕ)) → length texts ≤ n + k → may_keep texts (least_from k n texts) ≡ true
least_from-keeps zero n texts past = may_keep-none texts n (omega (arith, past))
least_from-keeps (suc k) n texts past = by_test (may_keep texts n) refl (least_from-keeps k (n + 1) texts (omega (arith, past)))
  where
    by_test : (v : Bool) → may_keep texts n ≡ v → may_keep texts (least_from k (n + 1) texts) ≡ true
        → may_keep texts (cond v n (least_from k (n + 1) texts)) ≡ true
    by_test true t rest = t
    by_test false t rest = rest

pub least_from-before : (k n : ℕ) (texts : List (List ℕ)) (m : ℕ) → n ≤ m → m < least_from k n texts → may_keep texts m ≡ false
least_from-before zero n texts m from before = absurd (omega (arith, from, before))
least_from-before (suc k) n texts m from before =
    by_test (may_keep texts n) refl before (λ later. least_from-before k (n + 1) texts m later)
  where
    by_test : (v : Bool) → may_keep texts n ≡ v → m < cond v n (least_from k (n + 1) texts)
        → (n + 1 ≤ m → m < least_from k (n + 1) texts → may_keep texts m ≡ false) → may_keep texts m ≡ false
    by_test true t less rest = absurd (omega (arith, from, less))
    by_test false t less rest = by_order (nat_lt n m) refl
      where
        by_order : (w : Bool) → nat_lt n m ≡ w → may_keep texts m ≡ false
        by_order true e = rest (omega (arith, ltb-true n m e)) less
        by_order false e = ap (may_keep texts) {x = m} {y = n} (omega (arith, from, ltb-false n m e)) ∙ t

pub differs : (v : Bool) → v ≡ true → v ≡ false → ⊥
differs v t f = let x : true ≡ false = sym t ∙ f in cc

-- so it is the given-up number up to which lines were given up one after the other, as long as they had to be
pub given_up_after-is : (texts : List (List ℕ)) (before now sent : ℕ) → before ≤ now → now ≤ sent
    → ((n : ℕ) → before ≤ n → n < now → may_keep texts n ≡ false) → (now < sent → may_keep texts now ≡ true)
    → now ≡ given_up_after before sent texts
given_up_after-is texts before now sent rose given over trim = omega (arith, lower, upper)
  where
    least : ℕ
    least = least_keeping texts

    keeps : may_keep texts least ≡ true
    keeps = least_from-keeps (length texts) 0 texts (omega arith)

    lower : now ≤ max before least
    lower = by_order (nat_le now (max before least)) refl
      where
        by_order : (v : Bool) → nat_le now (max before least) ≡ v → now ≤ max before least
        by_order true t = leb-true now (max before least) t
        by_order false t =
            let above : max before least < now = leb-false now (max before least) t in
            absurd (differs (may_keep texts (now - 1)) (may_keep-later texts least (now - 1) (omega (arith, above)) keeps)
            (over (now - 1) (omega (arith, above)) (omega (arith, above))))

    upper : min sent least ≤ now
    upper = by_order (nat_le (min sent least) now) refl
      where
        by_order : (v : Bool) → nat_le (min sent least) now ≡ v → min sent least ≤ now
        by_order true t = leb-true (min sent least) now t
        by_order false t =
            let below : now < min sent least = leb-false (min sent least) now t in
            absurd (differs (may_keep texts now) (trim (omega (arith, below)))
            (least_from-before (length texts) 0 texts now (omega arith) (omega (arith, below))))

-- where lines may be kept with more lines behind them, they may be without
pub may_keep-less : (texts more : List (List ℕ)) (n : ℕ) → may_keep (texts ++ more) n ≡ true → may_keep texts n ≡ true
may_keep-less texts more n may = by_order (nat_le n (length texts)) refl
  where
    parts : (nat_le (length (drop n (texts ++ more))) MOST_KEPT_LINES ≡ true) × (nat_le (bytes_of (drop n (texts ++ more))) MOST_KEPT_BYTES ≡ true)
    parts = and_parts (nat_le (length (drop n (texts ++ more))) MOST_KEPT_LINES) (nat_le (bytes_of (drop n (texts ++ more))) MOST_KEPT_BYTES) may

    by_order : (v : Bool) → nat_le n (length texts) ≡ v → may_keep texts n ≡ true
    by_order false t = may_keep-none texts n (omega (arith, leb-false n (length texts) t))
    by_order true t =
        let both : drop n (texts ++ more) ≡ drop n texts ++ more = drop-append-le n texts more (leb-true n (length texts) t) in
        and_from (nat_le (length (drop n texts)) MOST_KEPT_LINES) (nat_le (bytes_of (drop n texts)) MOST_KEPT_BYTES)
        (le-leb _ _ (omega (arith, leb-true _ _ parts.0, ap length both, length-append (drop n texts) more)))
        (le-leb _ _ (omega (arith, leb-true _ _ parts.1, ap bytes_of both, sum_by-append length (drop n texts) more)))

-- with more lines the least number is no less
pub least_keeping-append : (texts more : List (List ℕ)) → least_keeping texts ≤ least_keeping (texts ++ more)
least_keeping-append texts more = by_order (nat_le (least_keeping texts) later) refl
  where
    later : ℕ
    later = least_keeping (texts ++ more)

    keeps : may_keep (texts ++ more) later ≡ true
    keeps = least_from-keeps (length (texts ++ more)) 0 (texts ++ more) (omega arith)

    by_order : (v : Bool) → nat_le (least_keeping texts) later ≡ v → least_keeping texts ≤ later
    by_order true t = leb-true (least_keeping texts) later t
    by_order false t =
        absurd (differs (may_keep texts later) (may_keep-less texts more later keeps)
        (least_from-before (length texts) 0 texts later (omega arith) (leb-false (least_keeping texts) later t)))
