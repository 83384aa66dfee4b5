-- Which lines a client may lose.
use Rattle.std.proofs.Common.{◌≡◌, ◌≤◌, ◌<◌, ℕ, ◌-◌, List, ◌++◌, length, drop, Bool, true, false, nat_le, nat_lt, ◌&&◌}
use Rattle.std.proofs.Common.{refl, arith, inl, inr}
use Rattle.std.proofs.lemmas.Bool.{and_parts, leb-true, leb-false, ltb-true, ltb-false}
use Rattle.ls_keep.specs.Keeping.{Numbered, bytes_of, may_keep, least_keeping, given_up_after, trimmed}
use Rattle.ls_keep.specs.Losses.{AreTooMany, AreFew, LosesOldest, KeepsFew, KeepsLatest}
use Rattle.ls_keep.specs.declared.limits.TheConstants.{MOST_KEPT_LINES, MOST_KEPT_BYTES}
use Rattle.ls_keep.proofs.Least.{differs, may_keep-later, may_keep-less, least_from-keeps, least_from-before}

-- what the test says
few : (texts : List (List ℕ)) (n : ℕ) → may_keep texts n ≡ true → AreFew (drop n texts)
few texts n may =
    let parts = and_parts (nat_le (length (drop n texts)) MOST_KEPT_LINES) (nat_le (bytes_of (drop n texts)) MOST_KEPT_BYTES) may in
    (leb-true _ _ parts.0, leb-true _ _ parts.1)

too_many : (texts : List (List ℕ)) (n : ℕ) → may_keep texts n ≡ false → AreTooMany (drop n texts)
too_many texts n may = by_lines (nat_le (length (drop n texts)) MOST_KEPT_LINES) refl may
  where
    by_lines : (v : Bool) → nat_le (length (drop n texts)) MOST_KEPT_LINES ≡ v
        → (v && nat_le (bytes_of (drop n texts)) MOST_KEPT_BYTES) ≡ false → AreTooMany (drop n texts)
    by_lines false t is = inl (leb-false _ _ t)
    by_lines true t is = inr (leb-false _ _ is)

may_not : (texts : List (List ℕ)) (n : ℕ) → AreTooMany (drop n texts) → may_keep texts n ≡ false
may_not texts n many = by_test (may_keep texts n) refl
  where
    by_test : (v : Bool) → may_keep texts n ≡ v → v ≡ false
    by_test false t = refl
    by_test true t = absurd (let h : AreFew (drop n texts) = few texts n t in omega (arith, many, h.0, h.1))

-- the line behind a count is given up only as it was given and all lines behind the count may not be kept
given_up_behind : (n : Numbered) (count : ℕ) → n.given_up ≤ count → count < (trimmed n).given_up
    → (count < n.sent) × (may_keep n.texts count ≡ false)
given_up_behind n count from before = (
  omega (arith, from, before),
  least_from-before (length n.texts) 0 n.texts count (omega arith) (omega (arith, from, before)),
)

pub loses_oldest : (before n : Numbered) → before.given_up ≡ n.given_up → LosesOldest before (trimmed n)
loses_oldest before n same = λ line above within.
    let lost : (line - 1 < n.sent) × (may_keep n.texts (line - 1) ≡ false) =
    given_up_behind n (line - 1) (omega (arith, above, same)) (omega (arith, above, within)) in
    (omega (arith, above, lost.0), too_many n.texts (line - 1) lost.1)

-- no more of the lines that were given are kept than may be
pub keeps_few : (n : Numbered) → n.given_up ≤ n.sent → KeepsFew (trimmed n)
keeps_few n given = by_order (nat_lt now n.sent) refl
  where
    now : ℕ
    now = given_up_after n.given_up n.sent n.texts

    by_order : (v : Bool) → nat_lt now n.sent ≡ v → KeepsFew (trimmed n)
    by_order false t = inl (omega (arith, given, ltb-false now n.sent t))
    by_order true t =
        inr (few n.texts now (may_keep-later n.texts (least_keeping n.texts) now (omega (arith, ltb-true now n.sent t))
        (least_from-keeps (length n.texts) 0 n.texts (omega arith))))

-- the latest lines are kept as more are numbered and given up
pub keeps_latest : (n : Numbered) → KeepsLatest n → KeepsLatest (trimmed n)
keeps_latest n keeps = λ count before. by_order count before (nat_lt count n.given_up) refl
  where
    by_order : (count : ℕ) → count < (trimmed n).given_up → (v : Bool) → nat_lt count n.given_up ≡ v → AreTooMany (drop count n.texts)
    by_order count before true t = keeps count (ltb-true count n.given_up t)
    by_order count before false t =
        too_many n.texts count (given_up_behind n count (ltb-false count n.given_up t) before).1

pub keeps_latest_with : (n : Numbered) (more : List (List ℕ)) → KeepsLatest n → KeepsLatest (record n { texts = n.texts ++ more })
keeps_latest_with n more keeps = λ count before. too_many (n.texts ++ more) count (by_test count before (may_keep (n.texts ++ more) count) refl)
  where
    by_test : (count : ℕ) → count < n.given_up → (v : Bool) → may_keep (n.texts ++ more) count ≡ v → v ≡ false
    by_test count before false t = refl
    by_test count before true t =
        absurd (differs (may_keep n.texts count) (may_keep-less n.texts more count t) (may_not n.texts count (keeps count before)))
