-- What time makes of credit, and its first tick.
use Rattle.std.proofs.Common.{◌≡◌, ℕ, ◌+◌, ◌-◌, ◌*◌, ◌/◌, ◌<◌, ◌≤◌, List, [], ◌∷◌, refl, ◌∙◌, ap, arith, Bool, true, false, cond}
use Rattle.std.proofs.Common.{Option, Some, None}
use Rattle.std.proofs.lemmas.Bool.{ltb-true, ltb-false, lt-ltb, le-ltb}
use Rattle.std.proofs.Math.Nat.{mul-add, mul-le-mul_left, lt-mul-div-succ, mul-div-le}
use Rattle.std.specs.Option.{ForSome}
use Rattle.ls_budget.specs.Budget.{Spend, full_credit, lacking, credit, debt, has_credit, credit_tick}
use Rattle.ls_budget.specs.Due.{allows, IsFirst}
use Rattle.ls_budget.specs.Window.{latest_tick}

-- what is restored in two times is restored in both
pub restored : (r a b c : ℕ) → a ≤ b → b ≤ c → r * (c - a) ≡ r * (b - a) + r * (c - b)
restored r a b c low high =
    ap (λ n. r * n) {x = c - a} {y = (b - a) + (c - b)} (omega (arith, low, high)) ∙ mul-add r (b - a) (c - b)

-- what is lacking later
pub lacking_later : (r : ℕ) (spends : List Spend) (now later : ℕ) → latest_tick spends ≤ now → now ≤ later
    → lacking r spends later ≡ lacking r spends now - r * (later - now)
lacking_later r [] now later behind more = omega arith
lacking_later r (s ∷ spends) now later behind more = omega (arith, restored r s.tick now later behind more)

-- no more is lacking later
pub lacking_falls : (r : ℕ) (spends : List Spend) (now later : ℕ) → now ≤ later
    → lacking r spends later ≤ lacking r spends now
lacking_falls r [] now later more = omega arith
lacking_falls r (s ∷ spends) now later more =
    omega (arith, mul-le-mul_left {m = now - s.tick} {n = later - s.tick} r (omega (arith, more)))

-- credit never falls
pub credit_grows : (r : ℕ) (spends : List Spend) (now later : ℕ) → now ≤ later
    → credit r spends now ≤ credit r spends later
credit_grows r spends now later more = omega (arith, lacking_falls r spends now later more)

-- credit stays
pub credit_stays : (r : ℕ) (spends : List Spend) (now later : ℕ) → now ≤ later → has_credit r spends now ≡ true
    → has_credit r spends later ≡ true
credit_stays r spends now later more has =
    lt-ltb 0 (credit r spends later)
    (omega (arith, credit_grows r spends now later more, ltb-true 0 (credit r spends now) has))

-- the ms in which a debt is gone
abbrev ms_of : ℕ → ℕ → ℕ
ms_of r owed = owed / r + 1

tick_with_credit : (r : ℕ) (spends : List Spend) (now : ℕ) → 0 < r → latest_tick spends ≤ now
    → full_credit r ≤ lacking r spends now
    → IsFirst (has_credit r spends) now (now + debt r spends now / r + 1)
tick_with_credit r spends now some behind owes =
    let owed : ℕ = debt r spends now in
    let tick : ℕ = now + owed / r + 1 in
    let gone : owed < r * (owed / r + 1) = lt-mul-div-succ owed some in
    let whole : r * (tick - now) ≡ r * (owed / r + 1) =
    ap (λ n. r * n) {x = tick - now} {y = owed / r + 1} (omega arith) in
    record {
      from_now = omega arith;
      so = lt-ltb 0 (credit r spends tick)
          (omega (arith, lacking_later r spends now tick behind (omega arith), gone, whole, owes, some));
      not_before = λ m from before.
          le-ltb 0 (credit r spends m)
          (omega (
            arith,
            lacking_later r spends now m behind from,
            mul-div-le owed r,
            owes,
            mul-le-mul_left {m = m - now} {n = owed / r} r (omega (arith, before)),
          ));
    }

-- the first tick with credit is the first
pub credit_tick_first : (rate : Option ℕ) (spends : List Spend) (now : ℕ) → ForSome rate (λ r. 0 < r)
    → latest_tick spends ≤ now → IsFirst (allows rate spends) now (credit_tick rate spends now)
credit_tick_first None spends now some behind =
    record { from_now = omega arith; so = refl; not_before = λ m from before. absurd (omega (arith, from, before)) }
credit_tick_first (Some r) spends now positive behind = by_test (has_credit r spends now) refl
  where
    some : 0 < r
    some = positive r refl

    by_test : (v : Bool) → has_credit r spends now ≡ v
        → IsFirst (has_credit r spends) now (cond v now (now + debt r spends now / r + 1))
    by_test true t =
        record { from_now = omega arith; so = t; not_before = λ m from before. absurd (omega (arith, from, before)) }
    by_test false t =
        tick_with_credit r spends now some behind (omega (arith, ltb-false 0 (credit r spends now) t))
