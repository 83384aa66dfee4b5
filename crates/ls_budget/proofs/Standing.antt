-- What is kept says what the spends say.
use Rattle.std.proofs.Common.{◌≡◌, ℕ, ◌+◌, ◌-◌, ◌*◌, ◌/◌, ◌<◌, ◌≤◌, List, ◌∷◌, refl, sym, ◌∙◌, ap, arith, Bool, true, false, cond}
use Rattle.std.proofs.Common.{nat_lt, subst, Option, Some, None, unwrap_or}
use Rattle.std.proofs.lemmas.Bool.{ltb-true, ltb-false, lt-ltb, le-ltb}
use Rattle.std.proofs.Math.Nat.{mul-zero}
use Rattle.std.specs.Option.{ForSome}
use Rattle.ls_budget.specs.Budget.{Spend, full_credit, lacking, debt, has_credit, credit_tick}
use Rattle.ls_budget.specs.Due.{due_at, answered_tick, allows, IsFirst}
use Rattle.ls_budget.specs.declared.due.Due.TheVariants as due
use Rattle.ls_budget.specs.Kept.{KeptCredit, StandsBandwidth, KeepsBy, KeepsCredit, lacks_at, tick_by, kept_tick, due_of, lacks_after, spent}
use Rattle.ls_budget.specs.Kept.{MaySpend}
use Rattle.ls_value.specs.declared.limits.TheConstants.{GREATEST_TICK}
use Rattle.ls_budget.specs.declared.limits.TheConstants.{MOST_BYTES}
use Rattle.ls_budget.proofs.Credits.{lacking_later, credit_tick_first}

-- what is lacking at a tick
lacks_is_lacking : (k : KeptCredit) (r : ℕ) (spends : List Spend) (now : ℕ) → KeepsCredit k r spends → k.latest ≤ now
    → lacks_at k r now ≡ lacking r spends now
lacks_is_lacking k r spends now keeps more =
    ap (λ n. n - r * (now - k.latest)) keeps.lacks_is ∙ sym (lacking_later r spends k.latest now keeps.behind more)

-- there is credit where less than the greatest one is lacking
below_is_credit : (a b : ℕ) → nat_lt a b ≡ nat_lt 0 (b - a)
below_is_credit a b = by_test (nat_lt a b) refl
  where
    by_test : (v : Bool) → nat_lt a b ≡ v → v ≡ nat_lt 0 (b - a)
    by_test true t = sym (lt-ltb 0 (b - a) (omega (arith, ltb-true a b t)))
    by_test false t = sym (le-ltb 0 (b - a) (omega (arith, ltb-false a b t)))

tick_by_is : (r : ℕ) (spends : List Spend) (now : ℕ) → tick_by r (lacking r spends now) now ≡ credit_tick (Some r) spends now
tick_by_is r spends now =
    ap (λ v. cond v now (now + debt r spends now / r + 1)) (below_is_credit (lacking r spends now) (full_credit r))

kept_tick_by : (k : KeptCredit) (rate : Option ℕ) (spends : List Spend) (now : ℕ) → KeepsBy k rate spends → k.latest ≤ now
    → kept_tick k rate now ≡ credit_tick rate spends now
kept_tick_by k None spends now keeps more = refl
kept_tick_by k (Some r) spends now keeps more =
    ap (λ n. tick_by r n now) (lacks_is_lacking k r spends now keeps more) ∙ tick_by_is r spends now

-- what is answered is the first tick with credit
pub due_of_is : (k : KeptCredit) (rate : Option ℕ) (spends : List Spend) (now : ℕ) → StandsBandwidth k rate spends
    → k.latest ≤ now → due_of k now ≡ due_at (credit_tick rate spends now) now
due_of_is k rate spends now st more =
    ap (λ o. due_at (kept_tick k o now) now) st.rate_is
    ∙ ap (λ n. due_at n now) (kept_tick_by k rate spends now st.keeps more)

-- the answer's tick is the one that it is the answer of, if that is not over
pub answered_is : (tick now : ℕ) → now ≤ tick → answered_tick (due_at tick now) now ≡ tick
answered_is tick now more = by_test (nat_lt now tick) refl
  where
    by_test : (v : Bool) → nat_lt now tick ≡ v → answered_tick (cond v (due.At tick) due.Now) now ≡ tick
    by_test true t = refl
    by_test false t = omega (arith, more, ltb-false now tick t)

-- where it is due, it is due now
pub due_now : (tick now : ℕ) → due_at tick now ≡ due.Now → tick ≤ now
due_now tick now is = by_test (nat_lt now tick) refl (ap (λ d. answered_tick d now) is)
  where
    by_test : (v : Bool) → nat_lt now tick ≡ v → answered_tick (cond v (due.At tick) due.Now) now ≡ now → tick ≤ now
    by_test true t e = omega (arith, e)
    by_test false t e = ltb-false now tick t

-- and where its tick is over, it is due
pub is_due_now : (tick now : ℕ) → tick ≤ now → due_at tick now ≡ due.Now
is_due_now tick now over = ap (λ v. cond v (due.At tick) due.Now) (le-ltb now tick over)

first_by : (k : KeptCredit) (rate : Option ℕ) (spends : List Spend) (now : ℕ) → KeepsBy k rate spends → k.latest ≤ now
    → IsFirst (allows rate spends) now (credit_tick rate spends now)
first_by k None spends now keeps more =
    record { from_now = omega arith; so = refl; not_before = λ m from before. absurd (omega (arith, from, before)) }
first_by k (Some r) spends now keeps more =
    credit_tick_first (Some r) spends now positive (omega (arith, keeps.behind, more))
  where
    positive : ForSome (Some r) (λ x. 0 < x)
    positive x is = subst (λ n. 0 < n) (ap (λ o. unwrap_or o 0) is) keeps.some

-- the answer is the first tick with credit
pub answer_first : (k : KeptCredit) (rate : Option ℕ) (spends : List Spend) (now : ℕ) → StandsBandwidth k rate spends
    → k.latest ≤ now → IsFirst (allows rate spends) now (answered_tick (due_of k now) now)
answer_first k rate spends now st more =
    let first : IsFirst (allows rate spends) now (credit_tick rate spends now) = first_by k rate spends now st.keeps more in
    let is : credit_tick rate spends now ≡ answered_tick (due_of k now) now =
    sym (ap (λ d. answered_tick d now) (due_of_is k rate spends now st more)
    ∙ answered_is (credit_tick rate spends now) now first.from_now) in
    subst (IsFirst (allows rate spends) now) is first

spent_by : (k : KeptCredit) (rate : Option ℕ) (spends : List Spend) (now bytes : ℕ) → KeepsBy k rate spends
    → k.latest ≤ now → kept_tick k rate now ≤ now
    → KeepsBy (record { rate = k.rate; latest = now; lacks = lacks_after k rate now bytes }) rate
    (record { tick = now; bytes = bytes } ∷ spends)
spent_by k None spends now bytes keeps more is = tt
spent_by k (Some r) spends now bytes keeps more is =
    let lacks : lacks_at k r now ≡ lacking r spends now = lacks_is_lacking k r spends now keeps more in
    let nothing : r * (now - now) ≡ 0 = ap (λ n. r * n) {x = now - now} {y = 0} (omega arith) ∙ mul-zero r in
    record {
      some = keeps.some;
      made = (by_test (has_credit r spends now) refl, omega (arith, keeps.behind, more), keeps.made);
      behind = omega arith;
      lacks_is = omega (arith, lacks, nothing);
    }
  where
    over : credit_tick (Some r) spends now ≤ now
    over = subst (λ n. n ≤ now) (kept_tick_by k (Some r) spends now keeps more) is

    by_cond : (v : Bool) → cond v now (now + debt r spends now / r + 1) ≤ now → v ≡ true
    by_cond true low = refl
    by_cond false low = absurd (omega (arith, low))

    by_test : (v : Bool) → has_credit r spends now ≡ v → has_credit r spends now ≡ true
    by_test v t = by_cond (has_credit r spends now) over

-- after a spend
pub spent_stands : (k : KeptCredit) (rate : Option ℕ) (spends : List Spend) (now bytes : ℕ) → StandsBandwidth k rate spends
    → k.latest ≤ now → due_of k now ≡ due.Now
    → StandsBandwidth (spent k now bytes) rate (record { tick = now; bytes = bytes } ∷ spends)
spent_stands k rate spends now bytes st more is =
    let over : kept_tick k k.rate now ≤ now = due_now (kept_tick k k.rate now) now is in
    record {
      rate_is = st.rate_is;
      keeps = subst (λ o. KeepsBy (record { rate = k.rate; latest = now; lacks = lacks_after k o now bytes }) rate
          (record { tick = now; bytes = bytes } ∷ spends)) (sym st.rate_is)
          (spent_by k rate spends now bytes st.keeps more
          (subst (λ o. kept_tick k o now ≤ now) st.rate_is over));
    }

-- what is spent at a tick with credit may be
pub may_spend : (k : KeptCredit) (rate : Option ℕ) (spends : List Spend) (now bytes : ℕ) → StandsBandwidth k rate spends
    → k.latest ≤ now → now ≤ GREATEST_TICK → credit_tick rate spends now ≡ now → bytes ≤ MOST_BYTES → MaySpend k now bytes
may_spend k rate spends now bytes st more tick has most =
    record {
      behind = more;
      tick = tick;
      bytes_most = most;
      due = due_of_is k rate spends now st more ∙ ap (λ n. due_at n now) has
          ∙ ap (λ v. cond v (due.At now) due.Now) (le-ltb now now (omega arith));
    }
