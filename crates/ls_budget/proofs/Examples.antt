-- Budgets, computed by the definitions alone.
use Rattle.std.proofs.Common.{◌≡◌, ℕ, List, [], ◌∷◌, refl, false, None, Some, arith, ◌^◌, ◌-◌, ◌+◌}
use Rattle.ls_budget.specs.Budget.{Spend, interval, frequency_tick, credit, debt, has_credit, credit_tick, due_tick}
use Rattle.ls_budget.specs.Window.{MadeWithCredit, taken_in_all}

abbrev spent_at : ℕ → ℕ → Spend
spent_at tick bytes = record { tick = tick; bytes = bytes }

-- intervals are rounded up, and none is 0
two_a_second : interval 2000 ≡ 500
two_a_second = refl

three_a_second : interval 3000 ≡ 334
three_a_second = refl

lowest_frequency : interval 1 ≡ 1000000
lowest_frequency = refl

a_thousand_a_second : interval 1000000 ≡ 1
a_thousand_a_second = refl

beyond_one_a_ms : interval 1000001 ≡ 1
beyond_one_a_ms = refl

-- the first update may be given at once, and each without a frequency
first_update : frequency_tick (Some 2000) None ≡ 0
first_update = refl

next_update : frequency_tick (Some 3000) (Some 40) ≡ 374
next_update = refl

no_frequency : frequency_tick None (Some 40) ≡ 0
no_frequency = refl

-- 80 thousandths of a kbit per s: two spends of 9 bytes, the second with what the first left
abbrev two_spends : List Spend
two_spends = spent_at 0 9 ∷ spent_at 0 9 ∷ []

both_were_made_with_credit : MadeWithCredit 80 two_spends
both_were_made_with_credit = (refl, omega arith, (refl, omega arith, tt))

-- together they take more than the greatest credit, but the first alone does not
both_take : taken_in_all two_spends ≡ 144000
both_take = refl

first_leaves : credit 80 (spent_at 0 9 ∷ []) 0 ≡ 8000
first_leaves = refl

first_is_due : credit_tick (Some 80) (spent_at 0 9 ∷ []) 0 ≡ 0
first_is_due = refl

second_owes : debt 80 two_spends 0 ≡ 64000
second_owes = refl

gone_at_800 : debt 80 two_spends 800 ≡ 0
gone_at_800 = refl

no_credit_at_800 : has_credit 80 two_spends 800 ≡ false
no_credit_at_800 = refl

credit_at_801 : credit 80 two_spends 801 ≡ 80
credit_at_801 = refl

due_at_801 : credit_tick (Some 80) two_spends 0 ≡ 801
due_at_801 = refl

due_at_801_still : credit_tick (Some 80) two_spends 800 ≡ 801
due_at_801_still = refl

due_then : credit_tick (Some 80) two_spends 801 ≡ 801
due_then = refl

-- credit is full again in time, and grows no further
full_at_1800 : credit 80 two_spends 1800 ≡ 80000
full_at_1800 = refl

never_fuller : credit 80 two_spends 1000000 ≡ 80000
never_fuller = refl

-- so a spend after a long time leaves what it leaves of a full credit
after_long : credit 80 (spent_at 1000000 9 ∷ two_spends) 1000000 ≡ 8000
after_long = refl

-- no rate, no debt
without_rate : credit_tick None two_spends 7 ≡ 7
without_rate = refl

-- a rate that fits in 64 bits, at the greatest tick
highest_rate : credit_tick (Some (2 ^ 64 - 1)) (spent_at 0 16386 ∷ []) (10 ^ 18) ≡ 10 ^ 18
highest_rate = refl

lowest_rate : credit_tick (Some 1) (spent_at (10 ^ 18) 16386 ∷ []) (10 ^ 18) ≡ 10 ^ 18 + 131087001
lowest_rate = refl

-- the later of both is due
both_due : due_tick (frequency_tick (Some 2000) (Some 0)) (credit_tick (Some 80) two_spends 0) ≡ 801
both_due = refl
