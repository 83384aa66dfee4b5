-- Budgets: how often a slot may give an update, and how much a session may give (General Concepts, frequency and
-- bandwidth).
use Rattle.std.specs.Prelude.{ℕ, ◌+◌, ◌-◌, ◌*◌, ◌/◌, List, [], ◌∷◌, max, Bool, Option, None, Some, nat_lt}
use Rattle.std.specs.Prelude.{if◌then◌else◌}

-- the ms between two updates of a frequency in thousandths of an update per second, rounded up
abbrev pub interval : ℕ → ℕ
interval f = (1000000 + (f - 1)) / f

-- the first tick at which a frequency allows an update, by the tick of the last one
abbrev pub frequency_tick : Option ℕ → Option ℕ → ℕ
frequency_tick None last = 0
frequency_tick (Some f) None = 0
frequency_tick (Some f) (Some last) = last + interval f

-- an update took so many bytes at a tick
pub record Spend : Type 0 where
  pub tick : ℕ
  pub bytes : ℕ

-- a rate is in thousandths of a kbit per s, which is a thousandth of a bit per ms. The greatest credit is that of a
-- second, in thousandths of a bit
abbrev pub full_credit : ℕ → ℕ
full_credit r = 1000 * r

-- what a spend takes, in thousandths of a bit
abbrev pub taken_by : Spend → ℕ
taken_by s = 8000 * s.bytes

-- what the credit lacks to the greatest one at a tick, by what was spent since the rate was set, the newest first: at
-- first nothing; each ms restores the rate's thousandth of a bit, and nothing is restored beyond the greatest credit
abbrev pub lacking : ℕ → List Spend → ℕ → ℕ
lacking r [] now = 0
lacking r (s ∷ spends) now = (lacking r spends s.tick + taken_by s) - r * (now - s.tick)

-- the credit, which is 0 where there is a debt; and the debt, which is 0 where there is none
abbrev pub credit : ℕ → List Spend → ℕ → ℕ
credit r spends now = full_credit r - lacking r spends now

abbrev pub debt : ℕ → List Spend → ℕ → ℕ
debt r spends now = lacking r spends now - full_credit r

-- whether there is credit
abbrev pub has_credit : ℕ → List Spend → ℕ → Bool
has_credit r spends now = nat_lt 0 (credit r spends now)

-- the first tick from now on at which there is: a debt is gone in as many ms as the rate goes into it, and one more
abbrev pub credit_tick : Option ℕ → List Spend → ℕ → ℕ
credit_tick None spends now = now
credit_tick (Some r) spends now = if has_credit r spends now then now else now + debt r spends now / r + 1

-- the first tick from now on at which both the frequency and the credit allow an update
abbrev pub due_tick : ℕ → ℕ → ℕ
due_tick by_frequency by_credit = max by_frequency by_credit
