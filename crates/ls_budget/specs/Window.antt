-- Spends that were made with credit, and those in a window of ticks.
use Rattle.std.specs.Prelude.{◌≡◌, ℕ, ◌≤◌, List, [], ◌∷◌, true, sum_by}
use Rattle.ls_budget.specs.Budget.{Spend, taken_by, has_credit}

-- the tick of the newest spend
abbrev pub latest_tick : List Spend → ℕ
latest_tick [] = 0
latest_tick (s ∷ spends) = s.tick

-- each spend was made with credit, and their ticks don't fall; the newest comes first
abbrev pub MadeWithCredit : ℕ → List Spend → Type 0
MadeWithCredit r [] = Unit {0}
MadeWithCredit r (s ∷ spends) =
    (has_credit r spends s.tick ≡ true) × (latest_tick spends ≤ s.tick) × MadeWithCredit r spends

-- a spend's tick is in the window from one tick to another
abbrev pub IsWithin : ℕ → ℕ → Spend → Type 0
IsWithin from to s = (from ≤ s.tick) × (s.tick ≤ to)

-- what spends took together, in thousandths of a bit
abbrev pub taken_in_all : List Spend → ℕ
taken_in_all spends = sum_by taken_by spends
