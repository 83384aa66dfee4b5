-- What is answered of a tick from which on something may be done.
use Rattle.std.specs.Prelude.{◌≡◌, ℕ, ◌<◌, ◌≤◌, List, Bool, true, false, Option, None, Some, nat_lt, if◌then◌else◌}
use Rattle.ls_budget.specs.Budget.{Spend, has_credit}
use Rattle.ls_budget.specs.declared.due.Due.{Due}
use Rattle.ls_budget.specs.declared.due.Due.TheVariants as due

-- now, where a tick is not to come
abbrev pub due_at : ℕ → ℕ → Due
due_at tick now = if nat_lt now tick then due.At tick else due.Now

-- the tick that is answered
abbrev pub answered_tick : Due → ℕ → ℕ
answered_tick due.Now now = now
answered_tick (due.At tick) now = tick

-- whether there is credit under a rate, if any
abbrev pub allows : Option ℕ → List Spend → ℕ → Bool
allows None spends now = true
allows (Some r) spends now = has_credit r spends now

-- a tick is the first one from now on of which something is true
pub record IsFirst (is_so : ℕ → Bool) (now tick : ℕ) : Type 0 where
  pub from_now : now ≤ tick
  pub so : is_so tick ≡ true
  pub not_before : (m : ℕ) → now ≤ m → m < tick → is_so m ≡ false
