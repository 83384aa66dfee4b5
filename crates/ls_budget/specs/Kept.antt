-- What is kept of a frequency and of a bandwidth, and what it stands for.
use Rattle.std.specs.Prelude.{◌≡◌, ℕ, ◌+◌, ◌-◌, ◌*◌, ◌/◌, ◌<◌, ◌≤◌, List, Option, None, Some, nat_lt}
use Rattle.std.specs.Prelude.{if◌then◌else◌}
use Rattle.ls_budget.specs.Budget.{Spend, full_credit, lacking}
use Rattle.std.specs.Option.{ForSome}
use Rattle.ls_budget.specs.declared.due.Due.{Due}
use Rattle.ls_budget.specs.declared.due.Due.TheVariants as due
use Rattle.ls_value.specs.declared.limits.TheConstants.{GREATEST_TICK}
use Rattle.ls_budget.specs.declared.limits.TheConstants.{MOST_BYTES}
use Rattle.ls_budget.specs.Due.{due_at}
use Rattle.ls_budget.specs.Window.{latest_tick, MadeWithCredit}

-- a frequency, and the tick of the last update
pub record KeptFrequency : Type 0 where
  pub frequency : Option ℕ
  pub last : Option ℕ

-- it stands for them; the tick is in its range
pub record StandsFrequency (k : KeptFrequency) (f last : Option ℕ) : Type 0 where
  pub frequency_is : k.frequency ≡ f
  pub last_is : k.last ≡ last
  pub last_most : ForSome last (λ tick. tick ≤ GREATEST_TICK)

-- a rate, the tick of the last spend or setting, and what the credit lacked then
pub record KeptCredit : Type 0 where
  pub rate : Option ℕ
  pub latest : ℕ
  pub lacks : ℕ

-- what is kept of a rate as it is set
abbrev pub set_anew : Option ℕ → ℕ → KeptCredit
set_anew rate now = record { rate = rate; latest = now; lacks = 0 }

-- what the credit lacks at a tick behind the latest
abbrev pub lacks_at : KeptCredit → ℕ → ℕ → ℕ
lacks_at k r now = k.lacks - r * (now - k.latest)

-- the first tick with credit, where so much is lacking
abbrev pub tick_by : ℕ → ℕ → ℕ → ℕ
tick_by r lacks now = if nat_lt lacks (full_credit r) then now else now + (lacks - full_credit r) / r + 1

-- the first tick with credit, by what is kept
abbrev pub kept_tick : KeptCredit → Option ℕ → ℕ → ℕ
kept_tick k None now = now
kept_tick k (Some r) now = tick_by r (lacks_at k r now) now

-- what is answered at a tick
abbrev pub due_of : KeptCredit → ℕ → Due
due_of k now = due_at (kept_tick k k.rate now) now

-- so many bytes may be spent at a tick: there is credit, the tick isn't before the last one, and both are in their
-- range
pub record MaySpend (k : KeptCredit) (now bytes : ℕ) : Type 0 where
  pub behind : k.latest ≤ now
  pub tick : now ≤ GREATEST_TICK
  pub bytes_most : bytes ≤ MOST_BYTES
  pub due : due_of k now ≡ due.Now

-- what is lacking after a spend
abbrev pub lacks_after : KeptCredit → Option ℕ → ℕ → ℕ → ℕ
lacks_after k None now bytes = 0
lacks_after k (Some r) now bytes = lacks_at k r now + 8000 * bytes

-- what is kept after a spend
abbrev pub spent : KeptCredit → ℕ → ℕ → KeptCredit
spent k now bytes = record { rate = k.rate; latest = now; lacks = lacks_after k k.rate now bytes }

-- what is lacking is that of the spends
pub record KeepsCredit (k : KeptCredit) (r : ℕ) (spends : List Spend) : Type 0 where
  pub some : 0 < r
  pub made : MadeWithCredit r spends
  pub behind : latest_tick spends ≤ k.latest
  pub lacks_is : k.lacks ≡ lacking r spends k.latest

-- with no rate nothing is kept of them
abbrev pub KeepsBy : KeptCredit → Option ℕ → List Spend → Type 0
KeepsBy k None spends = Unit {0}
KeepsBy k (Some r) spends = KeepsCredit k r spends

-- it stands for a rate and the spends since it was set, the newest first
pub record StandsBandwidth (k : KeptCredit) (rate : Option ℕ) (spends : List Spend) : Type 0 where
  pub rate_is : k.rate ≡ rate
  pub keeps : KeepsBy k rate spends
