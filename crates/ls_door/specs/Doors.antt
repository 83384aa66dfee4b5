-- What a door says of its ports and of its counts.
use Rattle.std.specs.Prelude.{◌≡◌, ℕ, ◌≤◌}
use Rattle.ls_outside.specs.Causes.{one_more}
use Rattle.ls_door.specs.declared.door.Heard.{Heard}
use Rattle.ls_door.specs.declared.door.Heard.TheVariants as heard
use Rattle.ls_door.specs.declared.door.Visit.{Visit}
use Rattle.ls_door.specs.declared.door.Visit.TheVariants as visit

-- the two ports on which a door listens, for clients and for feeds; both are 0 before it listens
pub record Ports : Type 0 where
  pub port : ℕ
  pub feed : ℕ

-- the ports before and after an answer of `listen`
abbrev pub Opens : Ports → Ports → Heard → Type 0
Opens old new (heard.Ready port feed) = new ≡ record { port = port; feed = feed }
Opens old new heard.Failed = new ≡ old

-- what an answer of `listen` makes of the count of faults: it rises by one with a failure alone
abbrev pub CountsHeard : Heard → ℕ → ℕ → Type 0
CountsHeard (heard.Ready port feed) f g = g ≡ f
CountsHeard heard.Failed f g = g ≡ one_more f

-- the count never falls at `listen`, and rises with a failure alone
pub record HasHeardCause (answer : Heard) (f g : ℕ) : Type 0 where
  pub later : f ≤ g
  pub counts : CountsHeard answer f g

-- what an answer of `accept` makes of the counts of faults and of idle calls: each rises by one with its own answer alone
abbrev pub CountsVisit : {C : Type 0} → Visit C → ℕ → ℕ → ℕ → ℕ → Type 0
CountsVisit (visit.Client conn) f g i j = (g ≡ f) × (j ≡ i)
CountsVisit (visit.Feed conn) f g i j = (g ≡ f) × (j ≡ i)
CountsVisit visit.Idle f g i j = (g ≡ f) × (j ≡ one_more i)
CountsVisit visit.Failed f g i j = (g ≡ one_more f) × (j ≡ i)

-- the counts of a door never fall at `accept`, and each rises with its own answer alone
pub record HasVisitCause {C : Type 0} (answer : Visit C) (f g i j : ℕ) : Type 0 where
  pub later : f ≤ g
  pub idles : i ≤ j
  pub counts : CountsVisit answer f g i j
