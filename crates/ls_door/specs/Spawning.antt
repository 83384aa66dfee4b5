-- How spawners start jobs.
use Rattle.std.specs.Prelude.{◌≡◌, ℕ, List, [], ◌∷◌, Bool, true, false, ⊤, Result, Ok, Err}
use Rattle.ls_outside.specs.Causes.{one_more}
use Rattle.ls_door.specs.declared.spawner.Way.{Way}
use Rattle.ls_door.specs.declared.spawner.Way.TheVariants as way

-- a spawner: its way, which of the jobs to come its list refuses, how many were refused, and how many threads aren't
-- joined yet
pub record SpawnerState : Type 0 where
  pub way : Way
  pub refusals : List Bool
  pub refused : ℕ
  pub running : ℕ

-- whether the list refuses the next job
abbrev pub next_refused : List Bool → Bool
next_refused [] = false
next_refused (refused ∷ rest) = refused

-- when the next job may be started: by a list, where that doesn't refuse it
abbrev pub MayStart : Way → List Bool → Type 0
MayStart way.AtOnce list = ⊤
MayStart way.Threads list = ⊤
MayStart way.ByList list = next_refused list ≡ false

-- when the next job may be refused: never at once; by a list, where that refuses it
abbrev pub MayRefuse : Way → List Bool → Type 0
MayRefuse way.AtOnce list = ⊥
MayRefuse way.Threads list = ⊤
MayRefuse way.ByList list = next_refused list ≡ true

-- what an answer makes of the count of refused jobs: it rises by one with a refusal alone
abbrev pub CountsStart : {A B : Type 0} → Result A B → ℕ → ℕ → Type 0
CountsStart (Ok a) f g = g ≡ f
CountsStart (Err b) f g = g ≡ one_more f
