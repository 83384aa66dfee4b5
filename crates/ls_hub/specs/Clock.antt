-- The clock of a hub goes on, session by session.
use Rattle.std.specs.Prelude.{◌≡◌, ◌==◌, ℕ, List, [], ◌∷◌, ◌++◌, map, if◌then◌else◌}
use Rattle.ls_world.specs.World.{World}
use Rattle.ls_record.specs.Records.{Session, alive, unless_timed_out}
use Rattle.ls_hub.specs.Hub.{StandsHub}
use Rattle.ls_hub.specs.declared.hub.Hub.{Hub}

-- places without the first one that is this
abbrev pub without_place : ℕ → List ℕ → List ℕ
without_place place [] = []
without_place place (n ∷ places) = if place == n then places else n ∷ without_place place places

-- a hub whose first sessions met a tick: of these so many haven't ended, and of the others so many
pub record Clocked (w : World) (ms met left : ℕ) (h : Hub) : Type 0 where
  pub before : List Session
  pub behind : List Session
  pub all : w.sessions ≡ before ++ behind
  pub met_are : met ≡ alive (map (unless_timed_out ms) before)
  pub left_are : left ≡ alive behind
  pub stands : StandsHub h (record w { tick = ms; sessions = map (unless_timed_out ms) before ++ behind })
