-- Like steps of a hub, one after another.
use Rattle.std.specs.Prelude.{◌≡◌, ℕ, List, ◌++◌, true}
use Rattle.ls_world.specs.World.{World}
use Rattle.ls_world.specs.Steps.{Once}
use Rattle.ls_world.specs.Script.{text_of_outs}
use Rattle.ls_world.specs.Repeats.{nth_world, nth_outs, all_go_on}
use Rattle.ls_hub.specs.Hub.{StandsHub}
use Rattle.ls_hub.specs.declared.hub.Hub.{Hub}

-- the first n of them were done and their texts appended, and each asks for a next one
pub record Going (f : World → Once) (w : World) (n : ℕ) (before after : List ℕ) (h : Hub) : Type 0 where
  pub stands : StandsHub h (nth_world f n w)
  pub text : after ≡ before ++ text_of_outs (nth_outs f n w)
  pub goes : all_go_on f n w ≡ true
