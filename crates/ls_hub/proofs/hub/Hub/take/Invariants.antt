use Rattle.ls_world.specs.World.{World}
use Rattle.ls_world.specs.Steps.{take_once}
use Rattle.ls_hub.specs.Hub.{StandsHub}
use Rattle.ls_hub.specs.Repeats.{Going}
use Rattle.ls_hub.proofs.hub.Hub.take.Given as goal

abbrev pub invariant-loop : goal.invariant-loop
invariant-loop l = (w : World) → StandsHub l.initial.self w
    → Going (take_once l.connection) w l.counter l.initial.text.items l.text.items l.self
