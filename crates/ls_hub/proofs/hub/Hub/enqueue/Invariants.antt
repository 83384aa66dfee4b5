use Rattle.ls_world.specs.World.{World}
use Rattle.ls_world.specs.Steps.{enqueue_once}
use Rattle.ls_hub.specs.Hub.{StandsHub}
use Rattle.ls_hub.specs.Repeats.{Going}
use Rattle.ls_hub.proofs.hub.Hub.enqueue.Given as goal

abbrev pub invariant-loop : goal.invariant-loop
invariant-loop l = (w : World) → StandsHub l.initial.self w
    → Going (enqueue_once l.connection l.sub l.rank) w l.counter l.initial.text.items l.text.items l.self
