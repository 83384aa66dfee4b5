use Rattle.std.proofs.Common.{◌≤◌, ◌-◌, length}
use Rattle.ls_value.specs.declared.limits.TheConstants.{GREATEST_TICK}
use Rattle.ls_world.specs.World.{World}
use Rattle.ls_hub.specs.Clock.{Clocked}
use Rattle.ls_hub.specs.Hub.{StandsHub}
use Rattle.ls_hub.proofs.hub.Hub.tick_to.Given as goal

-- the sessions so far met the clock
abbrev pub invariant-loop : goal.invariant-loop
invariant-loop l = (w : World) → StandsHub l.fn.self w → w.tick ≤ l.ms → l.ms ≤ GREATEST_TICK
    → Clocked w l.ms l.met (length l.fn.self.living.items - l.counter) l.self
