use Rattle.std.proofs.Common.{◌≡◌, ◌≤◌}
use Rattle.ls_door.proofs.spawner.Spawner.tidy.Given as goal

-- no look adds a thread, or changes anything else
abbrev pub invariant-loop : goal.invariant-loop
invariant-loop g l =
    (l.self ≡ record l.initial.self { running = l.self.running }) × (l.self.running ≤ l.initial.self.running)
