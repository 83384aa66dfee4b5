use Rattle.std.proofs.Common.{◌≡◌}
use Rattle.ls_turns.specs.Round.{node_of_place}
use Rattle.ls_turns.proofs.turns.Turns.get.Given as goal

-- the node at the place so far
abbrev pub invariant-loop : goal.invariant-loop
invariant-loop l = l.next ≡ node_of_place l.self l.counter
