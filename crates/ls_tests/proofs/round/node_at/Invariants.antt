use Rattle.std.proofs.Common.{◌≡◌}
use Rattle.ls_links.specs.Chains.{node_at}
use Rattle.ls_tests.proofs.round.node_at.Given as goal

-- the node at the place so far
abbrev pub invariant-loop : goal.invariant-loop
invariant-loop l = l.next ≡ node_at l.links l.list l.counter
