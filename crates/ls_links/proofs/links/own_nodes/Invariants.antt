use Rattle.std.proofs.Common.{◌≡◌, map}
use Rattle.std.specs.List.{range_with_len}
use Rattle.ls_links.specs.Nodes.{alone}
use Rattle.ls_links.proofs.links.own_nodes.Given as goal

-- those so far
abbrev pub invariant-loop-i : goal.invariant-loop-i
invariant-loop-i l = l.nodes.items ≡ map alone (range_with_len 0 l.i)
