use Rattle.std.proofs.Common.{◌≡◌, ◌+◌, ◌-◌, ◌<◌, ◌≤◌, length}
use Rattle.std.specs.Vec.{vec_len, vec_capacity}
use Rattle.ls_links.specs.Nodes.{before_of, added}
use Rattle.ls_links.proofs.nodes.add.Given as goal

-- so many were added, and there is room for the others
abbrev pub invariant-loop : goal.invariant-loop
invariant-loop l =
    record {
      nodes : l.nodes.items ≡ added l.counter l.free l.fn.nodes.items;
      room : vec_len l.nodes + (l.more - l.counter) ≤ vec_capacity l.nodes;
      free : l.free < length l.nodes.items;
      last : before_of l.nodes.items l.free < length l.nodes.items;
    }
