use Rattle.std.proofs.Common.{◌≡◌, ◌≤◌}
use Rattle.ls_conn.specs.Streaming.{Streams}
use Rattle.ls_conn.proofs.streaming.turns.Given as goal

abbrev pub invariant-loop : goal.invariant-loop
invariant-loop g l =
    (goal.iterator-loop g).can_next l.iterator'
    × (goal.iterator-loop g).is_finite l.iterator'
    × Streams l.epoch l.fn.told l.told (g.W.LineOut.held l.fn.wire) (g.W.LineOut.held l.wire)
    × (g.W.LineOut.faults l.fn.wire ≤ g.W.LineOut.faults l.wire)
    × ((g.W.LineOut.counts l.fn.wire).leaves ≤ (g.W.LineOut.counts l.wire).leaves)
    × (g.W.LineOut.lender l.wire ≡ g.W.LineOut.lender l.fn.wire)
