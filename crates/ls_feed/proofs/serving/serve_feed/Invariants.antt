use Rattle.std.proofs.Common.{◌≤◌}
use Rattle.ls_feed.proofs.Reading.{Between}
use Rattle.ls_feed.proofs.serving.serve_feed.Given as goal

-- what was read so far, and that its lines are answered
abbrev pub invariant-loop : goal.invariant-loop
invariant-loop g l =
    Between g.N.House.deed.config l.feed (g.C.Source.unread l.initial.conn) (g.C.Source.unread l.conn) (g.C.Sink.held l.initial.conn) (g.C.Sink.held l.conn)
    × (g.C.Source.faults l.initial.conn ≤ g.C.Source.faults l.conn)
    × (g.C.Sink.faults l.initial.conn ≤ g.C.Sink.faults l.conn)
