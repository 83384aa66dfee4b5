use Rattle.std.proofs.Common.{◌≡◌, ◌<◌}
use Rattle.ls_conn_http.specs.Taking.{Reads, Counts}
use Rattle.ls_conn.specs.declared.ended.TheConstants.{MOST_IDLES}
use Rattle.ls_conn_http.proofs.intake.read_up_to.Given as goal

abbrev pub invariant-loop : goal.invariant-loop
invariant-loop g l =
    (goal.iterator-loop g).can_next l.iterator'
    × (goal.iterator-loop g).is_finite l.iterator'
    × Reads (g.C.Source.unread l.fn.conn) (g.C.Source.unread l.conn) l.fn.bytes.items l.bytes.items
    × (l.idles < MOST_IDLES)
    × Counts l.fn.idles l.idles (g.C.Source.waits l.fn.conn) (g.C.Source.waits l.conn) (g.C.Source.faults l.fn.conn) (g.C.Source.faults l.conn)
    × (g.C.Source.holds l.conn ≡ g.C.Source.holds l.fn.conn)
