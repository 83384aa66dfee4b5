use Rattle.std.proofs.Common.{◌<◌}
use Rattle.ls_conn.specs.Acting.{known}
use Rattle.ls_conn.specs.declared.ended.TheConstants.{MOST_IDLES}
use Rattle.ls_conn_ws.specs.Serving.{Served}
use Rattle.ls_conn_ws.specs.Hearing.{Runs}
use Rattle.ls_conn_ws.proofs.serving.rounds.Given as goal

-- all went well so far
abbrev pub invariant-loop : goal.invariant-loop
invariant-loop g l =
    (l.idles < MOST_IDLES)
    × Served g.N.House.deed (g.T.LineOut.log l.initial.talk) (g.T.LineOut.log l.talk) (known l.desk.view l.desk.seen) l.desk.stream l.idles
    × Runs l.idles (g.T.LineOut.counts l.initial.talk) (g.T.LineOut.counts l.talk) (g.T.LineOut.faults l.initial.talk) (g.T.LineOut.faults l.talk)
