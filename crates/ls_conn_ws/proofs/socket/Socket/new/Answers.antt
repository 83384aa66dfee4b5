use Rattle.ls_conn.specs.Acting.{known}
use Rattle.ls_conn_ws.proofs.Between.{gone_first}
use Rattle.ls_conn_ws.proofs.socket.Socket.new.Goals as goal

pub invariant_of-result : goal.invariant_of-result
invariant_of-result g c =
    record {
      log0 = g.T.LineOut.log c.args.talk;
      counts = g.T.LineOut.counts c.args.talk;
      puts = g.T.LineOut.faults c.args.talk;
      gone = gone_first g.N.House.deed (g.T.LineOut.log c.args.talk) (g.T.LineOut.counts c.args.talk) (g.T.LineOut.faults c.args.talk)
          (known c.desk_of.result.view c.desk_of.result.seen) c.desk_of.result.stream c.desk_of.ensures.seen c.desk_of.ensures.stream;
    }
