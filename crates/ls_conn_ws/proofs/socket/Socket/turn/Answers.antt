use Rattle.std.proofs.Common.{sym, subst}
use Rattle.ls_conn.specs.Acting.{known}
use Rattle.ls_conn_ws.specs.Steps.{HasGone, SocketState}
use Rattle.ls_conn_ws.proofs.Between.{gone_on}
use Rattle.ls_conn_ws.proofs.socket.Socket.turn.Goals as goal

pub invariant_of-self-2 : goal.invariant_of-self-2
invariant_of-self-2 g c =
    let i = c.self.invariant in
    let s = c.self.inside in
    let r = c.round-step in
    record {
      log0 = i.log0;
      counts = i.counts;
      puts = i.puts;
      gone = gone_on g.N.House.deed s.end r.result c.end_of-self-inside.result i.log0 (g.T.LineOut.log s.talk) (g.T.LineOut.log r.new.talk)
          i.counts (g.T.LineOut.counts s.talk) (g.T.LineOut.counts r.new.talk) i.puts (g.T.LineOut.faults s.talk) (g.T.LineOut.faults r.new.talk)
          (known s.desk.view s.desk.seen) (known r.new.desk.view r.new.desk.seen) s.desk.stream r.new.desk.stream s.idles r.new.idles
          c.in_default.is c.end_of-self-inside.ensures (r.ensures.goes i.log0) (r.ensures.cause i.counts i.puts) r.ensures.few i.gone;
    }

pub returns-clause-gone : goal.returns-clause-gone
returns-clause-gone g c log counts puts gone =
    let s = c.self.inside in
    let r = c.round-step in
    gone_on g.N.House.deed s.end r.result c.end_of-self-inside.result log (g.T.LineOut.log s.talk) (g.T.LineOut.log r.new.talk)
    counts (g.T.LineOut.counts s.talk) (g.T.LineOut.counts r.new.talk) puts (g.T.LineOut.faults s.talk) (g.T.LineOut.faults r.new.talk)
    (known s.desk.view s.desk.seen) (known r.new.desk.view r.new.desk.seen) s.desk.stream r.new.desk.stream s.idles r.new.idles
    c.in_default.is c.end_of-self-inside.ensures (r.ensures.goes log) (r.ensures.cause counts puts) r.ensures.few
    (subst (λ (x : SocketState g.row.T.Denot). HasGone g.N.House.deed x.end log (g.T.LineOut.log x.talk) counts (g.T.LineOut.counts x.talk)
    puts (g.T.LineOut.faults x.talk) x.known x.stream x.idles) (sym c.self.view_is) gone)
