use Rattle.std.proofs.Common.{sym, subst, ◌∙◌}
use Rattle.std.specs.Option.{unwrap_or}
use Rattle.ls_conn.specs.Acting.{known}
use Rattle.ls_conn.specs.declared.ended.ConnEnd.{ConnEnd}
use Rattle.ls_conn.specs.declared.ended.ConnEnd.TheVariants as end
use Rattle.ls_conn_ws.specs.Causes.{HasCause}
use Rattle.ls_conn_ws.specs.Steps.{HasGone, SocketState}
use Rattle.ls_conn_ws.proofs.Between.{gone_cause, gone_spoke, spoke_is}
use Rattle.ls_conn_ws.proofs.Going.{spoke_left}
use Rattle.ls_conn_ws.proofs.socket.Socket.finish.Goals as goal

pub returns-clause-spoke : goal.returns-clause-spoke
returns-clause-spoke g c log counts puts gone =
    let r = c.report.ensures in
    let s = c.self.inside in
    let was = subst (λ (x : SocketState g.row.T.Denot). HasGone g.N.House.deed x.end log (g.T.LineOut.log x.talk) counts (g.T.LineOut.counts x.talk)
    puts (g.T.LineOut.faults x.talk) x.known x.stream x.idles) (sym c.self.view_is) gone in (
      r.told.0,
      r.told.1,
      spoke_is g.N.House.deed _ _ r.told.0 (unwrap_or s.end end.Stopped) _ _ _ (r.end ∙ c.unwrap_or-end.ensures) r.known
          (spoke_left g.N.House.deed log (unwrap_or s.end end.Stopped) (g.T.LineOut.log s.talk) (g.T.LineOut.log c.let_go.new.self)
          (known s.desk.view s.desk.seen) s.desk.stream r.told.0
          (gone_spoke g.N.House.deed s.end log (g.T.LineOut.log s.talk) counts (g.T.LineOut.counts s.talk) puts (g.T.LineOut.faults s.talk)
          (known s.desk.view s.desk.seen) s.desk.stream s.idles was)
          c.let_go.ensures.log r.told.2),
      r.told.3,
    )

pub returns-clause-cause : goal.returns-clause-cause
returns-clause-cause g c log counts puts gone =
    let s = c.self.inside in
    let was = subst (λ (x : SocketState g.row.T.Denot). HasGone g.N.House.deed x.end log (g.T.LineOut.log x.talk) counts (g.T.LineOut.counts x.talk)
    puts (g.T.LineOut.faults x.talk) x.known x.stream x.idles) (sym c.self.view_is) gone in
    subst (λ (x : ConnEnd). HasCause x counts (g.T.LineOut.counts c.let_go.new.self) puts (g.T.LineOut.faults c.let_go.new.self))
    (sym (c.report.ensures.end ∙ c.unwrap_or-end.ensures))
    (gone_cause g.N.House.deed s.end log (g.T.LineOut.log s.talk) counts (g.T.LineOut.counts s.talk) (g.T.LineOut.counts c.let_go.new.self)
    puts (g.T.LineOut.faults s.talk) (g.T.LineOut.faults c.let_go.new.self) (known s.desk.view s.desk.seen) s.desk.stream s.idles c.let_go.result was
    c.let_go.ensures.counts c.let_go.ensures.cause)
