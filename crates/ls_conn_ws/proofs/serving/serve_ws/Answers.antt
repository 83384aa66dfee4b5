use Rattle.ls_conn.specs.Acting.{known}
use Rattle.ls_conn_ws.proofs.Between.{spoke_is}
use Rattle.ls_conn_ws.proofs.Going.{spoke_left}
use Rattle.ls_conn_ws.proofs.serving.serve_ws.Goals as goal

pub returns-clause-spoke : goal.returns-clause-spoke
returns-clause-spoke g c =
    let r = c.report.ensures in (
      r.told.0,
      r.told.1,
      spoke_is g.N.House.deed _ _ r.told.0 c.all_rounds-end.result _ _ _ r.end r.known
          (spoke_left g.N.House.deed (g.T.LineOut.log c.args.talk.now) c.all_rounds-end.result (g.T.LineOut.log c.all_rounds-end.new.talk) (g.T.LineOut.log c.let_go.new.self)
          (known c.all_rounds-end.new.desk.view c.all_rounds-end.new.desk.seen) c.all_rounds-end.new.desk.stream r.told.0
          c.all_rounds-end.ensures.spoke c.let_go.ensures.log r.told.2),
      r.told.3,
    )
