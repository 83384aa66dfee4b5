use Rattle.ls_conn.specs.Acting.{known}
use Rattle.ls_conn_ws.proofs.Going.{begun, broken}
use Rattle.ls_conn_ws.proofs.serving.all_rounds.Goals as goal

pub returns-in_default-clause-spoke : goal.returns-in_default-clause-spoke
returns-in_default-clause-spoke g c =
    broken g.N.House.deed (g.T.LineOut.log c.args.talk.now) (g.T.LineOut.log c.args.talk.now) (known c.args.desk.now.view c.args.desk.now.seen) c.args.desk.now.stream 0
    (begun g.N.House.deed (g.T.LineOut.log c.args.talk.now) (known c.args.desk.now.view c.args.desk.now.seen) c.args.desk.now.stream c.requires.seen c.requires.stream)
