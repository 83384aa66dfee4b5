use Rattle.ls_conn.proofs.Lasts.{last_lost}
use Rattle.ls_conn_http.proofs.opening.lose_one.Goals as goal

pub returns-clause-lost : goal.returns-clause-lost
returns-clause-lost g c = last_lost c.args.epoch c.now-now.result _ _ c.lose_last.ensures.lost
