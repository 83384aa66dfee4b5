use Rattle.std.proofs.Common.{lit<}
use Rattle.ls_conn_ws.proofs.serving.after_line.Goals as goal

pub listen-requires-clause-few : goal.listen-requires-clause-few
listen-requires-clause-few g c = lit< tt
