use Rattle.ls_conn_http.proofs.Answering.{front_is}
use Rattle.ls_conn_http.proofs.replying.write_text.Goals as goal

pub returns-in-Failed-clause-writes : goal.returns-in-Failed-clause-writes
returns-in-Failed-clause-writes g c = let h = c.in-Failed.ensures.bytes in (_, front_is h.0 c.args.text.now, h.2)
