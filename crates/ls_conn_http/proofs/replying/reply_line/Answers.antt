use Rattle.std.proofs.Common.{[], ◌∷◌, ◌∙◌}
use Rattle.ls_conn_http.proofs.replying.reply_line.Goals as goal

pub returns-in-Ok-clause-writes : goal.returns-in-Ok-clause-writes
returns-in-Ok-clause-writes g c = c.write_answer.ensures.writes (c.args.text.now ∷ []) (c.deref.ensures.value ∙ c.in-Ok.ensures)
