use Rattle.std.proofs.Common.{◌∙◌}
use Rattle.ls_conn_http.proofs.replying.reply_version.Goals as goal

pub returns-in-Ok-clause-writes : goal.returns-in-Ok-clause-writes
returns-in-Ok-clause-writes g c = rw (c.as_slice.ensures ∙ c.in-Ok.ensures) at c.reply_line.ensures.writes
