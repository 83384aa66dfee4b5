use Rattle.std.proofs.Common.{sym, ◌∙◌}
use Rattle.ls_value.proofs.Rows.{text_eq_true}
use Rattle.ls_conn.proofs.streaming.put.Goals as goal

pub returns-then-is_loop-clause-puts : goal.returns-then-is_loop-clause-puts
returns-then-is_loop-clause-puts g c = (text_eq_true _ _ (sym c.is_loop.ensures ∙ c.if-is_loop.true), c.in-Ok.ensures.bytes)
