use Rattle.ls_conn.proofs.Given.{bound_sees, lines_see, number_sees}
use Rattle.ls_conn_ws.proofs.Overs.{over_after}
use Rattle.ls_conn_ws.proofs.Taking.{rest_after, sees_after, sent_line}
use Rattle.ls_conn_ws.proofs.running.take.Goals as goal

pub returns-clause-bound : goal.returns-clause-bound
returns-clause-bound g c = bound_sees _ _ _ (sees_after _ _ _ c.take.ensures.grows c.take.ensures.memory) c.requires.bound

pub returns-clause-number : goal.returns-clause-number
returns-clause-number g c = number_sees _ _ (sees_after _ _ _ c.take.ensures.grows c.take.ensures.memory)

pub returns-clause-lines : goal.returns-clause-lines
returns-clause-lines g c = lines_see _ _ (sees_after _ _ _ c.take.ensures.grows c.take.ensures.memory)

pub returns-clause-sent : goal.returns-clause-sent
returns-clause-sent g c = sent_line _ _ _ _ _ _ _ c.take.ensures.turn

pub returns-clause-rest : goal.returns-clause-rest
returns-clause-rest g c = rest_after _ _ _ _ _ _ _ c.take.ensures.turn c.take.ensures.memory

pub returns-clause-over : goal.returns-clause-over
returns-clause-over g c =
    over_after _ _ _ _ _ _ _ (number_sees _ _ (sees_after _ _ _ c.take.ensures.grows c.take.ensures.memory)) c.take.ensures.turn
