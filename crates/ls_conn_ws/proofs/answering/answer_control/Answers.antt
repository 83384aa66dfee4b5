use Rattle.ls_conn_ws.proofs.Replying.{control_replied, control_opens_none}
use Rattle.ls_conn_ws.proofs.answering.answer_control.Goals as goal

pub returns-clause-replies : goal.returns-clause-replies
returns-clause-replies g c = rw c.reply_for.ensures
    (control_replied _ _ _ _ _ _ _ _ c.answer_one-answered.result c.requires.filled (λ o. control_opens_none (c.answer_one-answered.ensures.opens o)) c.answer_one-answered.ensures.answers)
