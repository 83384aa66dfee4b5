use Rattle.ls_conn_ws.proofs.Hearings.{text_heard, puts_heard}
use Rattle.ls_conn_ws.proofs.serving.hear_text.Goals as goal

pub returns-clause-hears : goal.returns-clause-hears
returns-clause-hears g c = λ log k bare. rw c.heard_by.ensures (text_heard _ c.answer_message-replied.result _ k _ _ _ log _ _ bare c.answer_message-replied.ensures.replies)

pub returns-clause-cause : goal.returns-clause-cause
returns-clause-cause g c = rw c.heard_by.ensures (puts_heard c.answer_message-replied.result _ _ c.answer_message-replied.ensures.cause)
