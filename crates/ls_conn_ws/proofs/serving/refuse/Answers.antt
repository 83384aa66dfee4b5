use Rattle.ls_conn_ws.proofs.Hearings.{refused_heard, puts_heard}
use Rattle.ls_conn_ws.proofs.serving.refuse.Goals as goal

pub returns-clause-hears : goal.returns-clause-hears
returns-clause-hears g c = λ m log k stream deed is bare. rw c.heard_by.ensures (refused_heard deed k stream log _ _ m c.put_reply-replied.result is bare c.put_reply-replied.ensures.replies)

pub returns-clause-cause : goal.returns-clause-cause
returns-clause-cause g c = rw c.heard_by.ensures (puts_heard c.put_reply-replied.result _ _ c.put_reply-replied.ensures.cause)
