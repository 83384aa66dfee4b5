use Rattle.ls_record.specs.Acting.{unsent}
use Rattle.ls_session.proofs.Tables.{waits_is}
use Rattle.ls_session.proofs.session.Session.has_waiting.Goals as goal

pub returns : goal.returns
returns c = λ r st.
    waits_is c.unsent.result (unsent r.session) c.args.more c.saturating_add.result (c.unsent.ensures r.session st.lines) c.saturating_add.ensures c.requires
