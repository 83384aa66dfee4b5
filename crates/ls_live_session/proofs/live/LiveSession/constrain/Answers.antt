use Rattle.std.proofs.Common.{sym}
use Rattle.ls_live_session.proofs.live.LiveSession.constrain.Goals as goal

pub returns-clause-accepted : goal.returns-clause-accepted
returns-clause-accepted g c = rw (sym c.self.view_is) (rw (sym c.deref_mut.ensures.value) c.constrain.ensures.accepted)
