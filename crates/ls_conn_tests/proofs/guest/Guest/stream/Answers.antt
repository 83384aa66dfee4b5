use Rattle.ls_conn_tests.proofs.Kept.{keeps_last, streamed_keeps}
use Rattle.ls_conn_tests.proofs.guest.Guest.stream.Goals as goal

pub invariant_of-self : goal.invariant_of-self
invariant_of-self g c = keeps_last _ _ _ _ (streamed_keeps _ _ _ _ _) c.self.invariant c.stream_last.ensures.last
