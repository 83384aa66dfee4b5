use Rattle.ls_conn_tests.proofs.Kept.{bound_last, keeps_last, lost_keeps}
use Rattle.ls_conn_tests.proofs.guest.Guest.lose.Goals as goal

pub lose_last-requires-clause-last : goal.lose_last-requires-clause-last
lose_last-requires-clause-last g c = bound_last _ _ _ c.self.invariant

pub invariant_of-self : goal.invariant_of-self
invariant_of-self g c = keeps_last _ _ _ _ (lost_keeps _ _) c.self.invariant c.lose_last.ensures.last
