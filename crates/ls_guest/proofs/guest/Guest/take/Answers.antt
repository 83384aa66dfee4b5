use Rattle.ls_guest.proofs.Bound.{bound_sees, sees_turn}
use Rattle.ls_guest.proofs.guest.Guest.take.Goals as goal

pub invariant_of-self : goal.invariant_of-self
invariant_of-self g c =
    bound_sees _ _ _
    (sees_turn _ c.take.result _ _ c.take.ensures.grows c.take.ensures.memory)
    c.self.invariant
