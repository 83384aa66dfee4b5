use Rattle.ls_guest.proofs.Bound.{bound_sees, sees_request}
use Rattle.ls_guest.proofs.guest.Guest.control.Goals as goal

pub invariant_of-self : goal.invariant_of-self
invariant_of-self g c =
    bound_sees _ _ _
    (sees_request c.control.result _ _ c.control.ensures.grows (λ code is. (c.control.ensures.refused code is).0) c.control.ensures.memory)
    c.self.invariant
