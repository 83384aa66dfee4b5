use Rattle.ls_guest.proofs.Bound.{bound_sees, sees_request}
use Rattle.ls_guest.proofs.guest.Guest.rebind.Goals as goal

pub invariant_of-self : goal.invariant_of-self
invariant_of-self g c =
    bound_sees _ _ _
    (sees_request c.bind.result _ _ c.bind.ensures.grows (λ code is. (c.bind.ensures.refused code is).0) c.bind.ensures.memory)
    c.self.invariant
