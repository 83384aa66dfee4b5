use Rattle.ls_guest.proofs.Bound.{bound_opened}
use Rattle.ls_guest.proofs.guest.Guest.open.Goals as goal

pub of-requires : goal.of-requires
of-requires g c = record { bound = bound_opened _ _ _ _ _ _ _ _ c.in-Ok.ensures.opened }
