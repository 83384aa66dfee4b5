use Rattle.ls_lawful.proofs.Settled.{settled_place}
use Rattle.ls_laws.proofs.law.settled_slots_are_at_the_last_event.Goals as goal

pub returns : goal.returns
returns c = λ h w s cs l other none. settled_place h w s cs l other none
