use Rattle.ls_hostile.proofs.Named.{named}
use Rattle.ls_hostile.proofs.lying.play_over.Goals as goal

pub returns-clause-named : goal.returns-clause-named
returns-clause-named g c = named _ _ _ _ c.run.ensures.ran.outcome
