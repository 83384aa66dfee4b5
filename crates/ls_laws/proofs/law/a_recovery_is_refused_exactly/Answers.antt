use Rattle.ls_laws.proofs.NewStreams.{recovery_refused, refused_recovery}
use Rattle.ls_laws.proofs.law.a_recovery_is_refused_exactly.Goals as goal

pub returns-clause-refused : goal.returns-clause-refused
returns-clause-refused c = recovery_refused

pub returns-clause-only : goal.returns-clause-only
returns-clause-only c = refused_recovery
