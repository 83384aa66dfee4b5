use Rattle.ls_laws.proofs.Runs.{told_alike, seen_alike}
use Rattle.ls_laws.proofs.law.a_session_is_told_nothing_of_others.Goals as goal

pub returns-clause-told : goal.returns-clause-told
returns-clause-told c = told_alike

pub returns-clause-sees : goal.returns-clause-sees
returns-clause-sees c = seen_alike
