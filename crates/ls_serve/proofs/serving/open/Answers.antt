use Rattle.ls_serve.proofs.Ends.{told_nothing}
use Rattle.ls_serve.proofs.serving.open.Goals as goal

pub returns-in-Err-clause-told : goal.returns-in-Err-clause-told
returns-in-Err-clause-told g c = told_nothing _ _
