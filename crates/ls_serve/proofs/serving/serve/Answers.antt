use Rattle.ls_serve.proofs.Ends.{served_ended}
use Rattle.ls_serve.proofs.serving.serve.Goals as goal

pub returns-in-Err-clause-served : goal.returns-in-Err-clause-served
returns-in-Err-clause-served g c = served_ended _ _ _ _ _ c.in-Err.ensures.reads
