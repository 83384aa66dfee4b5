use Rattle.ls_run.proofs.Runs.{ran_nothing}
use Rattle.ls_run.proofs.running.run_script.Goals as goal

pub returns-in-Err-clause-ran : goal.returns-in-Err-clause-ran
returns-in-Err-clause-ran g c = ran_nothing _ _
