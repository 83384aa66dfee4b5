use Rattle.ls_run.proofs.Completing.{completes}
use Rattle.ls_run.proofs.running.run.Goals as goal

pub returns-clause-complete : goal.returns-clause-complete
returns-clause-complete g c = λ replay no_fault no_waits no_loss.
    let e = c.run_script.ensures in
    completes c.run_script.result _ _ _ _ _ _ _ _ _ _ e.not_usage e.ran e.read_fault e.write_fault no_fault no_waits no_loss
