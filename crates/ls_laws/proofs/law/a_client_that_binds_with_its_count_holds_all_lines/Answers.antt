use Rattle.ls_laws.proofs.Recovery.{steps_hold, script_holds}
use Rattle.ls_laws.proofs.law.a_client_that_binds_with_its_count_holds_all_lines.Goals as goal

pub returns-clause-steps : goal.returns-clause-steps
returns-clause-steps c = steps_hold

pub returns-clause-scripts : goal.returns-clause-scripts
returns-clause-scripts c = script_holds
