use Rattle.ls_laws.proofs.Spelled.{spend_made}
use Rattle.ls_laws.proofs.Spends.{steps_made, script_made}
use Rattle.ls_laws.proofs.law.each_update_is_given_with_credit.Goals as goal

pub returns-clause-steps : goal.returns-clause-steps
returns-clause-steps c = steps_made

pub returns-clause-scripts : goal.returns-clause-scripts
returns-clause-scripts c = script_made

pub returns-clause-credit : goal.returns-clause-credit
returns-clause-credit c = spend_made
