use Rattle.ls_laws.proofs.Spends.{steps_bounded, script_bounded}
use Rattle.ls_laws.proofs.law.updates_of_a_window_are_bounded.Goals as goal

pub returns-clause-steps : goal.returns-clause-steps
returns-clause-steps c = steps_bounded

pub returns-clause-scripts : goal.returns-clause-scripts
returns-clause-scripts c = script_bounded
