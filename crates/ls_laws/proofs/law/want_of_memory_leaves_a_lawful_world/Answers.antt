use Rattle.ls_laws.proofs.Failing.{silent_cuts_lawful, left_by_steps, left_by_scripts}
use Rattle.ls_laws.proofs.law.want_of_memory_leaves_a_lawful_world.Goals as goal

pub returns-clause-silent_cuts : goal.returns-clause-silent_cuts
returns-clause-silent_cuts c = silent_cuts_lawful

pub returns-clause-steps : goal.returns-clause-steps
returns-clause-steps c = left_by_steps

pub returns-clause-scripts : goal.returns-clause-scripts
returns-clause-scripts c = left_by_scripts
