use Rattle.ls_laws.proofs.Recovery.{steps_give_up, script_gives_up, may_go_on}
use Rattle.ls_laws.proofs.law.lines_are_given_up_only_beyond_the_limits.Goals as goal

pub returns-clause-steps : goal.returns-clause-steps
returns-clause-steps c = steps_give_up

pub returns-clause-scripts : goal.returns-clause-scripts
returns-clause-scripts c = script_gives_up

pub returns-clause-resumes : goal.returns-clause-resumes
returns-clause-resumes c = may_go_on
