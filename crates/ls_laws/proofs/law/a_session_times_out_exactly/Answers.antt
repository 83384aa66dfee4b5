use Rattle.ls_laws.proofs.Recovery.{gone_ends, others_stay, steps_are_there, script_is_there}
use Rattle.ls_laws.proofs.law.a_session_times_out_exactly.Goals as goal

pub returns-clause-ends : goal.returns-clause-ends
returns-clause-ends c = gone_ends

pub returns-clause-others : goal.returns-clause-others
returns-clause-others c = others_stay

pub returns-clause-steps : goal.returns-clause-steps
returns-clause-steps c = steps_are_there

pub returns-clause-scripts : goal.returns-clause-scripts
returns-clause-scripts c = script_is_there
