use Rattle.ls_laws.proofs.Spelled.{gives_line}
use Rattle.ls_laws.proofs.Recovery.{steps_have_lines, script_has_lines}
use Rattle.ls_laws.proofs.law.streams_have_their_lines_without_a_gap.Goals as goal

pub returns-clause-steps : goal.returns-clause-steps
returns-clause-steps c = steps_have_lines

pub returns-clause-scripts : goal.returns-clause-scripts
returns-clause-scripts c = script_has_lines

pub returns-clause-turns : goal.returns-clause-turns
returns-clause-turns c = gives_line
