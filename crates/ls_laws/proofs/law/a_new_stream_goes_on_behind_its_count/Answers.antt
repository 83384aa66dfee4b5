use Rattle.ls_laws.proofs.NewStreams.{bind_is_quiet, lines_taken, loop_taken}
use Rattle.ls_laws.proofs.law.a_new_stream_goes_on_behind_its_count.Goals as goal

pub returns-clause-accepted : goal.returns-clause-accepted
returns-clause-accepted c = bind_is_quiet

pub returns-clause-lines : goal.returns-clause-lines
returns-clause-lines c = lines_taken

pub returns-clause-over : goal.returns-clause-over
returns-clause-over c = loop_taken
