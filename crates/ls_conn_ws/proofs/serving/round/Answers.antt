use Rattle.ls_conn_ws.specs.declared.running.Given.TheVariants as given
use Rattle.ls_conn_ws.proofs.Going.{gave_any}
use Rattle.ls_conn_ws.proofs.Counting.{given_runs, line_runs, fault_runs, starved_runs}
use Rattle.ls_conn_ws.proofs.serving.round.Goals as goal

pub returns-in-Line-clause-goes : goal.returns-in-Line-clause-goes
returns-in-Line-clause-goes g c = λ log st. c.after_line.ensures.goes log (gave_any _ log given.Line _ _ _ _ _ _ st c.in-Line.ensures.gives)

pub returns-in-Line-clause-cause : goal.returns-in-Line-clause-cause
returns-in-Line-clause-cause g c = λ x f r. c.after_line.ensures.cause x f (line_runs _ x _ _ f _ _ r c.in-Line.ensures.counts c.in-Line.ensures.cause)

pub returns-in-Rest-clause-goes : goal.returns-in-Rest-clause-goes
returns-in-Rest-clause-goes g c = λ log st. c.after_nothing.ensures.goes log (gave_any _ log (given.Rest c.in-Rest.due) _ _ _ _ _ _ st c.in-Rest.ensures.gives)

pub returns-in-Rest-clause-cause : goal.returns-in-Rest-clause-cause
returns-in-Rest-clause-cause g c = λ x f r. c.after_nothing.ensures.cause x f (given_runs _ x _ _ f _ _ r c.in-Rest.ensures.counts c.in-Rest.ensures.cause)

pub returns-in-WriteFault-clause-goes : goal.returns-in-WriteFault-clause-goes
returns-in-WriteFault-clause-goes g c = λ log st. gave_any _ log given.WriteFault _ _ _ _ _ _ st c.in-WriteFault.ensures.gives

pub returns-in-WriteFault-clause-cause : goal.returns-in-WriteFault-clause-cause
returns-in-WriteFault-clause-cause g c = λ x f r. fault_runs _ _ x _ _ f _ _ r c.in-WriteFault.ensures.counts c.in-WriteFault.ensures.cause

pub returns-in-NoMemory-clause-goes : goal.returns-in-NoMemory-clause-goes
returns-in-NoMemory-clause-goes g c = λ log st. gave_any _ log given.NoMemory _ _ _ _ _ _ st c.in-NoMemory.ensures.gives

pub returns-in-NoMemory-clause-cause : goal.returns-in-NoMemory-clause-cause
returns-in-NoMemory-clause-cause g c = λ x f r. starved_runs _ _ x _ _ f _ _ r c.in-NoMemory.ensures.counts c.in-NoMemory.ensures.cause
