use Rattle.ls_line.proofs.Laws.{answer_exact, answer_writable}
use Rattle.ls_line.proofs.reading.read.Goals as goal

pub returns-clause-exact : goal.returns-clause-exact
returns-clause-exact c = answer_exact c.args.bytes.now c.line_or_cause.result c.line_or_cause.ensures

pub returns-clause-writable : goal.returns-clause-writable
returns-clause-writable c = answer_writable c.args.bytes.now c.line_or_cause.result c.line_or_cause.ensures
