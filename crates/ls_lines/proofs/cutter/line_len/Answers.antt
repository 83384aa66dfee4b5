use Rattle.ls_lines.proofs.Cutting.{line_found}
use Rattle.ls_lines.proofs.cutter.line_len.Goals as goal

pub returns-clause-none : goal.returns-clause-none
returns-clause-none c = line_found c.args.bytes.now c.memchr.result c.memchr.ensures
