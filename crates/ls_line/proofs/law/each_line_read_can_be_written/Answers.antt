use Rattle.ls_line.proofs.Laws.{writable}
use Rattle.ls_line.proofs.law.each_line_read_can_be_written.Goals as goal

pub returns : goal.returns
returns c = writable
