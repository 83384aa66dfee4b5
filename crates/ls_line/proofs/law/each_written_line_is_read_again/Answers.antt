use Rattle.ls_line.proofs.Rows.{read_again}
use Rattle.ls_line.proofs.law.each_written_line_is_read_again.Goals as goal

pub returns : goal.returns
returns c = read_again
