use Rattle.ls_line.proofs.Laws.{exact}
use Rattle.ls_line.proofs.law.each_line_has_one_text.Goals as goal

pub returns : goal.returns
returns c = exact
