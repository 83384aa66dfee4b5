use Rattle.ls_line.proofs.Laws.{whole}
use Rattle.ls_line.proofs.law.each_text_without_a_cause_is_a_line.Goals as goal

pub returns : goal.returns
returns c = whole
