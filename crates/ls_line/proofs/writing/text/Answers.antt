use Rattle.ls_line.proofs.Laws.{text_said}
use Rattle.ls_line.proofs.writing.text.Goals as goal

pub returns-clause-read_again : goal.returns-clause-read_again
returns-clause-read_again c = text_said c.args.line.now c.whole_text.result c.whole_text.ensures
