use Rattle.ls_stream.proofs.Reading.{line_text, line_kept}
use Rattle.ls_stream.proofs.lines.Lines.line.Goals as goal

pub returns-clause-text : goal.returns-clause-text
returns-clause-text c = line_text (λ t. t.now) c.get.result c.args.self.now c.args.n c.get.ensures

pub returns-clause-kept : goal.returns-clause-kept
returns-clause-kept c = λ s st. line_kept (λ t. t.now) c.get.result c.args.self.now s c.args.n c.get.ensures st
