use Rattle.std.proofs.Common.{◌∙◌}
use Rattle.ls_stream.proofs.Reading.{lines_last}
use Rattle.ls_stream.proofs.lines.Lines.last.Goals as goal

pub returns-clause-stands : goal.returns-clause-stands
returns-clause-stands c = λ s st. c.last.ensures ∙ lines_last c.args.self.now s st
