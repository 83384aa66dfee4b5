use Rattle.std.proofs.Common.{arith}
use Rattle.ls_stream.proofs.Reading.{lines_last}
use Rattle.ls_stream.proofs.lines.Lines.unsent.Goals as goal

pub returns : goal.returns
returns c = λ s st. omega (arith, c.saturating_sub.ensures, c.last.ensures, c.sent.ensures s st, lines_last c.args.self.now s st)
