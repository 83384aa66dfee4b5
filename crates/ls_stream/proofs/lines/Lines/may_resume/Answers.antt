use Rattle.std.proofs.Common.{arith}
use Rattle.ls_stream.proofs.Rebinding.{resumes_is}
use Rattle.ls_stream.proofs.lines.Lines.may_resume.Goals as goal

pub returns-then-given_up-count-clause-stands : goal.returns-then-given_up-count-clause-stands
returns-then-given_up-count-clause-stands c = λ s st alive.
    resumes_is c.args.self.now s c.args.recover c.in-Some.count c.last.result st alive c.in-Some.is
    (omega (arith, c.given_up.ensures, c.if-given_up-count.true)) c.last.ensures
