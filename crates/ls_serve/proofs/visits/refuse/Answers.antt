use Rattle.std.proofs.Common.{ℕ, List, subst}
use Rattle.ls_outside.specs.Causes.{WritesAll}
use Rattle.ls_serve.proofs.Ends.{said_503}
use Rattle.ls_serve.proofs.visits.refuse.Goals as goal

pub returns-clause-answer : goal.returns-clause-answer
returns-clause-answer g c =
    subst
    (λ (t : List ℕ). WritesAll (g.P.Sink.held c.args.conn.now) (g.P.Sink.held c.write_all.new.sink) c.write_all.result t)
    said_503 c.write_all.ensures.bytes
