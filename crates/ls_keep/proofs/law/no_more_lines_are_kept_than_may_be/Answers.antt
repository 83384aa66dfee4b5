use Rattle.std.proofs.Common.{◌+◌, ◌++◌, ◌∷◌, [], arith}
use Rattle.ls_keep.proofs.Losing.{keeps_few}
use Rattle.ls_keep.proofs.law.no_more_lines_are_kept_than_may_be.Goals as goal

pub returns-clause-pushed : goal.returns-clause-pushed
returns-clause-pushed c = λ text n given. keeps_few (record n { texts = n.texts ++ text ∷ [] }) given

pub returns-clause-marked : goal.returns-clause-marked
returns-clause-marked c = λ n given. keeps_few (record n { sent = n.sent + 1 }) (omega (arith, given))
