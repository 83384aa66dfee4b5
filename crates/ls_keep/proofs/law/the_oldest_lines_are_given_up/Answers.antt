use Rattle.std.proofs.Common.{◌+◌, ◌++◌, ◌∷◌, [], refl}
use Rattle.ls_keep.proofs.Losing.{loses_oldest}
use Rattle.ls_keep.proofs.law.the_oldest_lines_are_given_up.Goals as goal

pub returns-clause-pushed : goal.returns-clause-pushed
returns-clause-pushed c = λ text n. loses_oldest n (record n { texts = n.texts ++ text ∷ [] }) refl

pub returns-clause-marked : goal.returns-clause-marked
returns-clause-marked c = λ n. loses_oldest n (record n { sent = n.sent + 1 }) refl
