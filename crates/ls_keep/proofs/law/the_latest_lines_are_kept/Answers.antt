use Rattle.std.proofs.Common.{◌+◌, ◌++◌, ◌∷◌, []}
use Rattle.ls_keep.proofs.Losing.{keeps_latest, keeps_latest_with}
use Rattle.ls_keep.proofs.law.the_latest_lines_are_kept.Goals as goal

pub returns-clause-pushed : goal.returns-clause-pushed
returns-clause-pushed c = λ text n keeps.
    keeps_latest (record n { texts = n.texts ++ text ∷ [] }) (keeps_latest_with n (text ∷ []) keeps)

pub returns-clause-marked : goal.returns-clause-marked
returns-clause-marked c = λ n keeps. keeps_latest (record n { sent = n.sent + 1 }) keeps
