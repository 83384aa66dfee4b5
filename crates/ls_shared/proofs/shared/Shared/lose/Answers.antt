use Rattle.std.proofs.Common.{subst}
use Rattle.ls_told.specs.Seen.{Testified}
use Rattle.ls_shared.specs.Answers.{Loses}
use Rattle.ls_shared.proofs.shared.Shared.lose.Goals as goal

pub returns-clause-lost : goal.returns-clause-lost
returns-clause-lost g c =
    subst (λ (t : Testified). Loses c.args.epoch c.args.now t c.lose_in-lost.new.sight c.lose_in-lost.result) c.seen.view_is c.lose_in-lost.ensures.lost
