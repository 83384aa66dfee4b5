use Rattle.ls_shared.proofs.Grown.{has_bound}
use Rattle.ls_shared.proofs.shared.Shared.bind.Goals as goal

pub returns-clause-has : goal.returns-clause-has
returns-clause-has g c =
    has_bound c.bind_in-answer.result c.args.bind.now c.args.now c.seen.inside.sight c.bind_in-answer.new.sight c.bind_in-answer.ensures.bound
