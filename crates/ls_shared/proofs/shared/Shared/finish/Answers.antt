use Rattle.std.proofs.Common.{ap}
use Rattle.ls_live_session.specs.Speaking.{Speaking}
use Rattle.ls_shared.proofs.Adds.{adds_shown}
use Rattle.ls_shared.proofs.shared.Shared.finish.Goals as goal

pub returns-clause-done : goal.returns-clause-done
returns-clause-done g c =
    adds_shown g.N.House.deed.config c.args.now c.args.adding c.finish-live.result c.show.new.self c.show.new.sight
    (ap (λ (s : Speaking). s.watches) c.finish-live.ensures.session) (ap (λ (s : Speaking). s.lines) c.show.ensures.session)
    c.show.ensures.more c.show.ensures.fit c.show.ensures.sight c.finish-live.ensures.added
