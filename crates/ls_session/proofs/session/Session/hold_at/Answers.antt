use Rattle.std.proofs.Common.{refl}
use Rattle.ls_session.proofs.Replies.{waited_stands}
use Rattle.ls_session.proofs.session.Session.hold_at.Goals as goal

pub returns : goal.returns
returns c = λ r v h st next pends undue is.
    waited_stands c.learn.new.self _ r v c.args.tick (c.learn.ensures r v h st next pends undue is) is (record { asking = c.hold.ensures; rest = refl })
