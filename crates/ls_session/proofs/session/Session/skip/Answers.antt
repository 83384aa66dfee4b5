use Rattle.std.proofs.Common.{refl}
use Rattle.ls_session.proofs.Replies.{passed_stands}
use Rattle.ls_session.proofs.session.Session.skip.Goals as goal

pub returns : goal.returns
returns c = λ r st. passed_stands c.args.self.now _ r st (record { asking = c.pass.ensures; rest = refl })
