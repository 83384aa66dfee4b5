use Rattle.std.proofs.Common.{refl}
use Rattle.ls_session.proofs.Turns.{stands_resumed, resumed_record}
use Rattle.ls_session.proofs.session.Session.turn_round.Goals as goal

pub returns : goal.returns
returns c = λ r st later most.
    c.ask_next.ensures (resumed_record c.args.now r) (stands_resumed c.args.self.now c.resume.new.self r c.args.now st later most c.resume.ensures) refl refl
