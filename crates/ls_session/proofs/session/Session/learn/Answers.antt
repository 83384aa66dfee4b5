use Rattle.std.proofs.Common.{◌∙◌}
use Rattle.ls_session.proofs.Fronts.{front_longer}
use Rattle.ls_session.proofs.Passing.{learned}
use Rattle.ls_session.proofs.session.Session.learn.Goals as goal

pub returns-then-waits_for_frequency : goal.returns-then-waits_for_frequency
returns-then-waits_for_frequency c = λ r v h st next pends undue is.
    let waits = c.waits_for_frequency.ensures c.if-waits_for_frequency.true r v h st next pends undue in
    learned c.args.self.now c.extend_front.new.self r st c.extend_front.ensures.front.rest
    (front_longer c.args.self.now.asking c.extend_front.new.self r.session.board.lines r.session.board.round r.asked c.args.tick v st.front
    c.extend_front.ensures.front c.extend_front.ensures.apart st.round.next next.0 waits.0 (is ∙ waits.1))
