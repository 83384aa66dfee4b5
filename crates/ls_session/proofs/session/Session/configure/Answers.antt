use Rattle.ls_session.proofs.Changing.{limited}
use Rattle.ls_session.proofs.session.Session.configure.Goals as goal

pub returns-clause-ok : goal.returns-clause-ok
returns-clause-ok c = λ r st.
    limited c.args.self.now c.reserve.new.self c.number.new.self c.set_frequency.new.self c.restart.new.self r c.args.sub c.args.frequency c.args.filtered
    c.in_ok-line.line st c.in_ok-reserve.ensures.rest c.number.ensures c.in_ok-line.ensures.text c.in_ok-line.ensures.short
    (c.set_frequency.ensures.stands r.session.board.lines r.session.board.round c.args.frequency c.args.filtered st.subs)
    c.restart.ensures
