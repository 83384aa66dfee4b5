use Rattle.std.proofs.Common.{◌∙◌, ap}
use Rattle.ls_session.specs.Session.{refs_of}
use Rattle.ls_session.proofs.Changing.{named_of, deleted}
use Rattle.ls_session.proofs.session.Session.end_sub.Goals as goal

pub returns-clause-ok : goal.returns-clause-ok
returns-clause-ok c = λ r st. (
  c.in_ok-slots.ensures ∙ ap (refs_of c.args.sub) st.round.slots ∙ named_of c.args.sub r.session.board.round,
  deleted c.args.self.now c.reserve.new.self c.number.new.self c.remove.new.self c.leave.new.self r c.args.sub c.in_ok-line.line st
      c.in_ok-reserve.ensures.rest c.number.ensures c.in_ok-line.ensures.text
      c.in_ok-line.ensures.short (c.remove.ensures.stands r.session.board.lines r.session.board.round st.subs) c.leave.ensures,
)
