use Rattle.std.proofs.Common.{◌∙◌}
use Rattle.ls_session.proofs.Leaving.{ended_stands}
use Rattle.ls_session.proofs.session.Session.finish.Goals as goal

pub returns-then-is_alive-clause-alive : goal.returns-then-is_alive-clause-alive
returns-then-is_alive-clause-alive c = λ r st alive. (
  c.finish.ensures.slots ∙ st.round.slots,
  ended_stands c.args.self.now c.end.new.self c.clear.new.self c.finish.new.self r c.args.code st (c.end.ensures r.session st.lines alive)
      c.clear.ensures c.finish.ensures.none c.finish.ensures.rest,
)
