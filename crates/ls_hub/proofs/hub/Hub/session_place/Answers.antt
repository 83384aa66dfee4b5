use Rattle.std.proofs.Common.{◌∙◌, sym, arith, None}
use Rattle.ls_hub.proofs.Hubs.{past_at, place_there}
use Rattle.ls_hub.proofs.hub.Hub.session_place.Goals as goal

pub returns-then-place-len-clause-place : goal.returns-then-place-len-clause-place
returns-then-place-len-clause-place c = λ w st.
    place_there c.args.self.now w c.args.connection c.in_ok-place.place st (sym c.session_of.ensures ∙ c.in_ok-place.was)
    (omega (arith, c.if-place-len.true, c.len.ensures, c.args.self.now.sessions.ok.0))

pub returns-else-place-len-clause-place : goal.returns-else-place-len-clause-place
returns-else-place-len-clause-place c = λ w st.
    sym (past_at c.args.self.now w c.args.connection c.in_ok-place.place None _ st (sym c.session_of.ensures ∙ c.in_ok-place.was)
    (omega (arith, c.if-place-len.false, c.len.ensures, c.args.self.now.sessions.ok.0)))
