use Rattle.std.proofs.Common.{refl, ◌∙◌, ap, arith, ◌++◌, ◌∷◌, []}
use Rattle.ls_hub.proofs.Begun.{begun, same_hub}
use Rattle.ls_hub.proofs.Hubs.{on_failed}
use Rattle.ls_hub.proofs.hub.Hub.begin.Goals as goal

pub returns-clause-ok : goal.returns-clause-ok
returns-clause-ok c = λ w st.
    begun c.args.self.now _ w c.args.connection c.args.create.now c.len-place.result c.in_ok-session.session st refl refl refl
    (c.push_reserved.ensures.items ∙ ap (λ ns. ns ++ c.len-place.result ∷ []) c.reserve.ensures.items)
    (omega (arith, c.len-place.ensures, c.args.self.now.sessions.ok.0)) c.in_ok-push.ensures.items
    (c.in_ok-session.ensures (omega (arith, st.tick, st.in_range))) c.give_session.ensures

pub returns-in_err-reserve-clause-err : goal.returns-in_err-reserve-clause-err
returns-in_err-reserve-clause-err c = on_failed c.from_residual.result
    (same_hub c.args.self.now _ (record {
      config = refl;
      tick = refl;
      cells = refl;
      connections = refl;
      sessions = refl;
      living = c.reserve.ensures.items;
    }))

pub returns-in_err-session-clause-err : goal.returns-in_err-session-clause-err
returns-in_err-session-clause-err c = on_failed c.from_residual-in_err-session.result
    (same_hub c.args.self.now _ (record {
      config = refl;
      tick = refl;
      cells = refl;
      connections = refl;
      sessions = refl;
      living = c.reserve.ensures.items;
    }))

pub returns-in_err-push-clause-err : goal.returns-in_err-push-clause-err
returns-in_err-push-clause-err c = on_failed c.from_residual-in_err-push.result
    (same_hub c.args.self.now _ (record {
      config = refl;
      tick = refl;
      cells = refl;
      connections = refl;
      sessions = c.in_err-push.ensures.items;
      living = c.reserve.ensures.items;
    }))
