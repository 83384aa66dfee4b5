use Rattle.std.proofs.Common.{◌∙◌, ◌≤◌, List, length, sym, ap, cond, subst, Some, None}
use Rattle.std.specs.Slice.{IsItemAt}
use Rattle.ls_session.specs.declared.session.Session.{Session as Kept}
use Rattle.ls_hub.specs.Requests.{living_place}
use Rattle.ls_hub.proofs.Requested.{living_missing, living_there}
use Rattle.ls_hub.proofs.hub.Hub.living.Goals as goal

pub returns-in_err-session-clause-living : goal.returns-in_err-session-clause-living
returns-in_err-session-clause-living c = λ w st.
    c.from_residual-in_err-session.ensures
    ∙ living_missing c.args.self.now w c.in_ok-place.place st
    (subst (λ (ks : List Kept). length ks ≤ c.in_ok-place.place) c.deref.ensures.value c.in_err-session.ensures.lookup.3)
    ∙ ap (living_place w.sessions) (sym c.in_ok-place.was)

pub returns-then-is_alive-clause-living : goal.returns-then-is_alive-clause-living
returns-then-is_alive-clause-living c = λ w st.
    let at = subst (λ (ks : List Kept). IsItemAt ks c.in_ok-place.place (Some c.in_ok-session.session)) c.deref.ensures.value c.in_ok-session.ensures.lookup in
    ap (λ b. cond b (Some c.in_ok-place.place) None) (sym c.if-is_alive.true)
    ∙ living_there c.args.self.now w c.in_ok-place.place c.in_ok-session.session.now c.is_alive.result st at.3.0 at.1 c.is_alive.ensures
    ∙ ap (living_place w.sessions) (sym c.in_ok-place.was)

pub returns-else-is_alive-clause-living : goal.returns-else-is_alive-clause-living
returns-else-is_alive-clause-living c = λ w st.
    let at = subst (λ (ks : List Kept). IsItemAt ks c.in_ok-place.place (Some c.in_ok-session.session)) c.deref.ensures.value c.in_ok-session.ensures.lookup in
    ap (λ b. cond b (Some c.in_ok-place.place) None) (sym c.if-is_alive.false)
    ∙ living_there c.args.self.now w c.in_ok-place.place c.in_ok-session.session.now c.is_alive.result st at.3.0 at.1 c.is_alive.ensures
    ∙ ap (living_place w.sessions) (sym c.in_ok-place.was)
