use Rattle.std.proofs.Common.{◌∙◌, ap, sym}
use Rattle.std.proofs.lemmas.Result.{on_ok_weaker, on_err_weaker}
use Rattle.ls_world.specs.Steps.{session_named}
use Rattle.ls_hub.specs.Requests.{living_place}
use Rattle.ls_hub.proofs.Hubs.{on_failed}
use Rattle.ls_hub.proofs.Requested.{unknown_printed, named_printed, is_living}
use Rattle.ls_hub.proofs.hub.Hub.control.Goals as goal

pub returns-in-None-clause-ok : goal.returns-in-None-clause-ok
returns-in-None-clause-ok c = on_ok_weaker c.answer.result (λ is w st.
    unknown_printed c.args.self.now w c.args.connection c.args.control.now.req c.args.control.now.session c.args.control.now.op c.args.text.now.items
    c.answer.new.text.items st
    (ap (living_place w.sessions) (sym (c.named.ensures w st.connections)) ∙ sym (c.living.ensures.living w st) ∙ c.in-None.is) is) c.answer.ensures

pub returns-in-None-clause-err : goal.returns-in-None-clause-err
returns-in-None-clause-err c = on_failed c.answer.result (λ w st. st)

pub returns-in-Some-clause-ok : goal.returns-in-Some-clause-ok
returns-in-Some-clause-ok c = on_ok_weaker c.operate.result (λ did w st.
    named_printed c.operate.new.self w c.args.connection c.args.control.now.req c.args.control.now.session c.args.control.now.op c.in-Some.place
    c.args.text.now.items c.operate.new.text.items
    (ap (living_place w.sessions) (sym (c.named.ensures w st.connections)) ∙ sym (c.living.ensures.living w st) ∙ c.in-Some.is)
    (λ s living. did w s st living)) c.operate.ensures.ok

pub returns-in-Some-clause-err : goal.returns-in-Some-clause-err
returns-in-Some-clause-err c = on_err_weaker c.operate.result (λ kept w st.
    let l = is_living w (session_named w c.args.connection c.args.control.now.session) c.in-Some.place
    (ap (living_place w.sessions) (sym (c.named.ensures w st.connections)) ∙ sym (c.living.ensures.living w st) ∙ c.in-Some.is) in
    kept w l.0 st l.1) c.operate.ensures.err
