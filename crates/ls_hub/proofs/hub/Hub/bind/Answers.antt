use Rattle.std.proofs.Common.{◌∙◌, ap, sym}
use Rattle.std.proofs.lemmas.Result.{on_ok_weaker}
use Rattle.ls_hub.specs.Requests.{living_place}
use Rattle.ls_hub.proofs.Hubs.{on_failed}
use Rattle.ls_hub.proofs.Streams.{unknown_bound, known_bound}
use Rattle.ls_hub.proofs.hub.Hub.bind.Goals as goal

pub returns-in-None-clause-ok : goal.returns-in-None-clause-ok
returns-in-None-clause-ok c = on_ok_weaker c.refuse_stream.result (λ did w st.
    unknown_bound c.args.self.now w c.args.connection c.args.bind.now c.args.text.now.items c.refuse_stream.new.text.items
    (ap (living_place w.sessions) (sym (c.named.ensures w st.connections)) ∙ sym (c.living.ensures.living w st) ∙ c.in-None.is) (did w st))
    c.refuse_stream.ensures

pub returns-in-Some-clause-ok : goal.returns-in-Some-clause-ok
returns-in-Some-clause-ok c = on_ok_weaker c.bind_living.result (λ did w st.
    known_bound c.bind_living.new.self w c.args.connection c.args.bind.now c.in-Some.place c.args.text.now.items c.bind_living.new.text.items
    (ap (living_place w.sessions) (sym (c.named.ensures w st.connections)) ∙ sym (c.living.ensures.living w st) ∙ c.in-Some.is)
    (λ s living named. did w s st living named)) c.bind_living.ensures.ok

pub returns-in-None-clause-err : goal.returns-in-None-clause-err
returns-in-None-clause-err c = on_failed c.refuse_stream.result (λ w st. st)
