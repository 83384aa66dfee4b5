use Rattle.std.proofs.Common.{◌∙◌, sym}
use Rattle.std.proofs.lemmas.Result.{on_ok_weaker}
use Rattle.ls_hub.proofs.Begun.{refused_printed}
use Rattle.ls_hub.proofs.Hubs.{on_failed}
use Rattle.ls_hub.proofs.hub.Hub.open.Goals as goal

pub returns-in-Some-clause-ok : goal.returns-in-Some-clause-ok
returns-in-Some-clause-ok c = on_ok_weaker c.refuse_stream.result (λ did w st.
    refused_printed c.args.self.now w c.args.connection c.args.create.now c.in-Some.code c.args.text.now.items c.refuse_stream.new.text.items
    (sym (c.create_code.ensures.code w st) ∙ c.in-Some.is) (did w st)) c.refuse_stream.ensures

pub returns-in-Some-clause-err : goal.returns-in-Some-clause-err
returns-in-Some-clause-err c = on_failed c.refuse_stream.result (λ w st. st)
