use Rattle.std.proofs.lemmas.Result.{on_ok_weaker}
use Rattle.ls_hub.proofs.Requested.{read_printed, unread_printed}
use Rattle.ls_hub.proofs.hub.Hub.request.Goals as goal

pub returns-in-Ok-clause-ok : goal.returns-in-Ok-clause-ok
returns-in-Ok-clause-ok c = on_ok_weaker c.act.result (λ did w st.
    rw c.in-Some.is
    (read_printed c.act.new.self w c.args.connection c.args.link c.args.name.now c.in-Some.params c.in-Ok.request
    c.args.text.now.items c.act.new.text.items c.in-Ok.ensures.read (did w st))) c.act.ensures.ok

pub returns-in-Err-Malformed-clause-ok : goal.returns-in-Err-Malformed-clause-ok
returns-in-Err-Malformed-clause-ok c = on_ok_weaker c.refuse-in-Err-Malformed.result (λ did w st.
    rw c.in-Some.is
    (unread_printed c.args.self.now w c.args.connection c.args.link c.args.name.now c.in-Some.params c.in-Err-Malformed.field-0
    c.in-Err-Malformed.req c.args.text.now.items c.refuse-in-Err-Malformed.new.text.items
    c.in-Err-Malformed.ensures.refused c.in-Err-Malformed.field-0-is (did w st))) c.refuse-in-Err-Malformed.ensures
