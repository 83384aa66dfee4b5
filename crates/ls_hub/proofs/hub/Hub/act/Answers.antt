use Rattle.std.proofs.lemmas.Result.{on_ok_weaker}
use Rattle.ls_hub.proofs.hub.Hub.act.Goals as goal

pub returns-in-Create-clause-ok : goal.returns-in-Create-clause-ok
returns-in-Create-clause-ok c = on_ok_weaker c.open.result (λ did w st. rw c.in-Create.is (did w st)) c.open.ensures.ok

pub returns-in-Create-clause-err : goal.returns-in-Create-clause-err
returns-in-Create-clause-err c = c.open.ensures.err

pub returns-in-Bind-clause-ok : goal.returns-in-Bind-clause-ok
returns-in-Bind-clause-ok c = on_ok_weaker c.bind.result (λ did w st. rw c.in-Bind.is (did w st)) c.bind.ensures.ok

pub returns-in-Bind-clause-err : goal.returns-in-Bind-clause-err
returns-in-Bind-clause-err c = c.bind.ensures.err

pub returns-in-Control-clause-ok : goal.returns-in-Control-clause-ok
returns-in-Control-clause-ok c = on_ok_weaker c.control.result (λ did w st. rw c.in-Control.is (did w st)) c.control.ensures.ok

pub returns-in-Control-clause-err : goal.returns-in-Control-clause-err
returns-in-Control-clause-err c = c.control.ensures.err
