use Rattle.std.proofs.lemmas.Result.{on_ok_weaker}
use Rattle.ls_hub.proofs.hub.Hub.add.Goals as goal

pub returns-clause-ok : goal.returns-clause-ok
returns-clause-ok c = on_ok_weaker c.request.result (λ did w st at. rw (c.in_ok-params.ensures, at) at (did w st)) c.request.ensures.ok
