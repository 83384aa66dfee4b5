use Rattle.std.proofs.Common.{refl}
use Rattle.ls_hub.proofs.Begun.{same_hub}
use Rattle.ls_hub.proofs.Hubs.{on_failed}
use Rattle.ls_hub.proofs.hub.Hub.connect.Goals as goal

pub returns-in_err-push-clause-err : goal.returns-in_err-push-clause-err
returns-in_err-push-clause-err c = on_failed c.from_residual.result
    (same_hub c.args.self.now _ (record {
      config = refl;
      tick = refl;
      cells = refl;
      connections = c.in_err-push.ensures.items;
      sessions = refl;
      living = refl;
    }))
