use Rattle.std.proofs.Common.{arith, subst, refl, ℕ}
use Rattle.ls_request.specs.declared.request.LinkKind.TheVariants as link
use Rattle.ls_world.specs.Steps.{creates, connects, plain_create}
use Rattle.ls_hub.specs.Hub.{Prints}
use Rattle.ls_hub.proofs.Begun.{connected_many, disconnected}
use Rattle.ls_hub.proofs.hub.Hub.connect_and_open.Goals as goal

pub returns-in-Ok-clause-ok : goal.returns-in-Ok-clause-ok
returns-in-Ok-clause-ok c = λ w st.
    subst (λ (n : ℕ). Prints (creates (connects w c.args.name link.Ws) n plain_create) c.args.text.now.items c.open.new.text.items c.open.new.self)
    (connected_many c.args.self.now w c.len-connection.result st (omega (arith, c.len-connection.ensures, c.args.self.now.connections.ok.0)))
    (c.in-Ok.ensures.ok (connects w c.args.name link.Ws) (c.in_ok-connect.ensures.ok w st))

pub returns-clause-err : goal.returns-clause-err
returns-clause-err c = λ w st.
    disconnected c.open.new.self _ w c.args.name link.Ws c.len-connection.result
    (c.in-Err.ensures.err (connects w c.args.name link.Ws) (c.in_ok-connect.ensures.ok w st))
    (connected_many c.args.self.now w c.len-connection.result st (omega (arith, c.len-connection.ensures, c.args.self.now.connections.ok.0)))
    refl refl refl refl refl c.truncate.ensures.items
