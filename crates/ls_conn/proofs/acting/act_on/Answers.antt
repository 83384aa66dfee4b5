use Rattle.std.proofs.Common.{◌≡◌}
use Rattle.ls_conn.specs.Acting.{known}
use Rattle.ls_conn.proofs.Opening.{opens_by_name}
use Rattle.ls_conn.proofs.Saying.{acts_read}
use Rattle.ls_conn.proofs.acting.act_on.Goals as goal

pub returns-in-Ok-clause-acts : goal.returns-in-Ok-clause-acts
returns-in-Ok-clause-acts g c =
    acts_read g.N.House.deed
    (record { link = c.args.link; own = c.args.own; name = c.args.name.now; params = c.args.params.now; now = c.args.now })
    (known c.args.view.now c.args.tokens.now.items) (known c.do_request.new.view c.do_request.new.tokens.items) c.in-Ok.request c.do_request.result
    c.in-Ok.ensures.read c.do_request.ensures.requests

pub returns-in-Ok-clause-opens : goal.returns-in-Ok-clause-opens
returns-in-Ok-clause-opens g c = λ opened.
    opens_by_name c.args.link c.args.name.now c.args.params.now c.in-Ok.request c.in-Ok.ensures.read (c.do_request.ensures.opens opened)
