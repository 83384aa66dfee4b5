use Rattle.ls_mirror.specs.Tables.{heard_value}
use Rattle.ls_mirror.proofs.Feeding.{heard_ok, heard_err, bad_stands, bad_known}
use Rattle.ls_mirror.proofs.client.Client.hear.Goals as goal

pub returns-clause-ok : goal.returns-clause-ok
returns-clause-ok c = heard_ok c.hear_at.result c.args.self.now c.hear_at.new.subscriptions c.args.sub c.args.item (heard_value c.args.heard)
    c.hear_at.ensures.ok

pub returns-clause-err : goal.returns-clause-err
returns-clause-err c = heard_err c.hear_at.result c.args.self.now c.hear_at.new.subscriptions c.hear_at.ensures.err

pub returns-clause-bad : goal.returns-clause-bad
returns-clause-bad c = λ lines st e. bad_stands c.args.self.now lines c.args.sub c.args.item (heard_value c.args.heard) st (c.hear_at.ensures.bad e)

pub returns-clause-only_bad : goal.returns-clause-only_bad
returns-clause-only_bad c =
    λ lines st bad. c.hear_at.ensures.only_bad (bad_known c.args.self.now lines c.args.sub c.args.item (heard_value c.args.heard) st bad)
