use Rattle.std.proofs.Common.{arith, rules}
use Rattle.std.proofs.lemmas.Grind.{common_steps}
use Rattle.ls_mirror.specs.Tables.{heard_value}
use Rattle.ls_mirror.proofs.Hearing.{hears}
use Rattle.ls_mirror.proofs.subscription.Subscription.hear.Goals as goal

pub returns-clause-ok : goal.returns-clause-ok
returns-clause-ok c = hears c.hear.result c.args.item (heard_value c.args.heard) c.args.self.now _ c.or_insert-table.result.now c.hear.new.self (search rules)
    (grind (arith, common_steps)) (λ q other. grind (arith, common_steps)) c.hear.ensures.ok
