use Rattle.std.proofs.Common.{None, arith, sym}
use Rattle.std.proofs.lemmas.Grind.{common_steps}
use Rattle.ls_mirror.proofs.Feeding.{not_none, stands_begun}
use Rattle.ls_mirror.proofs.client.Client.end.Goals as goal

pub returns-clause-ok : goal.returns-clause-ok
returns-clause-ok c =
    stands_begun c.args.self.now c.remove.new.self c.args.sub None (grind (arith, common_steps))
    (λ q other. grind (arith, common_steps)) (λ s e. absurd (not_none s (sym e))) (λ s e i. absurd (not_none s (sym e)))
