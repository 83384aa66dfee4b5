use Rattle.std.proofs.Common.{subst, ◌<◌}
use Rattle.ls_value.specs.declared.limits.TheConstants.{GREATEST_NUMBER}
use Rattle.ls_hub.proofs.turning.pass_known.Goals as goal

pub returns-then-last-lt-GREATEST_NUMBER : goal.returns-then-last-lt-GREATEST_NUMBER
returns-then-last-lt-GREATEST_NUMBER c = λ now items epoch before behind r u.
    (c.skip_known.ensures now items epoch before behind r (record {
      rests = u;
      left = subst (λ n. n < GREATEST_NUMBER) (c.last.ensures u.on.asking u.on.session) c.if-last-lt-GREATEST_NUMBER.true;
    })).rests.on

pub returns-else-last-lt-GREATEST_NUMBER : goal.returns-else-last-lt-GREATEST_NUMBER
returns-else-last-lt-GREATEST_NUMBER c = λ now items epoch before behind r u. u.on
