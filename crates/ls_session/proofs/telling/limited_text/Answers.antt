use Rattle.std.proofs.Common.{Some, ◌≡◌, arith}
use Rattle.ls_stream.specs.Standing.{IsShort}
use Rattle.ls_session.proofs.Limits.{conf_short}
use Rattle.ls_stream.proofs.Lengths.{ok_is}
use Rattle.ls_session.proofs.telling.limited_text.Goals as goal

pub returns-clause-short : goal.returns-clause-short
returns-clause-short c =
    ok_is (λ t. IsShort t) c.configure_text.result _
    (conf_short c.args.sub (Some c.args.frequency) c.args.filtered (omega (arith, c.ranges.sub.fits))
    (λ n e. let x : Some c.args.frequency ≡ Some n = e in let same : c.args.frequency ≡ n = cc in omega (arith, c.ranges.frequency.fits, same)))
    c.configure_text.ensures
