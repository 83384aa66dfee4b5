use Rattle.std.proofs.Common.{None, Some, ◌≡◌, arith}
use Rattle.ls_stream.specs.Standing.{IsShort}
use Rattle.ls_session.proofs.Limits.{conf_short}
use Rattle.ls_stream.proofs.Lengths.{ok_is}
use Rattle.ls_session.proofs.telling.conf_text.Goals as goal

pub returns-in-None-clause-short : goal.returns-in-None-clause-short
returns-in-None-clause-short c =
    ok_is (λ t. IsShort t) c.configure_text.result _
    (conf_short c.args.sub None c.args.filtered (omega (arith, c.ranges.sub.fits)) (λ n e. absurd (let x : None ≡ Some n = e in cc)))
    c.configure_text.ensures
