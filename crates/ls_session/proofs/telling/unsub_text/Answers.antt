use Rattle.std.proofs.Common.{arith}
use Rattle.ls_stream.specs.Standing.{IsShort}
use Rattle.ls_session.proofs.Limits.{unsub_short}
use Rattle.ls_stream.proofs.Lengths.{ok_is}
use Rattle.ls_session.proofs.telling.unsub_text.Goals as goal

pub returns-clause-short : goal.returns-clause-short
returns-clause-short c = ok_is (λ t. IsShort t) c.into_text.result _ (unsub_short c.args.sub (omega (arith, c.ranges.sub.fits))) c.into_text.ensures
