use Rattle.ls_stream.specs.Standing.{IsShort}
use Rattle.ls_stream.proofs.Lengths.{ok_is, prog_short}
use Rattle.ls_stream.proofs.opening.count_text.Goals as goal

pub returns-clause-short : goal.returns-clause-short
returns-clause-short c = ok_is (λ t. IsShort t) c.into_text.result _ (prog_short c.args.count c.ranges.count.fits) c.into_text.ensures
