use Rattle.ls_outside.proofs.Bytes.{consumes_on}
use Rattle.ls_serve.proofs.Ends.{taken_part}
use Rattle.ls_serve.proofs.reading.take_in.Goals as goal

pub returns-then-is_err-clause-takes : goal.returns-then-is_err-clause-takes
returns-then-is_err-clause-takes g c =
    taken_part _ _ _ _ (consumes_on _ _ _ _ _ c.loop.invariant.0 c.in-Bytes.ensures.bytes.2)
