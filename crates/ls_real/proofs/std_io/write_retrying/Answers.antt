use Rattle.std.proofs.Common.{refl}
use Rattle.ls_real.proofs.Trying.{kept_self, kept_on, interrupted_next}
use Rattle.ls_real.proofs.std_io.write_retrying.Goals as goal

pub loop-init : goal.loop-init
loop-init g c = (kept_self _, refl)

pub loop-preserved : goal.loop-preserved
loop-preserved g c =
    let i = c.loop.invariant in
    let e = c.in-Err.ensures in (
      kept_on _ _ _ i.0 e.bytes,
      interrupted_next g.W.Writer.answers _ _ _ c.loop.writer c.write_once.new.self c.in-Err.error i.1 e.answer
          (c.is_interrupted.ensures.0 c.if-not-is_interrupted.false),
    )
