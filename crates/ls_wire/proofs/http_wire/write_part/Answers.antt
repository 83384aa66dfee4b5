use Rattle.std.proofs.Common.{◌∙◌}
use Rattle.ls_outside.proofs.Bytes.{written_on}
use Rattle.ls_wire.proofs.http_wire.write_part.Goals as goal

pub loop-at-preserved : goal.loop-at-preserved
loop-at-preserved g c =
    let h = c.in-Taken.ensures in
    let i = c.loop-at.invariant in
    let w = written_on _ _ _ c.args.piece.now c.loop-at.at c.in-Taken.count i.0 i.1 h.bytes.0 h.bytes.2 in
    (w.0, w.1, h.cause.counts ∙ i.2, h.source ∙ i.3)
