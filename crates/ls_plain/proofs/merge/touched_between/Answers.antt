use Rattle.std.proofs.Common.{◌∙◌, sym}
use Rattle.ls_event.proofs.Cuts.{touched_after_length}
use Rattle.ls_plain.proofs.Touched.{touched_more}
use Rattle.ls_plain.proofs.merge.touched_between.Goals as goal

pub loop-i-preserved : goal.loop-i-preserved
loop-i-preserved c =
    let i = c.loop-i.invariant in
    rw (c.in_ok-touched-2.ensures, c.deref.ensures.value) (
      touched_after_length c.loop-i.touched.items _ ∙ i.0,
      sym (touched_more c.loop-i.touched.items c.args.history.now c.loop-i.i c.args.upto c.index-history-i.result c.loop-i-test.true c.requires.within) ∙ i.1,
    )
