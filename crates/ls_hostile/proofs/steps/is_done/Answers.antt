use Rattle.ls_world.proofs.ScriptRanges.{in_range}
use Rattle.ls_hostile.proofs.steps.is_done.Goals as goal

pub step-requires-clause-range : goal.step-requires-clause-range
step-requires-clause-range c =
    let f = rw c.in-Some.is at c.in_ok-read.ensures.fits in
    in_range c.args.script.now c.in-Some.field-0.step f.fits
