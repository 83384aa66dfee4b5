use Rattle.std.proofs.Common.{refl}
use Rattle.ls_world.proofs.ScriptRanges.{in_range}
use Rattle.ls_run.proofs.EngineLines.{line_did}
use Rattle.ls_run.proofs.engine.Engine.line.Goals as goal

pub step-requires-clause-range : goal.step-requires-clause-range
step-requires-clause-range c =
    let f = rw c.in-Some.is at c.in_ok-read.ensures.fits in
    in_range c.args.self.now.script c.in-Some.field-0.step f.fits

pub returns-in_ok-step-in-Some-clause-ok : goal.returns-in_ok-step-in-Some-clause-ok
returns-in_ok-step-in-Some-clause-ok c = λ w st.
    let r = rw c.in-Some.is at c.in_ok-read.ensures.read in
    let k = rw c.in-Some.is at c.in_ok-read.ensures.after in
    let f = rw c.in-Some.is at c.in_ok-read.ensures.fits in
    line_did c.args.self.now _ w c.args.line.now c.in-Some.field-0.step c.in-Some.field-0.times c.args.text.now.items _
    r.0 r.1 f.fits refl k c.in_ok-step-in-Some.ensures.ok st
