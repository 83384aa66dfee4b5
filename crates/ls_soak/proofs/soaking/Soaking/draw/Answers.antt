use Rattle.std.proofs.Common.{arith, ◌-◌, ◌+◌}
use Rattle.ls_soak.specs.Drawing.{drawn}
use Rattle.ls_soak.proofs.Playing.{next_drawn, all_drawn, none_drawn}
use Rattle.ls_soak.proofs.soaking.Soaking.draw.Goals as goal

pub loop-before-init : goal.loop-before-init
loop-before-init c = (omega arith, λ all l. none_drawn _ _ all c.args.start c.args.steps l)

pub loop-before-preserved : goal.loop-before-preserved
loop-before-preserved c =
    let i = c.loop-before.invariant in
    let before = c.loop-before.before in
    let steps = c.args.steps in
    let less = c.loop-before-test.true in (
      omega (arith, less),
      λ all l. c.in-Ok.ensures.ok (drawn c.following-x.result (before + 1) (steps - (before + 1))) all
          (rw c.following-x.ensures (next_drawn _ _ all c.loop-before.x before steps less (i.1 all l))),
    )

pub returns-in-Err-clause-bad : goal.returns-in-Err-clause-bad
returns-in-Err-clause-bad c = λ is all l.
    let before = c.loop-before.before in
    let steps = c.args.steps in
    c.in-Err.ensures.bad is (drawn c.following-x.result (before + 1) (steps - (before + 1))) all
    (rw c.following-x.ensures (next_drawn _ _ all c.loop-before.x before steps c.loop-before-test.true (c.loop-before.invariant.1 all l)))

pub returns-clause-ok : goal.returns-clause-ok
returns-clause-ok c = λ all l.
    all_drawn _ _ all c.loop-before.x c.loop-before.before c.args.steps c.loop-before-test.false (c.loop-before.invariant.1 all l)
