use Rattle.std.proofs.Common.{◌-◌, ◌+◌, arith, length, ℕ, subst}
use Rattle.ls_hub.specs.Clock.{Clocked}
use Rattle.ls_hub.proofs.Ticked.{clock_set, clock_all}
use Rattle.ls_hub.proofs.hub.Hub.tick_to.Goals as goal

pub loop-init : goal.loop-init
loop-init c = λ w st later most.
    subst (λ (n : ℕ). Clocked w c.args.ms 0 n (record c.args.self.now { tick = c.args.ms }))
    {x = length c.args.self.now.living.items} {y = length c.args.self.now.living.items - 0} (omega arith)
    (clock_set c.args.self.now w c.args.ms st later most)

pub loop-preserved : goal.loop-preserved
loop-preserved c = λ w st later most.
    let n : ℕ = length c.args.self.now.living.items in
    c.time_out-met.ensures w c.args.ms (n - (c.loop.counter + 1))
    (subst (λ (k : ℕ). Clocked w c.args.ms c.loop.met k c.loop.self) {x = n - c.loop.counter} {y = n - (c.loop.counter + 1) + 1}
    (omega (arith, c.loop-test.true, c.len-end.ensures, c.args.self.now.living.ok.0)) (c.loop.invariant w st later most))

pub returns : goal.returns
returns c = λ w st later most.
    let n : ℕ = length c.args.self.now.living.items in
    clock_all w c.args.ms c.loop.met c.loop.self
    (subst (λ (k : ℕ). Clocked w c.args.ms c.loop.met k c.loop.self) {x = n - c.loop.counter} {y = 0}
    (omega (arith, c.loop-test.false, c.len-end.ensures, c.args.self.now.living.ok.0)) (c.loop.invariant w st later most))
