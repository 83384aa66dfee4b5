use Rattle.std.proofs.Common.{arith}
use Rattle.ls_world.specs.Steps.{enqueue_once}
use Rattle.ls_hub.proofs.Hubs.{on_failed}
use Rattle.ls_hub.proofs.Repeats.{going_start, going_on, going_all, going_ended}
use Rattle.ls_hub.proofs.hub.Hub.enqueue.Goals as goal

pub loop-init : goal.loop-init
loop-init c = λ w st. going_start (enqueue_once c.args.connection c.args.sub c.args.rank) w _ _ st

pub returns-then-not-more-clause-ok : goal.returns-then-not-more-clause-ok
returns-then-not-more-clause-ok c = λ w st.
    let g = c.loop.invariant w st in
    going_ended (enqueue_once c.args.connection c.args.sub c.args.rank) w c.loop.counter c.args.times _ _ _ _ _ _ c.loop-test.true g
    (c.in_ok-more.ensures.ok _ g.stands)
    c.if-not-more.true

pub loop-preserved : goal.loop-preserved
loop-preserved c = λ w st.
    let g = c.loop.invariant w st in
    going_on (enqueue_once c.args.connection c.args.sub c.args.rank) w c.loop.counter _ _ _ _ _ _ g (c.in_ok-more.ensures.ok _ g.stands) c.if-not-more.false

pub returns-clause-ok : goal.returns-clause-ok
returns-clause-ok c = λ w st. going_all (enqueue_once c.args.connection c.args.sub c.args.rank) w c.loop.counter c.args.times _ _ _ (omega arith) (c.loop.invariant w st)

pub returns-in_err-more-clause-err : goal.returns-in_err-more-clause-err
returns-in_err-more-clause-err c = on_failed c.from_residual.result (λ w st.
    let g = c.loop.invariant w st in
    record { done = c.loop.counter; fewer = c.loop-test.true; goes = g.goes; stands = c.in_err-more.ensures.err _ g.stands })
