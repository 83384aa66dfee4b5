use Rattle.std.proofs.Common.{sym, subst}
use Rattle.ls_subs.specs.Plans.{IsReady}
use Rattle.ls_subs.proofs.Planning.{plan_joins, plan_ready}
use Rattle.ls_subs.proofs.subs.Subs.prepare.Goals as goal

pub returns-clause-join : goal.returns-clause-join
returns-clause-join c = plan_joins c.args.config.now.items c.args.add.now c.in_ok-plan.plan.items.items c.requires c.in_ok-plan.ensures.free
    c.in_ok-plan.ensures.plan.items

pub returns-clause-ready : goal.returns-clause-ready
returns-clause-ready c =
    subst (λ sub. IsReady sub c.in_ok-plan.plan.items.items) (sym c.in_ok-plan.ensures.plan.sub)
    (plan_ready c.args.config.now.items c.args.add.now c.in_ok-plan.plan.items.items c.in_ok-plan.ensures.free c.in_ok-plan.ensures.plan.items)
