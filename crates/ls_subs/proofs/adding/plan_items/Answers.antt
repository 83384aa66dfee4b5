use Rattle.std.proofs.Common.{◌≡◌, ◌+◌, sym, subst, length, arith}
use Rattle.std.proofs.lemmas.Option.{slice_get-get_or}
use Rattle.ls_subs.proofs.Asks.{SoFar, more_items, all_items}
use Rattle.ls_subs.proofs.adding.plan_items.Goals as goal

pub loop-i-preserved : goal.loop-i-preserved
loop-i-preserved c =
    subst (SoFar c.args.defs.now c.args.add.now c.args.group.now (c.loop-i.i + 1)) (sym c.in_ok-push.ensures.items)
    (more_items c.args.defs.now c.args.add.now c.args.group.now c.loop-i.i _ c.loop-i.items.items c.in_ok-item.item
    (slice_get-get_or c.args.group.now c.loop-i.i 0 c.loop-i-test.true) c.in_ok-item.ensures c.loop-i.invariant)

pub returns : goal.returns
returns c =
    let last : c.loop-i.i ≡ length c.args.group.now = omega (arith, c.loop-i-test.false, c.loop-i.auto.i-end) in
    all_items c.args.defs.now c.args.add.now c.args.group.now c.loop-i.items.items
    (subst (λ i. SoFar c.args.defs.now c.args.add.now c.args.group.now i c.loop-i.items.items) last c.loop-i.invariant)
