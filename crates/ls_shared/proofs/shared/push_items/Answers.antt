use Rattle.std.proofs.Common.{◌+◌, ◌<◌, length, sym, ◌∙◌, ap, arith, slice_get}
use Rattle.ls_shared.proofs.Shapes.{shape_at, stands_at, few_items}
use Rattle.ls_shared.proofs.Items.{facts_next}
use Rattle.ls_shared.proofs.shared.push_items.Goals as goal

pub live_item-requires-clause-declared : goal.live_item-requires-clause-declared
live_item-requires-clause-declared g c =
    let within : c.loop-item.item < length c.args.defs.now = omega (arith, c.loop-item-test.true) in
    let at = stands_at c.args.defs.now c.loop-item.item c.index-defs-item.result within c.index-defs-item.is in
    ap (λ ds. slice_get ds c.loop-item.item) (sym c.requires.config) ∙ at

pub live_item-requires-clause-shape : goal.live_item-requires-clause-shape
live_item-requires-clause-shape g c =
    let within : c.loop-item.item < length c.args.defs.now = omega (arith, c.loop-item-test.true) in
    let at = stands_at c.args.defs.now c.loop-item.item c.index-defs-item.result within c.index-defs-item.is in
    shape_at c.args.defs.now c.loop-item.item c.index-defs-item.result c.requires.items at

pub live_item-requires-clause-few : goal.live_item-requires-clause-few
live_item-requires-clause-few g c =
    omega (arith, c.loop-item.invariant.2, c.loop-item-test.true, few_items c.args.defs.now c.requires.items)

pub push_reserved-requires : goal.push_reserved-requires
push_reserved-requires g c =
    omega (arith, c.loop-item.invariant.3, c.loop-item.invariant.4, c.loop-item-test.true)

pub loop-item-preserved : goal.loop-item-preserved
loop-item-preserved g c =
    let within : c.loop-item.item < length c.args.defs.now = omega (arith, c.loop-item-test.true) in
    let at = stands_at c.args.defs.now c.loop-item.item c.index-defs-item.result within c.index-defs-item.is in
    let declared = ap (λ ds. slice_get ds c.loop-item.item) (sym c.requires.config) ∙ at in (
      c.live_item.ensures.table,
      facts_next g.N.House.deed.config c.loop-item.item (c.loop-item.item + 1) c.index-defs-item.result _ _ declared (omega arith) c.loop-item.invariant.1
          c.in_ok-live.ensures.items,
      omega (arith, c.in_ok-live.ensures.more, c.loop-item.invariant.2),
      omega (arith, c.push_reserved.ensures.len, c.loop-item.invariant.3),
      omega (arith, c.push_reserved.ensures.capacity, c.loop-item.invariant.4),
    )
