use Rattle.std.proofs.Common.{arith, ap, ◌<◌}
use Rattle.ls_cell.specs.Cell.{Held, last_in}
use Rattle.ls_cell.proofs.CellStands.{going_first, going_next}
use Rattle.ls_cell.proofs.cell.ItemCell.enqueue_each.Goals as goal

pub loop-init : goal.loop-init
loop-init c = going_first _ _ c.requires

pub loop-preserved : goal.loop-preserved
loop-preserved c =
    let more : last_in c.loop.self c.args.slot < c.loop.self.number =
    omega (
      arith,
      c.loop.invariant.last,
      c.loop-test.true,
      c.lag-end.ensures.lag,
      ap (λ (v : Held). v.number)
          c.loop.invariant.rest,
    ) in
    going_next _ c.loop.self _ _ _ c.loop.invariant more c.in_ok-enqueue.ensures.live c.in_ok-enqueue.ensures.rest
    c.in_ok-enqueue.ensures.last c.in_ok-enqueue.ensures.stands

pub returns-clause-last : goal.returns-clause-last
returns-clause-last c =
    omega (arith, c.loop.invariant.last, c.loop-test.false, c.loop.auto.counter-end, c.lag-end.ensures.lag)
