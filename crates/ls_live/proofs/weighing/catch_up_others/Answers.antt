use Rattle.std.proofs.Common.{rules, ◌≡◌, ◌+◌, IsSome, subst, sym}
use Rattle.ls_cell.specs.Cell.{HasSlot}
use Rattle.ls_live.proofs.Lagging.{GoesOn, goes_on_next}
use Rattle.ls_live.proofs.weighing.catch_up_others.Goals as goal
use Rattle.ls_live.proofs.weighing.catch_up_others.Goals.{else-lag-ge-MUCH-via-then-lag-ge-MUCH+else-is_err}
use Rattle.ls_live.proofs.weighing.catch_up_others.Goals.{else-lag-ge-MUCH-via-else-lag-ge-MUCH}

pub returns-then-is_err-clause-fewer : goal.returns-then-is_err-clause-fewer
returns-then-is_err-clause-fewer c =
    let live : HasSlot c.loop-index.cell (c.loop-index.index + 1) = sym c.if-not-has.ensures.live in
    let now = goes_on_next _ c.loop-index.cell c.catch_up.new.self _ c.loop-index.invariant live c.catch_up.ensures.rest
    c.catch_up.ensures.some c.catch_up.ensures.stands in
    now.fewer

pub returns-then-is_err-clause-slots : goal.returns-then-is_err-clause-slots
returns-then-is_err-clause-slots c =
    let live : HasSlot c.loop-index.cell (c.loop-index.index + 1) = sym c.if-not-has.ensures.live in
    let now = goes_on_next _ c.loop-index.cell c.catch_up.new.self _ c.loop-index.invariant live c.catch_up.ensures.rest
    c.catch_up.ensures.some c.catch_up.ensures.stands in
    now.keeps

pub loop-index-preserved : goal.loop-index-preserved
loop-index-preserved c = elim c.else-lag-ge-MUCH.branch [
  | else-lag-ge-MUCH-via-then-lag-ge-MUCH+else-is_err w ↦
      let live : HasSlot c.loop-index.cell (c.loop-index.index + 1) = sym c.if-not-has.ensures.live in
      subst (GoesOn c.args.cell.now) (sym w.cell-is)
      (goes_on_next _ c.loop-index.cell w.catch_up.new.self _ c.loop-index.invariant live w.catch_up.ensures.rest
      w.catch_up.ensures.some w.catch_up.ensures.stands)
  | else-lag-ge-MUCH-via-else-lag-ge-MUCH w ↦ subst (GoesOn c.args.cell.now) (sym w.cell-is) c.loop-index.invariant
]
