use Rattle.std.proofs.Common.{◌∙◌, ap}
use Rattle.ls_value.specs.Values.{kept_or_taken, cell_at}
use Rattle.ls_plain.proofs.More.{values_grown}
use Rattle.ls_plain.proofs.keyed.values_after.Goals as goal

pub loop-i-preserved : goal.loop-i-preserved
loop-i-preserved c =
    let pushed = rw c.in_ok-push.was at c.push.ensures.items in
    let after = c.in_ok-value_after.ensures ∙ ap (λ v. kept_or_taken v (cell_at c.args.cells.now c.loop-i.i)) c.index-row-i.is in
    rw pushed (values_grown c.loop-i.values.items c.args.row.now _ c.args.cells.now c.loop-i.i c.index-row-i.result c.in_ok-value_after.field-0
    c.loop-i.invariant c.loop-i-test.true after)
