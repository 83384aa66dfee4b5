use Rattle.std.proofs.Common.{◌≤◌, arith, subst, sym}
use Rattle.std.proofs.lemmas.List.{drop_more}
use Rattle.ls_cell.specs.Any.{any_last}
use Rattle.ls_cell.specs.Numbered.{IsAt, EachSlot}
use Rattle.ls_cell.proofs.Changes.{at_weaker}
use Rattle.ls_cell.proofs.slots.least_last.Goals as goal

pub loop-i-preserved : goal.loop-i-preserved
loop-i-preserved c = λ m low each.
    let slots = c.args.slots.now in
    let here = at_weaker (λ b. c.least_of-least.result ≤ any_last b) (λ b. m ≤ any_last b) (λ b most. omega (arith, low, most))
    _ c.least_of-least.ensures.slot in
    c.loop-i.invariant m (omega (arith, low, c.least_of-least.ensures.other))
    (subst (EachSlot (λ b. m ≤ any_last b)) (sym (drop_more slots c.loop-i.i c.index-slots-i.result c.loop-i-test.true))
    (subst (IsAt (λ b. m ≤ any_last b)) c.index-slots-i.is here, each))
