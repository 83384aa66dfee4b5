use Rattle.std.proofs.Common.{subst, sym, arith, ◌≡◌, ◌+◌, ◌-◌}
use Rattle.ls_cell.specs.Cell.{Held, StandsCell, HasSlot, last_in}
use Rattle.ls_cell.proofs.Recorded.{recorded}
use Rattle.ls_cell.proofs.Sound.{near_at}
use Rattle.ls_cell.proofs.cell.ItemCell.lag.Goals as goal

pub overflow_sub-result : goal.overflow_sub-result
overflow_sub-result c =
    let live = subst (λ (v : Held). HasSlot v c.args.slot) (sym c.self.view_is) c.requires in
    omega (arith, c.last-last.ensures, (near_at _ c.args.slot c.self.invariant live).reached)

pub returns-clause-lag : goal.returns-clause-lag
returns-clause-lag c =
    let live = subst (λ (v : Held). HasSlot v c.args.slot) (sym c.self.view_is) c.requires in
    subst (λ (v : Held). last_in v c.args.slot + (c.self.inside.number - c.last-last.result) ≡ v.number) c.self.view_is
    (omega (arith, c.last-last.ensures, (near_at _ c.args.slot c.self.invariant live).reached))

pub returns-clause-behind : goal.returns-clause-behind
returns-clause-behind c = λ ss h s st is.
    let held = subst (λ v. StandsCell v ss h) (sym c.self.view_is) st in
    omega (arith, c.last-last.ensures, (recorded _ ss h c.args.slot s held is).last, held.number)
