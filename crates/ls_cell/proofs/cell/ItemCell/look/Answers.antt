use Rattle.std.proofs.Common.{subst, sym, ◌∙◌}
use Rattle.ls_event.specs.Cuts.{Fits}
use Rattle.ls_cell.specs.Cell.{StandsCell}
use Rattle.ls_cell.proofs.Recorded.{recorded}
use Rattle.ls_cell.proofs.cell.ItemCell.look.Goals as goal

pub returns-clause-fits : goal.returns-clause-fits
returns-clause-fits c = subst (λ v. Fits v.item.shape.fields c.in_ok-taken.taken) c.self.view_is
    (c.in_ok-taken.ensures.fits _ _ _ c.self.invariant.slots)

pub returns-clause-cut : goal.returns-clause-cut
returns-clause-cut c = λ ss h s st is.
    c.in_ok-taken.ensures.head ∙ (recorded _ ss h c.args.slot s (subst (λ v. StandsCell v ss h) (sym c.self.view_is) st)
    is).cut
