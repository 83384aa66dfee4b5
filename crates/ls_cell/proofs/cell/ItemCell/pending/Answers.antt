use Rattle.std.proofs.Common.{subst, sym, ◌∙◌}
use Rattle.ls_cell.specs.Cell.{StandsCell}
use Rattle.ls_cell.proofs.Recorded.{recorded}
use Rattle.ls_cell.proofs.cell.ItemCell.pending.Goals as goal

pub returns-clause-pending : goal.returns-clause-pending
returns-clause-pending c = λ ss h s st is.
    c.pending.ensures ∙ (recorded _ ss h c.args.slot s (subst (λ v. StandsCell v ss h) (sym c.self.view_is) st)
    is).pending
