use Rattle.std.proofs.Common.{subst, sym, ◌∙◌, ap}
use Rattle.ls_item.specs.States.{IsStateOf}
use Rattle.ls_cell.proofs.Arrivals.{merge_joins}
use Rattle.ls_cell.proofs.joining.merge_buffer.Goals as goal

pub returns : goal.returns
returns c =
    merge_joins _ _ _ _ _ _ _ c.is_asked.ensures (sym c.in-Merge.is ∙ c.in_ok-row.ensures.state)
    (subst (IsStateOf c.args.item.now.shape) c.in-Merge.is c.in_ok-row.ensures.fits)
    (ap (λ x. x.last) c.in_ok-buffer.ensures.ok) (ap (λ x. x.row) c.in_ok-buffer.ensures.ok)
    c.in_ok-buffer.ensures.stands
