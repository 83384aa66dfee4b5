use Rattle.std.proofs.Common.{length, ap, ◌∙◌}
use Rattle.ls_value.proofs.Rows.{applied_length}
use Rattle.ls_item.proofs.merge.MergeState.add.Goals as goal

pub returns-in_ok-set_applied-in-Update-clause-fields : goal.returns-in_ok-set_applied-in-Update-clause-fields
returns-in_ok-set_applied-in-Update-clause-fields c =
    ap length c.swap.ensures.x_after ∙ ap length c.in_ok-set_applied-in-Update.ensures ∙ applied_length c.self.inside.row _ ∙ ap length c.self.view_is
