use Rattle.std.proofs.Common.{◌∙◌}
use Rattle.ls_command.proofs.Clearing.{clears}
use Rattle.ls_command.proofs.linked.clear.Goals as goal

pub returns-clause-kept : goal.returns-clause-kept
returns-clause-kept c =
    (clears _ _ (c.unlink_all-2.ensures.lists ∙ c.unlink_all.ensures.lists ∙ c.requires)
    (c.unlink_all-2.ensures.others 0 c.unlink_all.ensures.empty) c.unlink_all-2.ensures.empty c.are_apart.ensures c.clear.ensures.empty).kept

pub returns-clause-keys : goal.returns-clause-keys
returns-clause-keys c =
    (clears _ _ (c.unlink_all-2.ensures.lists ∙ c.unlink_all.ensures.lists ∙ c.requires)
    (c.unlink_all-2.ensures.others 0 c.unlink_all.ensures.empty) c.unlink_all-2.ensures.empty c.are_apart.ensures c.clear.ensures.empty).keys
