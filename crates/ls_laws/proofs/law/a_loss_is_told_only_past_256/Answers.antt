use Rattle.ls_lawful.proofs.RawTruths.{slot_lost, slot_whole}
use Rattle.ls_laws.proofs.law.a_loss_is_told_only_past_256.Goals as goal

pub returns-clause-lost : goal.returns-clause-lost
returns-clause-lost c = slot_lost

pub returns-clause-rows : goal.returns-clause-rows
returns-clause-rows c = slot_whole
