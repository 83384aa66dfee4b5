use Rattle.ls_lawful.proofs.DistinctTruths.{slot_leaves_out}
use Rattle.ls_laws.proofs.law.only_old_rows_are_left_out.Goals as goal

pub returns : goal.returns
returns c = λ h w s cs l distinct c r in_cs is low. slot_leaves_out h w s cs l distinct c r in_cs is low
