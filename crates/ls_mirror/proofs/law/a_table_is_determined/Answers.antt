use Rattle.ls_mirror.proofs.Determined.{one_table}
use Rattle.ls_mirror.proofs.law.a_table_is_determined.Goals as goal

pub returns : goal.returns
returns c = one_table
