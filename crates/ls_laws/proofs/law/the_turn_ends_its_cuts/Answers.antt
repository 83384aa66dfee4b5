use Rattle.ls_record.proofs.Turns.{turn_ends}
use Rattle.ls_laws.proofs.law.the_turn_ends_its_cuts.Goals as goal

pub returns : goal.returns
returns c = turn_ends
