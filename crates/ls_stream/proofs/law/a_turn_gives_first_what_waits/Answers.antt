use Rattle.ls_stream.proofs.Firsts.{turn_is}
use Rattle.ls_stream.proofs.law.a_turn_gives_first_what_waits.Goals as goal

pub returns : goal.returns
returns c = turn_is
