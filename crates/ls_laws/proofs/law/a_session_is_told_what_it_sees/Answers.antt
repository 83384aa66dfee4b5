use Rattle.ls_laws.proofs.Alone.{own_alike}
use Rattle.ls_laws.proofs.law.a_session_is_told_what_it_sees.Goals as goal

pub returns-clause-printed : goal.returns-clause-printed
returns-clause-printed c n connection w v s times e at own room = (own_alike n connection w v s times e at own room).outs

pub returns-clause-sees : goal.returns-clause-sees
returns-clause-sees c n connection w v s times e at own room = (own_alike n connection w v s times e at own room).after
