use Rattle.ls_laws.proofs.Others.{session_left, session_ticked, items_left, tick_left}
use Rattle.ls_laws.proofs.law.a_step_changes_its_session_alone.Goals as goal

pub returns-clause-sessions : goal.returns-clause-sessions
returns-clause-sessions c = session_left

pub returns-clause-ticks : goal.returns-clause-ticks
returns-clause-ticks c = session_ticked

pub returns-clause-items : goal.returns-clause-items
returns-clause-items c = items_left

pub returns-clause-clock : goal.returns-clause-clock
returns-clause-clock c = tick_left
