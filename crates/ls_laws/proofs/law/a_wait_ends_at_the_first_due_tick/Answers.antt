use Rattle.ls_laws.proofs.Spelled.{least_wait_is}
use Rattle.ls_laws.proofs.DueSlots.{wait_is_later, wait_is_first, idle_waits}
use Rattle.ls_laws.proofs.Spends.{steps_wait, script_waits}
use Rattle.ls_laws.proofs.law.a_wait_ends_at_the_first_due_tick.Goals as goal

pub returns-clause-later : goal.returns-clause-later
returns-clause-later c = wait_is_later

pub returns-clause-least : goal.returns-clause-least
returns-clause-least c = least_wait_is

pub returns-clause-first : goal.returns-clause-first
returns-clause-first c = λ now items epoch s tick some behind is.
    let x = wait_is_first now items epoch s tick some behind is in (x.from_now, x.so, x.not_before)

pub returns-clause-steps : goal.returns-clause-steps
returns-clause-steps c = steps_wait

pub returns-clause-scripts : goal.returns-clause-scripts
returns-clause-scripts c = script_waits

pub returns-clause-idle : goal.returns-clause-idle
returns-clause-idle c = idle_waits
