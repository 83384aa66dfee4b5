use Rattle.ls_laws.proofs.Spelled.{apart_by_interval}
use Rattle.ls_laws.proofs.Spacing.{steps_apart, script_apart, steps_configured, script_configured}
use Rattle.ls_laws.proofs.law.updates_of_a_slot_are_apart.Goals as goal

pub returns-clause-apart : goal.returns-clause-apart
returns-clause-apart c = steps_apart

pub returns-clause-told : goal.returns-clause-told
returns-clause-told c = steps_configured

pub returns-clause-scripts : goal.returns-clause-scripts
returns-clause-scripts c = script_apart

pub returns-clause-told_by_scripts : goal.returns-clause-told_by_scripts
returns-clause-told_by_scripts c = script_configured

pub returns-clause-interval : goal.returns-clause-interval
returns-clause-interval c = apart_by_interval
