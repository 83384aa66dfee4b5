use Rattle.ls_laws.proofs.Spelled.{due_line, due_numbers}
use Rattle.ls_laws.proofs.DueSlots.{due_is}
use Rattle.ls_laws.proofs.law.only_due_slots_give_lines.Goals as goal

pub returns-clause-round : goal.returns-clause-round
returns-clause-round c = due_line

pub returns-clause-numbered : goal.returns-clause-numbered
returns-clause-numbered c = due_numbers

pub returns-clause-due : goal.returns-clause-due
returns-clause-due c = due_is
