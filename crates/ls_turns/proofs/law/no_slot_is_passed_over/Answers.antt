use Rattle.ls_turns.proofs.Passing.{not_passed_over}
use Rattle.ls_turns.proofs.law.no_slot_is_passed_over.Goals as goal

pub returns : goal.returns
returns c = not_passed_over
