use Rattle.ls_laws.proofs.Spelled.{merge_state, merge_recent, merge_later, merge_snapshot}
use Rattle.ls_laws.proofs.law.each_row_is_among_the_last_states.Goals as goal

pub returns-clause-state : goal.returns-clause-state
returns-clause-state c = merge_state

pub returns-clause-recent : goal.returns-clause-recent
returns-clause-recent c = merge_recent

pub returns-clause-later : goal.returns-clause-later
returns-clause-later c = merge_later

pub returns-clause-snapshot : goal.returns-clause-snapshot
returns-clause-snapshot c = merge_snapshot
