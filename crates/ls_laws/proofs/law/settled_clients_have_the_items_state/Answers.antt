use Rattle.ls_lawful.proofs.Settled.{settled, settled_row, settled_snapshot, settled_later}
use Rattle.ls_laws.proofs.law.settled_clients_have_the_items_state.Goals as goal

pub returns-clause-came : goal.returns-clause-came
returns-clause-came c = settled_row

pub returns-clause-has : goal.returns-clause-has
returns-clause-has c = settled

pub returns-clause-snapshot : goal.returns-clause-snapshot
returns-clause-snapshot c = settled_snapshot

pub returns-clause-later : goal.returns-clause-later
returns-clause-later c = settled_later
