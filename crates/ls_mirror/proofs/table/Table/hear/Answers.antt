use Rattle.ls_mirror.proofs.Moving.{coded_moves, missed_moves}
use Rattle.ls_mirror.proofs.table.Table.hear.Goals as goal

pub returns-in_ok-row-in-Coded-clause-ok : goal.returns-in_ok-row-in-Coded-clause-ok
returns-in_ok-row-in-Coded-clause-ok c =
    rw c.in-Coded.is (coded_moves c.take.result c.args.fields c.args.places c.args.self.now c.take.new.self c.in-Coded.coded.now
    c.in_ok-row-in-Coded.row c.in_ok-row-in-Coded.ensures.row c.take.ensures.ok)

pub returns-in-Missed-clause-ok : goal.returns-in-Missed-clause-ok
returns-in-Missed-clause-ok c =
    rw c.in-Missed.is (missed_moves c.args.fields c.args.places c.args.self.now c.in-Missed.lost c.saturating_add-self.result
    c.saturating_add-self.ensures)
