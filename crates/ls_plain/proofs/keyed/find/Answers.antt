use Rattle.ls_plain.proofs.More.{not_there}
use Rattle.ls_plain.proofs.keyed.find.Goals as goal

pub returns-clause-absent : goal.returns-clause-absent
returns-clause-absent c = not_there c.args.key.now c.args.rows.now c.loop-i.i c.loop-i.invariant c.loop-i-test.false
