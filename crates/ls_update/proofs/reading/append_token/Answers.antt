use Rattle.std.proofs.Common.{arith}
use Rattle.ls_update.proofs.Growing.{grows_one}
use Rattle.ls_update.proofs.reading.append_token.Goals as goal

pub returns-clause-grows : goal.returns-clause-grows
returns-clause-grows c =
    grows_one c.args.prev.now c.args.values.now.items c.push_value.new.out.items c.in-Some-2.value c.args.token.now
    c.in_ok-push_value.ensures (omega arith) (rw c.in-Some-2.is at c.in_ok-value.ensures.some)
