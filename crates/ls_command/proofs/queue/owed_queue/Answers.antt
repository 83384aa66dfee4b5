use Rattle.std.proofs.Common.{arith}
use Rattle.std.proofs.lemmas.Grind.{common_steps}
use Rattle.ls_command.proofs.Owing.{owing_next}
use Rattle.ls_command.proofs.queue.owed_queue.Goals as goal

pub loop-row-preserved : goal.loop-row-preserved
loop-row-preserved c =
    (grind (arith, common_steps), rw c.in_ok-owe.ensures (owing_next c.loop-row.queue c.in-Some.row c.loop-row.invariant.1))
