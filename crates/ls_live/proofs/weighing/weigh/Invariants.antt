use Rattle.ls_live.proofs.Lagging.{Goes}
use Rattle.ls_live.proofs.weighing.weigh.Given as goal

abbrev pub invariant-loop : goal.invariant-loop
invariant-loop l = Goes l.initial.cell l.cell l.counter
