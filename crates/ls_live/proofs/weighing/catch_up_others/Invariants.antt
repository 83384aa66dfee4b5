use Rattle.ls_live.proofs.Lagging.{GoesOn}
use Rattle.ls_live.proofs.weighing.catch_up_others.Given as goal

abbrev pub invariant-loop-index : goal.invariant-loop-index
invariant-loop-index l = GoesOn l.initial.cell l.cell
