use Rattle.ls_sight.proofs.Agreeing.{FirstFit}
use Rattle.ls_sight.proofs.watches.all_fit.Given as goal

abbrev pub invariant-loop-i : goal.invariant-loop-i
invariant-loop-i g l = FirstFit g.N.House.deed.config l.i l.watches.items
