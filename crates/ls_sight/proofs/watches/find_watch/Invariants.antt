use Rattle.ls_sight.specs.Sights.{NoneBefore}
use Rattle.ls_sight.proofs.watches.find_watch.Given as goal

abbrev pub invariant-loop-i : goal.invariant-loop-i
invariant-loop-i g l = NoneBefore l.watches.items l.i l.number
