use Rattle.std.proofs.Common.{◌-◌, length}
use Rattle.ls_taking.specs.Taking.{NoneFrom}
use Rattle.ls_taking.proofs.finding.last_place.Given as goal

abbrev pub invariant-loop-i : goal.invariant-loop-i
invariant-loop-i g l = NoneFrom l.subs.items (length l.subs.items - l.i) l.sub
