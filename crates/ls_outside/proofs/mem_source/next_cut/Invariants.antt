use Rattle.std.proofs.Common.{◌≡◌, ◌-◌, drop, length}
use Rattle.ls_outside.specs.Memory.{beyond}
use Rattle.ls_outside.proofs.mem_source.next_cut.Given as goal

-- the cuts that were looked at do not lie beyond the place
abbrev pub invariant-loop-cut : goal.invariant-loop-cut
invariant-loop-cut l = beyond l.place (drop l.cut l.cuts) ≡ beyond l.place (drop l.from l.cuts)

abbrev pub decreases-loop-cut : goal.decreases-loop-cut
decreases-loop-cut l = length l.cuts - l.cut
