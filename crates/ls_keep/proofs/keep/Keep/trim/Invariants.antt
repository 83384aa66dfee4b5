use Rattle.std.proofs.Common.{◌-◌}
use Rattle.ls_keep.specs.Kept.{GaveUp}
use Rattle.ls_keep.proofs.keep.Keep.trim.Given as goal

-- lines were given up so far
abbrev pub invariant-loop-self : goal.invariant-loop-self
invariant-loop-self l = GaveUp l.initial.self l.self

abbrev pub decreases-loop-self : goal.decreases-loop-self
decreases-loop-self l = l.self.sent - l.self.given_up
