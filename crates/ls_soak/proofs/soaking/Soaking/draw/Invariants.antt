use Rattle.std.proofs.Common.{◌≤◌, ◌-◌}
use Rattle.ls_soak.specs.declared.tally.Tally.{Tally}
use Rattle.ls_soak.specs.Drawing.{drawn}
use Rattle.ls_soak.specs.Soaking.{Leaves}
use Rattle.ls_soak.proofs.soaking.Soaking.draw.Given as goal

-- the lines of the steps so far are done
abbrev pub invariant-loop-before : goal.invariant-loop-before
invariant-loop-before l =
    (l.before ≤ l.steps)
    × ((all : Tally) → Leaves l.initial.self.engine l.initial.self.tally (drawn l.start 0 l.steps) all
    → Leaves l.self.engine l.self.tally (drawn l.x l.before (l.steps - l.before)) all)

abbrev pub decreases-loop-before : goal.decreases-loop-before
decreases-loop-before l = l.steps - l.before
