use Rattle.std.proofs.Common.{◌≡◌, ◌++◌, take, drop, length}
use Rattle.ls_merge.specs.Runs.{over}
use Rattle.ls_merge.proofs.runs.under.Given as goal

-- what the fields so far say and what the rest will say is what all say together
abbrev pub invariant-loop-i : goal.invariant-loop-i
invariant-loop-i l =
    (take l.i l.said ++ over (drop l.i l.before) (drop l.i l.said) ≡ over l.before l.initial.said)
    × (length l.said ≡ length l.initial.said)
