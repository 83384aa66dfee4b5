use Rattle.std.proofs.Common.{◌≡◌, ◌++◌, take, drop, length}
use Rattle.ls_value.proofs.reuse.set_all.Given as goal

-- the values so far and those to come are the whole row
abbrev pub invariant-loop-i : goal.invariant-loop-i
invariant-loop-i l = (length l.values ≡ length l.others) × (take l.i l.values ++ drop l.i l.others ≡ l.others)
