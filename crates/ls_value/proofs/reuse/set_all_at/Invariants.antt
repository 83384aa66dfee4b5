use Rattle.std.proofs.Common.{◌≡◌, ◌++◌, take, drop, length}
use Rattle.ls_value.specs.Values.{projected}
use Rattle.ls_value.proofs.reuse.set_all_at.Given as goal

-- the values so far and those to come are the whole row
abbrev pub invariant-loop-i : goal.invariant-loop-i
invariant-loop-i l = (length l.values ≡ length l.places) × (take l.i l.values ++ projected l.row (drop l.i l.places) ≡ projected l.row l.places)
