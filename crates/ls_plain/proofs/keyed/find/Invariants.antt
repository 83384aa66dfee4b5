use Rattle.std.proofs.Common.{◌≡◌, ◌++◌, take, drop}
use Rattle.ls_event.specs.Keyed.{without}
use Rattle.ls_plain.proofs.keyed.find.Given as goal

-- the key isn't among the first
abbrev pub invariant-loop-i : goal.invariant-loop-i
invariant-loop-i l = without l.key l.rows ≡ take l.i l.rows ++ without l.key (drop l.i l.rows)
