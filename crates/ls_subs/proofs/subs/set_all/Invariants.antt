use Rattle.std.proofs.Common.{◌≡◌, drop, take, length, map, ◌++◌}
use Rattle.ls_subs.specs.Kept.{limited}
use Rattle.ls_subs.proofs.subs.set_all.Given as goal

-- the items up to a place have the frequency
abbrev pub invariant-loop-i : goal.invariant-loop-i
invariant-loop-i l =
    (length l.items.items ≡ length l.fn.items.items)
    × (take l.i l.items.items ++ map (limited l.frequency) (drop l.i l.items.items) ≡ map (limited l.frequency) l.fn.items.items)
