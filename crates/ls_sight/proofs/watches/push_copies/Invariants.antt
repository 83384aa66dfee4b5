use Rattle.std.proofs.Common.{◌≡◌, [], length, take}
use Rattle.ls_told.specs.Seen.{SeesMore}
use Rattle.ls_sight.proofs.watches.push_copies.Given as goal

abbrev pub invariant-loop-i : goal.invariant-loop-i
invariant-loop-i g l =
    (l.watches.items ≡ l.fn.watches.items) × SeesMore l.fn.others.items l.others.items
    × (l.fn.others.items ≡ [] → l.others.items ≡ take l.i l.fn.watches.items)
    × (take (length l.fn.others.items) l.others.items ≡ l.fn.others.items)
