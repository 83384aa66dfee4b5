use Rattle.std.proofs.Common.{◌≡◌, drop, take, length, ◌++◌}
use Rattle.ls_subs.specs.Kept.{with_slots}
use Rattle.ls_subs.proofs.subs.with_slots.Given as goal

-- the items up to a place have their slots
abbrev pub invariant-loop-i : goal.invariant-loop-i
invariant-loop-i l =
    (length l.items.items ≡ length l.fn.items.items)
    × (take l.i l.items.items ++ with_slots (drop l.i l.items.items) (drop l.i l.slots) ≡ with_slots l.fn.items.items l.slots)
