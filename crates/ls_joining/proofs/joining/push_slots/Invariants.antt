use Rattle.std.proofs.Common.{◌≡◌, ◌≤◌, length, map, take}
use Rattle.std.specs.Vec.{vec_len, vec_capacity}
use Rattle.ls_joining.specs.Adding.{slot_begun}
use Rattle.ls_joining.proofs.joining.push_slots.Given as goal

abbrev pub invariant-loop-i : goal.invariant-loop-i
invariant-loop-i g l =
    (l.slots.items ≡ map slot_begun (take l.i l.seats.items))
    × (vec_len l.slots ≡ l.i)
    × (length l.seats.items ≤ vec_capacity l.slots)
