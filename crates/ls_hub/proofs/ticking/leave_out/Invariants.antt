use Rattle.std.proofs.Common.{◌≡◌, ◌++◌, drop, take}
use Rattle.ls_hub.specs.Clock.{without_place}
use Rattle.ls_hub.proofs.ticking.leave_out.Given as goal

-- the place isn't among those so far
abbrev pub invariant-loop-i : goal.invariant-loop-i
invariant-loop-i l = (l.places ≡ l.initial.places)
    × (take l.i l.places.items ++ without_place l.place (drop l.i l.places.items) ≡ without_place l.place l.places.items)
