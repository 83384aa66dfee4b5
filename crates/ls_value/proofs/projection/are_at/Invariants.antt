use Rattle.std.proofs.Common.{◌≡◌, drop}
use Rattle.ls_value.specs.Values.{projected, row_eq}
use Rattle.ls_value.proofs.projection.are_at.Given as goal

-- the rests compare as the whole does
abbrev pub invariant-loop-i : goal.invariant-loop-i
invariant-loop-i l = row_eq (drop l.i l.taken) (projected l.values (drop l.i l.places)) ≡ row_eq l.taken (projected l.values l.places)
