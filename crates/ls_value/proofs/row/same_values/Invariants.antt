use Rattle.std.proofs.Common.{◌≡◌, drop}
use Rattle.ls_value.specs.Values.{row_eq}
use Rattle.ls_value.proofs.row.same_values.Given as goal

-- the rests of both compare as both do
abbrev pub invariant-loop-i : goal.invariant-loop-i
invariant-loop-i l = row_eq (drop l.i l.a) (drop l.i l.b) ≡ row_eq l.a l.b
