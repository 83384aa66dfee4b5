use Rattle.std.proofs.Common.{◌≡◌, drop}
use Rattle.ls_value.specs.Values.{text_eq}
use Rattle.ls_value.proofs.text.same_bytes.Given as goal

-- the rests of both compare as both do
abbrev pub invariant-loop-i : goal.invariant-loop-i
invariant-loop-i l = text_eq (drop l.i l.a) (drop l.i l.b) ≡ text_eq l.a l.b
