use Rattle.std.proofs.Common.{◌≡◌, ◌≤◌, drop, length}
use Rattle.ls_event.specs.Keyed.{is_before}
use Rattle.ls_plain.proofs.keyed.is_before.Given as goal

-- the bytes so far are equal
abbrev pub invariant-loop-i : goal.invariant-loop-i
invariant-loop-i l = (l.i ≤ length l.a) × (is_before (drop l.i l.a) (drop l.i l.b) ≡ is_before l.a l.b)
