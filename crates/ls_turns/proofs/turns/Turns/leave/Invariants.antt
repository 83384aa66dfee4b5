use Rattle.std.proofs.Common.{◌≡◌}
use Rattle.ls_turns.specs.Round.{left_below}
use Rattle.ls_turns.proofs.turns.Turns.leave.Given as goal

-- the slots of the places below left
abbrev pub invariant-loop-place : goal.invariant-loop-place
invariant-loop-place l = l.self ≡ left_below l.sub l.place l.fn.self
