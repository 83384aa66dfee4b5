use Rattle.std.proofs.Common.{◌≡◌, length}
use Rattle.ls_turns.proofs.turns.Turns.clear.Given as goal

-- the room stays
abbrev pub invariant-loop-node : goal.invariant-loop-node
invariant-loop-node l = l.self.spare ≡ l.fn.self.spare

-- a slot less each time
abbrev pub decreases-loop-node : goal.decreases-loop-node
decreases-loop-node l = length l.self.seats
