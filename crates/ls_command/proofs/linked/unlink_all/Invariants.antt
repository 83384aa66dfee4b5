use Rattle.std.proofs.Common.{◌≡◌, ℕ, [], length, get_or}
use Rattle.ls_command.proofs.linked.unlink_all.Given as goal

-- the lists stay, and those that were empty are empty
abbrev pub invariant-loop-node : goal.invariant-loop-node
invariant-loop-node l =
    (length l.links.lists ≡ length l.fn.links.lists)
    × ((other : ℕ) → get_or l.fn.links.lists other [] ≡ [] → get_or l.links.lists other [] ≡ [])

-- a node less each time
abbrev pub decreases-loop-node : goal.decreases-loop-node
decreases-loop-node l = length (get_or l.links.lists l.list [])
