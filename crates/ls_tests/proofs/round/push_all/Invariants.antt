use Rattle.std.proofs.Common.{◌≡◌, length}
use Rattle.ls_tests.proofs.round.push_all.Given as goal

-- there are as many lists
abbrev pub invariant-loop-place : goal.invariant-loop-place
invariant-loop-place l = length l.links.lists ≡ length l.fn.links.lists
