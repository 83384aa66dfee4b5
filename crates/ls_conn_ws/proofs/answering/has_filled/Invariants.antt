use Rattle.std.proofs.Common.{◌≡◌, length}
use Rattle.ls_conn_ws.specs.Messages.{filled, lines_after, lines_of}
use Rattle.ls_conn_ws.proofs.answering.has_filled.Given as goal

-- the first lines are empty
abbrev pub invariant-loop-rest : goal.invariant-loop-rest
invariant-loop-rest l = filled (lines_of l.fn.text) ≡ filled (lines_after l.rest)

-- how many are left
abbrev pub decreases-loop-rest : goal.decreases-loop-rest
decreases-loop-rest l = length (lines_after l.rest)
