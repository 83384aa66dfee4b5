use Rattle.std.proofs.Common.{◌≡◌, length}
use mathlib.Core.List.{IsPrefix}
use Rattle.ls_conn.specs.Acting.{known}
use Rattle.ls_conn_ws.specs.Messages.{filled, lines_after, lines_of}
use Rattle.ls_conn_ws.specs.Answering.{Replying}
use Rattle.ls_conn_ws.proofs.answering.answer_each.Given as goal

-- the first lines were answered
abbrev pub invariant-loop-rest : goal.invariant-loop-rest
invariant-loop-rest g l =
    Replying g.N.House.deed l.own l.now (filled (lines_of l.fn.text)) (filled (lines_after l.rest)) (known l.initial.view l.initial.seen) (known l.view l.seen)
    (g.T.LineOut.log l.initial.talk) (g.T.LineOut.log l.talk)
    × IsPrefix l.initial.view l.view × (g.T.LineOut.faults l.talk ≡ g.T.LineOut.faults l.initial.talk) × (g.T.LineOut.counts l.talk ≡ g.T.LineOut.counts l.initial.talk)

-- how many are left
abbrev pub decreases-loop-rest : goal.decreases-loop-rest
decreases-loop-rest g l = length (lines_after l.rest)
