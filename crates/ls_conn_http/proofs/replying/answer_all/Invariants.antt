use Rattle.std.proofs.Common.{◌≡◌, ℕ, List, ◌++◌, length}
use Rattle.ls_conn.specs.Acting.{known}
use Rattle.ls_conn_http.specs.Bodies.{lines_after, lines_in, params_in}
use Rattle.ls_conn_http.specs.Replying.{Answered}
use Rattle.ls_conn_http.proofs.replying.answer_all.Given as goal

-- the lines so far were answered
abbrev pub invariant-loop-rest : goal.invariant-loop-rest
invariant-loop-rest g l =
    (done : List (List ℕ)) × (lines_in l.body ≡ done ++ lines_after l.rest)
    × Answered g.N.House.deed l.name (params_in done) (known l.fn.view l.fn.seen) (known l.view l.seen) l.fn.lines.items l.lines.items

abbrev pub decreases-loop-rest : goal.decreases-loop-rest
decreases-loop-rest g l = length (lines_after l.rest)
