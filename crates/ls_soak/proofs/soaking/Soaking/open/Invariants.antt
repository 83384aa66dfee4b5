use Rattle.std.proofs.Common.{ℕ, List, ◌++◌, length}
use Rattle.ls_words.specs.Words.{pieces_behind}
use Rattle.ls_soak.specs.declared.tally.Tally.{Tally}
use Rattle.ls_soak.specs.Tallies.{lines_in}
use Rattle.ls_soak.specs.Soaking.{Leaves}
use Rattle.ls_soak.proofs.PrintedLines.{but_last}
use Rattle.ls_soak.proofs.soaking.Soaking.open.Given as goal

-- the lines of the pieces so far are done
abbrev pub invariant-loop-rest : goal.invariant-loop-rest
invariant-loop-rest l =
    (lines : List (List ℕ)) (all : Tally) → Leaves l.initial.self.engine l.initial.self.tally (lines_in l.text ++ lines) all
    → Leaves l.self.engine l.self.tally (but_last (pieces_behind 10 l.rest) ++ lines) all

abbrev pub decreases-loop-rest : goal.decreases-loop-rest
decreases-loop-rest l = length (pieces_behind 10 l.rest)
