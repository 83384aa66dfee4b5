use Rattle.std.proofs.Common.{◌≡◌, length}
use Rattle.ls_words.specs.Words.{pieces_behind}
use Rattle.ls_soak.specs.Tallies.{joined, tally_of, lines_in}
use Rattle.ls_soak.proofs.PrintedLines.{but_last}
use Rattle.ls_soak.proofs.tally.with_text.Given as goal

-- what is counted, with the lines that are left, is what is to be counted of all
abbrev pub invariant-loop-rest : goal.invariant-loop-rest
invariant-loop-rest l =
    joined l.tally (tally_of (but_last (pieces_behind 10 l.rest))) ≡ joined l.fn.before (tally_of (lines_in l.text))

abbrev pub decreases-loop-rest : goal.decreases-loop-rest
decreases-loop-rest l = length (pieces_behind 10 l.rest)
