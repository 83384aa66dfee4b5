use Rattle.std.proofs.Common.{◌≡◌, ◌+◌, length, Some}
use Rattle.ls_words.specs.Words.{divided, pieces_behind}
use Rattle.ls_config.specs.Configs.{nothing, with_lines}
use Rattle.ls_config.proofs.reading.read_lines.Given as goal

-- the lines left decide, and the number counts those so far
abbrev pub invariant-loop-rest : goal.invariant-loop-rest
invariant-loop-rest l =
    (with_lines l.line (Some l.draft) (pieces_behind 10 l.rest) ≡ with_lines 0 (Some nothing) (divided 10 l.bytes))
    × (l.line + length (pieces_behind 10 l.rest) ≡ length (divided 10 l.bytes))

abbrev pub decreases-loop-rest : goal.decreases-loop-rest
decreases-loop-rest l = length (pieces_behind 10 l.rest)
