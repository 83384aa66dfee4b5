use Rattle.std.proofs.Common.{length, ap, ◌∙◌, arith}
use Rattle.ls_words.specs.Words.{pieces_behind}
use Rattle.ls_words.proofs.Dividing.{pieces_at_most}
use Rattle.ls_config.proofs.reading.read_lines.Goals as goal

pub overflow_add-line : goal.overflow_add-line
overflow_add-line c =
    let next = ap length (ap (pieces_behind 10) c.in-Some.is ∙ c.first_piece.ensures) in
    let count = c.loop-rest.invariant.1 in
    let most = pieces_at_most 10 c.args.bytes.now in
    omega (arith, next, count, most)
