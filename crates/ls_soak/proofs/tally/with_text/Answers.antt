use Rattle.std.proofs.Common.{ap, ◌∙◌}
use Rattle.ls_words.specs.Words.{pieces_behind}
use Rattle.ls_soak.specs.Tallies.{joined, tally_of}
use Rattle.ls_soak.proofs.PrintedLines.{pieces_whole, piece_counted, all_counted}
use Rattle.ls_soak.proofs.tally.with_text.Goals as goal

pub loop-rest-init : goal.loop-rest-init
loop-rest-init c = ap (λ ls. joined c.args.before (tally_of ls)) (pieces_whole c.args.text.now)

pub loop-rest-preserved : goal.loop-rest-preserved
loop-rest-preserved c =
    piece_counted _ _ _ _ _ _ _ c.is_none.ensures c.in_ok-tally.ensures (ap (pieces_behind 10) c.in-Some.is ∙ c.first_piece.ensures)
    c.loop-rest.invariant

pub returns : goal.returns
returns c = all_counted c.loop-rest.tally _ c.loop-rest.rest c.in_default.is c.loop-rest.invariant
