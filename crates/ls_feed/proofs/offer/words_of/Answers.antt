use Rattle.std.proofs.Common.{sym, ◌∙◌}
use Rattle.ls_feed.proofs.Cells.{too_many}
use Rattle.ls_feed.proofs.offer.words_of.Goals as goal

pub returns-then-is_some : goal.returns-then-is_some
returns-then-is_some c =
    too_many c.args.line.now c.first_piece.result c.first_piece-2.result c.first_piece-3.result c.in-Some.rest c.in-Some-rest.rest
    c.first_piece.ensures c.in-Some.is c.first_piece-2.ensures c.in-Some-rest.is c.first_piece-3.ensures (sym c.is_some.ensures ∙ c.if-is_some.true)
