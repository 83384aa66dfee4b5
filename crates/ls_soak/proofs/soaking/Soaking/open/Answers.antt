use Rattle.std.proofs.Common.{ap, ◌∙◌, ◌++◌}
use Rattle.ls_words.specs.Words.{pieces_behind}
use Rattle.ls_soak.proofs.PrintedLines.{but_last}
use Rattle.ls_soak.proofs.Playing.{text_left, next_piece_left, pieces_done}
use Rattle.ls_soak.proofs.soaking.Soaking.open.Goals as goal

pub loop-rest-init : goal.loop-rest-init
loop-rest-init c = λ lines all l. text_left _ _ all c.args.text.now lines l

pub loop-rest-preserved : goal.loop-rest-preserved
loop-rest-preserved c = λ lines all l.
    c.in-Ok.ensures.ok (but_last (pieces_behind 10 c.first_piece.result.1) ++ lines) all
    (next_piece_left _ _ all _ _ lines _ _ c.is_none.ensures (ap (pieces_behind 10) c.in-Some.is ∙ c.first_piece.ensures)
    (c.loop-rest.invariant lines all l))

pub returns-in-Err-clause-bad : goal.returns-in-Err-clause-bad
returns-in-Err-clause-bad c = λ is lines all l.
    c.in-Err.ensures.bad is (but_last (pieces_behind 10 c.first_piece.result.1) ++ lines) all
    (next_piece_left _ _ all _ _ lines _ _ c.is_none.ensures (ap (pieces_behind 10) c.in-Some.is ∙ c.first_piece.ensures)
    (c.loop-rest.invariant lines all l))

pub returns-clause-ok : goal.returns-clause-ok
returns-clause-ok c = λ lines all l. pieces_done _ _ all lines c.loop-rest.rest c.in_default.is (c.loop-rest.invariant lines all l)
