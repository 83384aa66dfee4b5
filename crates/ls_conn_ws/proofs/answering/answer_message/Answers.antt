use Rattle.std.proofs.Common.{List, ℕ, ap, subst, ◌∙◌, ◌∷◌}
use Rattle.ls_told.specs.Seen.{Testified}
use Rattle.ls_conn.specs.Acting.{known}
use Rattle.ls_conn_ws.specs.Messages.{lines_after, lines_of}
use Rattle.ls_conn_ws.specs.Answering.{RepliesSingle}
use Rattle.ls_conn_ws.proofs.Whole.{message_each, message_single}
use Rattle.ls_conn_ws.proofs.answering.answer_message.Goals as goal

pub returns-in-Some-clause-replies : goal.returns-in-Some-clause-replies
returns-in-Some-clause-replies g c =
    message_each _ c.args.text.now c.first_line.result.0.now (lines_of c.in-Some.lines.now)
    (c.first_line.ensures ∙ ap (λ (ls : List (List ℕ)). c.first_line.result.0.now ∷ ls) c.in-Some.ensures.0)
    c.answer_each.result c.own_of-own.result _ _ _ _ _ _ _ c.in-Some.ensures.1 (ap (λ (ts : List Testified). known c.args.desk.now.view ts) c.new.ensures) c.answer_each.ensures.replies

pub returns-in-None-clause-replies : goal.returns-in-None-clause-replies
returns-in-None-clause-replies g c =
    message_single g.N.House.deed c.args.text.now c.first_line.result.0.now (lines_after c.first_line.result.1) c.first_line.ensures c.answer_single.result c.args.now c.args.desk.now.view
    (known c.answer_single.new.desk.view c.answer_single.new.desk.seen) c.args.desk.now.stream c.answer_single.new.desk.stream
    (g.T.LineOut.log c.args.talk.now) (g.T.LineOut.log c.answer_single.new.talk) c.in-None.ensures
    (subst (λ (ps : List ℕ). RepliesSingle g.N.House.deed c.answer_single.result c.first_line.result.0.now c.args.now ps c.args.desk.now.view
    (known c.answer_single.new.desk.view c.answer_single.new.desk.seen) c.args.desk.now.stream c.answer_single.new.desk.stream
    (g.T.LineOut.log c.args.talk.now) (g.T.LineOut.log c.answer_single.new.talk)) c.first_of.ensures c.answer_single.ensures.replies)
