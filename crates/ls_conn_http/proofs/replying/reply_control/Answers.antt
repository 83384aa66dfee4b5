use Rattle.std.proofs.Common.{ℕ, List, ◌++◌, refl, ap, ◌∙◌}
use Rattle.ls_conn.specs.Streaming.{lines_of}
use Rattle.ls_conn_http.specs.Bodies.{answer_text}
use Rattle.ls_conn_http.proofs.Answering.{replies_by}
use Rattle.ls_conn_http.proofs.replying.reply_control.Goals as goal

pub returns-in-Ok-clause-writes : goal.returns-in-Ok-clause-writes
returns-in-Ok-clause-writes g c =
    let a = c.in-Ok.ensures in
    replies_by c.write_answer.result _ _ (answer_text a.texts) _ (λ w. record { texts = a.texts; answers = a.answers; text_is = refl })
    (c.write_answer.ensures.writes a.texts (c.deref.ensures.value ∙ (a.are ∙ ap (λ (x : List ℕ). x ++ lines_of a.texts) c.new-lines.ensures.items)))
