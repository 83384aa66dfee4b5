use Rattle.std.proofs.Common.{ℕ, List, ◌++◌, length, ap, ◌∙◌}
use Rattle.ls_http.specs.Replies.{answer_head}
use Rattle.ls_conn_http.proofs.replying.write_answer.Goals as goal

pub returns-in-Ok-clause-writes : goal.returns-in-Ok-clause-writes
returns-in-Ok-clause-writes g c = λ texts are.
    rw (c.deref.ensures.value ∙ c.in-Ok.ensures ∙ ap (λ (x : List ℕ). answer_head (length x) ++ x) are) at c.write_text.ensures.writes
