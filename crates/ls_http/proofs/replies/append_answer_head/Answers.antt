use Rattle.std.proofs.Common.{ℕ, List, ◌++◌, ap, ◌∙◌}
use Rattle.std.specs.Fmt.{decimal}
use Rattle.ls_http.proofs.Texts.{appended3}
use Rattle.ls_http.proofs.replies.append_answer_head.Goals as goal

pub returns-clause-text : goal.returns-clause-text
returns-clause-text c =
    c.in_ok-extend_from_slice-2.ensures.items
    ∙ ap (λ (x : List ℕ). x ++ _) (c.in_ok-append_decimal.ensures.text ∙ ap (λ (x : List ℕ). x ++ decimal c.args.length) c.in_ok-extend_from_slice.ensures.items)
    ∙ appended3 c.args.text.now.items _ (decimal c.args.length) _
