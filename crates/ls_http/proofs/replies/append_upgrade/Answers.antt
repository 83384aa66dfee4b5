use Rattle.std.proofs.Common.{ℕ, List, ◌++◌, ap, ◌∙◌}
use Rattle.ls_http.proofs.Texts.{appended3}
use Rattle.ls_http.proofs.replies.append_upgrade.Goals as goal

pub returns-clause-text : goal.returns-clause-text
returns-clause-text c =
    c.in_ok-extend_from_slice-3.ensures.items
    ∙ ap (λ (x : List ℕ). x ++ _) (c.in_ok-extend_from_slice-2.ensures.items ∙ ap (λ (x : List ℕ). x ++ c.args.accept.now) c.in_ok-extend_from_slice.ensures.items)
    ∙ appended3 c.args.text.now.items _ c.args.accept.now _
