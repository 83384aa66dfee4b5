use Rattle.std.proofs.Common.{ℕ, List, ◌++◌, ap, ◌∙◌}
use Rattle.std.specs.Fmt.{decimal}
use Rattle.ls_http.specs.Replies.{reason_of}
use Rattle.ls_http.proofs.Texts.{appended5}
use Rattle.ls_http.proofs.replies.append_refusal.Goals as goal

pub returns-clause-text : goal.returns-clause-text
returns-clause-text c =
    appended5 c.args.text.now.items _ (decimal c.args.status) _ (reason_of c.args.status) _ _ _ _ _ _ c.in_ok-extend_from_slice.ensures.items
    c.in_ok-append_decimal.ensures.text c.in_ok-extend_from_slice-2.ensures.items
    (c.in_ok-extend_from_slice-3.ensures.items ∙ ap (λ (x : List ℕ). c.extend_from_slice-2.new.self.items ++ x) (c.as_bytes.ensures.value ∙ c.reason_of.ensures.reason))
    c.in_ok-extend_from_slice-4.ensures.items
