use Rattle.std.proofs.Common.{◌≡◌, ◌∙◌, ℕ, List, IfOk, subst}
use Rattle.ls_line.specs.declared.line.Line.TheVariants as line
use Rattle.ls_line.specs.Lines.{text_of_line}
use Rattle.ls_stream.proofs.ending.end_text.Goals as goal

pub returns : goal.returns
returns c =
    subst (λ (m : List ℕ). IfOk c.into_text.result (λ t. t ≡ text_of_line (line.End c.args.code m)))
    (c.in_ok-message.ensures ∙ c.message_of.ensures) c.into_text.ensures
