use Rattle.std.proofs.Common.{sym, ap, ◌∙◌}
use Rattle.ls_lines.specs.Lines.{Cutting}
use Rattle.ls_lines.proofs.Cutting.{empty_of, too_long_at, too_long_front, same_cause}
use Rattle.ls_lines.proofs.cutter.LineCutter.take.Goals as goal

pub returns-in-Err-clause-too_long : goal.returns-in-Err-clause-too_long
returns-in-Err-clause-too_long c = λ is.
    too_long_front _ _ _ c.in-Some.len
    (ap (λ (d : Cutting). d.carry) (sym c.self.view_is)
    ∙ empty_of c.self.inside.carry.items _ c.self.inside.carry.ok.0 (sym c.is_empty.ensures ∙ c.if-is_empty.true))
    c.in-Some.ensures.none c.in-Some.ensures.some.0 (c.in-Err.ensures.too_long (same_cause _ _ is))

pub returns-in-Err-keep-clause-too_long : goal.returns-in-Err-keep-clause-too_long
returns-in-Err-keep-clause-too_long c = λ is. too_long_at _ _ _ c.in-Some.len c.in-Err-keep.ensures.plain (c.in-Err-keep.ensures.too_long (same_cause _ _ is))
