use Rattle.std.proofs.Common.{refl, sym, subst, ◌∙◌}
use Rattle.ls_lines.specs.Lines.{IsLine}
use Rattle.ls_lines.proofs.Keeping.{plain_by, line_on, line_by}
use Rattle.ls_lines.proofs.cutter.LineCutter.keep.Goals as goal

pub returns-then-part-self-clause-plain : goal.returns-then-part-self-clause-plain
returns-then-part-self-clause-plain c = plain_by _ _ _ _ _ c.self.view_is c.self.invariant c.requires

pub returns-in_default-clause-plain : goal.returns-in_default-clause-plain
returns-in_default-clause-plain c = plain_by _ _ _ _ _ c.self.view_is c.self.invariant c.requires

pub returns-clause-plain : goal.returns-clause-plain
returns-clause-plain c = plain_by _ _ _ _ _ c.self.view_is c.self.invariant c.requires

pub returns-clause-line : goal.returns-clause-line
returns-clause-line c =
    line_by _ _ _ _ _ c.self.view_is
    (line_on _ _ _ _ _ (c.len.ensures ∙ c.self.inside.carry.ok.0) refl c.if-part-self.false c.self.invariant c.requires)

pub invariant_of-self-2 : goal.invariant_of-self-2
invariant_of-self-2 c =
    subst (λ t. IsLine c.self.inside.limit t) (sym c.in-Ok.ensures.items)
    (line_on _ _ _ _ _ (c.len.ensures ∙ c.self.inside.carry.ok.0) refl c.if-part-self.false c.self.invariant c.requires)
