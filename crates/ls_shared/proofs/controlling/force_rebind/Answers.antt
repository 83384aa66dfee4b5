use Rattle.std.proofs.Common.{ap, ◌∙◌}
use Rattle.ls_request.specs.declared.request.Op.TheVariants as op
use Rattle.ls_shared.proofs.Grown.{lined}
use Rattle.ls_shared.proofs.Changing.{refuses_as, of_err}
use Rattle.ls_shared.proofs.controlling.force_rebind.Goals as goal

pub returns-clause-grows : goal.returns-clause-grows
returns-clause-grows g c =
    lined c.args.sight.now c.show_lines.new.sight c.force_rebind-answer.new.self.lines c.show_lines.ensures.sight c.show_lines.ensures.lines
    c.show_lines.ensures.later

pub returns-clause-refused : goal.returns-clause-refused
returns-clause-refused g c = λ code err.
    refuses_as g.N.House.deed.config c.args.live.now c.args.sight.now c.show_lines.new.sight op.ForceRebind code (λ x. x) c.requires.shows
    (ap (λ t. t.lines) c.show_lines.ensures.sight ∙ of_err c.force_rebind-answer.result _ _ err c.force_rebind-answer.ensures.err)
    (ap (λ t. t.watches) c.show_lines.ensures.sight) (c.force_rebind-answer.ensures.refused code err)
