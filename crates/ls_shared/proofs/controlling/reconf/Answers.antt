use Rattle.std.proofs.Common.{ap, ◌∙◌}
use Rattle.ls_request.specs.declared.request.Op.TheVariants as op
use Rattle.ls_shared.proofs.Grown.{lined}
use Rattle.ls_shared.proofs.Changing.{refuses_as, of_err, on_ok, reconfigures_as}
use Rattle.ls_shared.proofs.controlling.reconf.Goals as goal

pub returns-clause-grows : goal.returns-clause-grows
returns-clause-grows g c =
    lined c.args.sight.now c.show_lines.new.sight c.reconf-answer.new.self.lines c.show_lines.ensures.sight c.show_lines.ensures.lines
    c.show_lines.ensures.later

pub returns-clause-refused : goal.returns-clause-refused
returns-clause-refused g c = λ code err.
    refuses_as g.N.House.deed.config c.args.live.now c.args.sight.now c.show_lines.new.sight (op.Reconf c.args.sub c.args.frequency) code (λ x. x) c.requires.shows
    (ap (λ t. t.lines) c.show_lines.ensures.sight ∙ of_err c.reconf-answer.result _ _ err c.reconf-answer.ensures.err)
    (ap (λ t. t.watches) c.show_lines.ensures.sight) (c.reconf-answer.ensures.refused code err)

pub returns-clause-done : goal.returns-clause-done
returns-clause-done g c =
    let watches = ap (λ t. t.watches) c.show_lines.ensures.sight ∙ c.requires.shows.watches in
    on_ok c.reconf-answer.result _ _
    (λ did. record {
      finds = did.0;
      watches = watches;
      done =
          reconfigures_as g.N.House.deed.config c.args.live.now c.show_lines.new.sight c.args.sub c.args.frequency _ c.reconf-answer.new.self.lines
          watches (ap (λ t. t.lines) c.show_lines.ensures.sight) did.1;
    }) c.reconf-answer.ensures.accepted
