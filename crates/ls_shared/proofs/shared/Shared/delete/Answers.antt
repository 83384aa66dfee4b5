use Rattle.std.proofs.Common.{◌≡◌, Err, ap, ◌∙◌, sym, subst, List}
use Rattle.ls_request.specs.declared.request.Op.TheVariants as op
use Rattle.ls_register.specs.declared.made.Made.{Made}
use Rattle.ls_register.specs.declared.made.Made.TheVariants.{Freed}
use Rattle.ls_register.specs.Sessions.{Gains}
use Rattle.ls_subs.specs.declared.plan.Refusal.TheVariants as Refusal
use Rattle.ls_shared.proofs.Grown.{grows_on, lined}
use Rattle.ls_shared.proofs.Changing.{refuses_as, of_err, registered, ends_as}
use Rattle.ls_shared.proofs.shared.Shared.delete.Goals as goal

pub returns-in-Err-clause-grows : goal.returns-in-Err-clause-grows
returns-in-Err-clause-grows g c =
    lined c.args.sight.now c.show_lines.new.sight c.delete.new.self.lines c.show_lines.ensures.sight c.show_lines.ensures.lines
    c.show_lines.ensures.later

pub returns-in-Err-clause-refused : goal.returns-in-Err-clause-refused
returns-in-Err-clause-refused g c = λ code err.
    let same : c.in-Err.refusal ≡ Refusal.Code code = cc err in
    refuses_as g.N.House.deed.config c.args.live.now c.args.sight.now c.show_lines.new.sight (op.Delete c.args.sub) code (λ x. x) c.requires.shows
    (ap (λ t. t.lines) c.show_lines.ensures.sight ∙ of_err c.delete.result _ _ c.in-Err.is c.delete.ensures.err)
    (ap (λ t. t.watches) c.show_lines.ensures.sight) (c.delete.ensures.refused code (c.in-Err.is ∙ ap Err same))

pub returns-in-Ok-clause-grows : goal.returns-in-Ok-clause-grows
returns-in-Ok-clause-grows g c =
    grows_on c.args.sight.now c.free.new.sight c.show_lines-in-Ok.new.sight
    (registered c.args.sight.now c.free.new.sight c.free.new.sight.register (c.requires.shows.later ∙ sym c.requires.shows.lines) c.free.ensures.rest
    c.free.ensures.begins)
    (lined c.free.new.sight c.show_lines-in-Ok.new.sight c.delete.new.self.lines c.show_lines-in-Ok.ensures.sight c.show_lines-in-Ok.ensures.lines
    c.show_lines-in-Ok.ensures.later)

pub returns-in-Ok-clause-done : goal.returns-in-Ok-clause-done
returns-in-Ok-clause-done g c =
    let shown = c.show_lines-in-Ok.ensures.sight in
    let watches = ap (λ t. t.watches) shown ∙ (ap (λ t. t.watches) c.free.ensures.rest ∙ c.requires.shows.watches) in
    record {
      finds = c.in-Ok.ensures.accepted.0;
      watches = watches;
      done =
          ends_as g.N.House.deed.config c.args.live.now c.show_lines-in-Ok.new.sight c.args.sub _ c.in-Ok.left.slots c.in-Ok.left.subs.items c.delete.new.self.lines
          c.args.sight.now.register watches (ap (λ t. t.lines) shown) c.in-Ok.ensures.accepted.1
          (subst (λ (l : List Made). Gains (Freed c.in-Ok.left.slots) c.args.sight.now.register l) (sym (ap (λ t. t.register) shown))
          c.free.ensures.freed);
    }
