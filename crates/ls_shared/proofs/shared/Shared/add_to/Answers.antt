use Rattle.std.proofs.Common.{◌≡◌, ℕ, ap, ◌∙◌, sym, subst}
use Rattle.ls_request.specs.declared.request.Op.TheVariants as op
use Rattle.ls_subs.specs.declared.plan.Refusal.TheVariants as Refusal
use Rattle.ls_told.specs.Requests.{RefusesOp}
use Rattle.ls_shared.proofs.Grown.{grows_on}
use Rattle.ls_shared.proofs.Changing.{on_ok, registered}
use Rattle.ls_shared.proofs.Adds.{adds_begun, adds_on}
use Rattle.ls_shared.proofs.shared.Shared.add_to.Goals as goal

pub returns-in-Err-clause-grows : goal.returns-in-Err-clause-grows
returns-in-Err-clause-grows g c =
    registered c.args.sight.now c.begin.new.sight c.begin.new.sight.register (c.requires.shows.later ∙ sym c.requires.shows.lines) c.begin.ensures.rest
    c.begin.ensures.begins

pub returns-in-Err-clause-refused : goal.returns-in-Err-clause-refused
returns-in-Err-clause-refused g c = λ code err.
    let same : c.in-Err.refused.cause ≡ Refusal.Code code = cc err in
    c.in-Err.ensures.refused code same

pub returns-in-Ok-clause-grows : goal.returns-in-Ok-clause-grows
returns-in-Ok-clause-grows g c =
    grows_on c.args.sight.now c.begin.new.sight c.add_slots.new.sight
    (registered c.args.sight.now c.begin.new.sight c.begin.new.sight.register (c.requires.shows.later ∙ sym c.requires.shows.lines)
    c.begin.ensures.rest c.begin.ensures.begins)
    c.add_slots.ensures.grows

pub returns-in-Ok-clause-done : goal.returns-in-Ok-clause-done
returns-in-Ok-clause-done g c =
    let config = g.N.House.deed.config in
    let live = c.args.live in
    let begun = c.in-Ok.adding in
    on_ok c.add_slots.result.1 _ _
    (λ d. adds_on config c.args.add.now c.args.now begun.free live c.args.sight.now c.begin.new.sight c.add_slots.new.sight c.in-Ok.ensures.room
    c.add_slots.ensures.grows.register
    (adds_begun config c.args.now c.args.add.now live begun _ c.add_slots.new.sight.lines c.add_slots.new.sight.watches c.in-Ok.ensures.begun d))
    c.add_slots.ensures.done

pub returns-in-Ok-clause-refused : goal.returns-in-Ok-clause-refused
returns-in-Ok-clause-refused g c = λ code err.
    subst (λ (n : ℕ).
    RefusesOp g.N.House.deed.config n (op.Add c.args.add.now) code c.add_slots.new.sight.lines c.add_slots.new.sight.watches
    c.add_slots.new.sight.register)
    (ap (λ t. t.number) c.begin.ensures.rest) (c.add_slots.ensures.refused code err)
