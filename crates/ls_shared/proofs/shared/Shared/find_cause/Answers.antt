use Rattle.std.proofs.Common.{ℕ, ◌∙◌, sym, subst}
use Rattle.ls_request.specs.declared.request.Op.TheVariants as op
use Rattle.ls_told.specs.Seen.{Grows}
use Rattle.ls_told.specs.Requests.{RefusesOp}
use Rattle.ls_shared.proofs.Grown.{grows_on}
use Rattle.ls_shared.proofs.Changing.{registered}
use Rattle.ls_shared.proofs.Adds.{grows_same}
use Rattle.ls_shared.proofs.shared.Shared.find_cause.Goals as goal

pub returns-in_default-clause-grows : goal.returns-in_default-clause-grows
returns-in_default-clause-grows g c =
    subst (Grows c.args.sight.now) (sym c.in_default.ensures.err) (grows_same c.args.sight.now c.requires.both)

pub returns-clause-grows : goal.returns-clause-grows
returns-clause-grows g c =
    let reached = c.in-Ok.ensures.reached in
    grows_on c.args.sight.now c.reach.new.sight c.refuse.new.sight reached.grows
    (registered c.reach.new.sight c.refuse.new.sight c.refuse.new.sight.register (reached.sees.later ∙ sym reached.sees.lines)
    c.refuse.ensures.rest c.refuse.ensures.begins)

pub returns-clause-refused : goal.returns-clause-refused
returns-clause-refused g c = λ code is.
    subst (λ (n : ℕ).
    RefusesOp g.N.House.deed.config n (op.Add c.args.add.now) code c.refuse.new.sight.lines c.refuse.new.sight.watches
    c.refuse.new.sight.register)
    c.in-Ok.ensures.reached.grows.number (c.refuse.ensures.refused code is)
