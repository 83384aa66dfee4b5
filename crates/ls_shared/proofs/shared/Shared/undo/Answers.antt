use Rattle.std.proofs.Common.{ℕ, ap, subst}
use Rattle.ls_request.specs.declared.request.Op.TheVariants as op
use Rattle.ls_register.specs.declared.made.Made.TheVariants.{Freed}
use Rattle.ls_register.specs.Sessions.{Gains}
use Rattle.ls_told.specs.Requests.{RefusesOp}
use Rattle.ls_shared.proofs.Grown.{grows_on}
use Rattle.ls_shared.proofs.Changing.{registered}
use Rattle.ls_shared.proofs.Adds.{gains_later}
use Rattle.ls_shared.proofs.shared.Shared.undo.Goals as goal

pub returns-clause-grows : goal.returns-clause-grows
returns-clause-grows g c =
    grows_on c.args.sight.now c.free.new.sight c.give_up.new.sight
    (registered c.args.sight.now c.free.new.sight c.free.new.sight.register c.requires.both c.free.ensures.rest c.free.ensures.begins)
    c.give_up.ensures.grows

pub returns-clause-refused : goal.returns-clause-refused
returns-clause-refused g c = λ code is.
    subst (λ (n : ℕ).
    RefusesOp g.N.House.deed.config n (op.Add c.args.add.now) code c.give_up.new.sight.lines c.give_up.new.sight.watches
    c.give_up.new.sight.register)
    (ap (λ t. t.number) c.free.ensures.rest) (c.give_up.ensures.refused code is)

pub returns-clause-freed : goal.returns-clause-freed
returns-clause-freed g c =
    subst (λ (n : ℕ). Gains (Freed n) c.args.sight.now.register c.give_up.new.sight.register) c.slots-slots.ensures
    (gains_later (Freed c.slots-slots.result) c.args.sight.now.register c.free.new.sight.register c.give_up.new.sight.register c.free.ensures.freed
    c.give_up.ensures.grows.register)
