use Rattle.std.proofs.Common.{◌≡◌, ℕ, ap, subst}
use Rattle.ls_request.specs.declared.request.Op.TheVariants as op
use Rattle.ls_subs.specs.declared.plan.Refusal.TheVariants as Refusal
use Rattle.ls_told.specs.Requests.{RefusesOp}
use Rattle.ls_shared.proofs.Grown.{grows_on}
use Rattle.ls_shared.proofs.Adds.{grows_items}
use Rattle.ls_shared.proofs.shared.Shared.add_slots.Goals as goal

pub returns-in-Ok-clause-grows : goal.returns-in-Ok-clause-grows
returns-in-Ok-clause-grows g c =
    grows_on c.args.sight.now c.join_all.new.sight c.finish.new.sight
    (grows_items c.args.sight.now c.join_all.new.sight c.requires.both c.join_all.ensures.sight c.join_all.ensures.more) c.finish.ensures.grows

pub returns-in-Err-clause-refused : goal.returns-in-Err-clause-refused
returns-in-Err-clause-refused g c = λ code err.
    let same : c.undo-session.result.1 ≡ Refusal.Code code = cc err in
    subst (λ (n : ℕ).
    RefusesOp g.N.House.deed.config n (op.Add c.args.add.now) code c.undo-session.new.sight.lines c.undo-session.new.sight.watches c.undo-session.new.sight.register)
    (ap (λ t. t.number) c.in-Err.ensures.err) (c.undo-session.ensures.refused code same)
