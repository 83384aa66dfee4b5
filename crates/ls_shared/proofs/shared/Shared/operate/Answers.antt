use Rattle.std.proofs.Common.{ℕ, IsErrOf, sym, subst}
use Rattle.ls_request.specs.declared.request.Op.{Op}
use Rattle.ls_subs.specs.declared.plan.Refusal.TheVariants as Refusal
use Rattle.ls_told.specs.Seen.{Grows}
use Rattle.ls_told.specs.Requests.{RefusesOp}
use Rattle.ls_shared.proofs.shared.Shared.operate.Goals as goal

pub returns-in-Add-clause-refused : goal.returns-in-Add-clause-refused
returns-in-Add-clause-refused g c =
    subst
    (λ (o : Op). (code : ℕ) → IsErrOf c.add.result.1 (Refusal.Code code) → Grows c.args.sight.now c.add.new.sight
    × RefusesOp g.N.House.deed.config c.args.sight.now.number o code c.add.new.sight.lines c.add.new.sight.watches
    c.add.new.sight.register) (sym c.in-Add.is) c.add.ensures.refused
