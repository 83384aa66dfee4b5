use Rattle.std.proofs.Common.{ℕ, IsErrOf, subst}
use Rattle.ls_subs.specs.declared.plan.Refusal.TheVariants as Refusal
use Rattle.ls_told.specs.Seen.{Testified, Grows}
use Rattle.ls_told.specs.Requests.{RefusesOp}
use Rattle.ls_shared.specs.Answers.{SeesOn}
use Rattle.ls_shared.proofs.Changing.{on_ok}
use Rattle.ls_shared.proofs.Operations.{had_rates, wished}
use Rattle.ls_shared.proofs.shared.Shared.control.Goals as goal

pub returns-clause-refused : goal.returns-clause-refused
returns-clause-refused g c =
    subst
    (λ (t : Testified). (code : ℕ) → IsErrOf c.operate-live.result.1 (Refusal.Code code) → Grows t c.operate-live.new.sight
    × RefusesOp g.N.House.deed.config t.number c.args.op.now code c.operate-live.new.sight.lines c.operate-live.new.sight.watches
    c.operate-live.new.sight.register) c.seen.view_is c.operate-live.ensures.refused

pub returns-clause-memory : goal.returns-clause-memory
returns-clause-memory g c =
    subst (λ (t : Testified). IsErrOf c.operate-live.result.1 Refusal.NoMemory → SeesOn t c.operate-live.new.sight) c.seen.view_is
    c.operate-live.ensures.memory

pub returns-clause-wish : goal.returns-clause-wish
returns-clause-wish g c =
    on_ok c.operate-live.result.1 _ _
    (wished g.N.House.deed.config c.args.op.now c.args.now c.seen.inside.sight c.operate-live.new.sight)
    c.operate-live.ensures.done

pub returns-clause-rates : goal.returns-clause-rates
returns-clause-rates g c = λ err.
    had_rates g.N.House.deed.config c.seen.inside.sight.number c.args.op.now c.operate-live.new.sight.lines c.operate-live.new.sight.watches
    c.operate-live.new.sight.register (c.operate-live.ensures.refused 70 err).1
