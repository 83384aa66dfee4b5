use Rattle.std.proofs.Common.{◌≡◌, ℕ, refl, sym, ◌∙◌, subst}
use Rattle.ls_budget.specs.declared.due.Due.TheVariants as due
use Rattle.ls_session.specs.Asking.{Passes, waiting}
use Rattle.ls_session.proofs.session.Session.hold.Goals as goal

pub returns-in-At-clause-at : goal.returns-in-At-clause-at
returns-in-At-clause-at c = λ tick is.
    let x : due.At c.in-At.tick ≡ due.At tick = sym c.in-At.is ∙ is in
    let same : c.in-At.tick ≡ tick = cc in
    record { asking = subst (λ (n : ℕ). Passes (waiting n c.args.self.now.asking) c.hold.new.self) same c.hold.ensures; rest = refl }
