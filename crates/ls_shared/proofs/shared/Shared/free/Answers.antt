use Rattle.std.proofs.Common.{rules, ◌≡◌, ℕ, ap, ◌∙◌, sym, subst}
use mathlib.Core.List.{IsPrefix}
use Rattle.ls_register.specs.declared.made.Made.TheVariants.{Freed}
use Rattle.ls_register.specs.Sessions.{Gains}
use Rattle.ls_shared.proofs.Changing.{gains_end}
use Rattle.ls_shared.proofs.shared.Shared.free.Goals as goal

pub returns-clause-freed : goal.returns-clause-freed
returns-clause-freed g c =
    let same : c.in-Ok.slots ≡ c.args.slots = search rules in
    subst (λ (n : ℕ). Gains (Freed n) c.args.sight.now.register c.show_register-2.new.self.register) same
    (gains_end (Freed c.in-Ok.slots) c.args.sight.now.register c.deref_mut-2.result.now c.show_register-2.new.self.register
    (subst (IsPrefix c.args.sight.now.register) (sym (c.deref_mut-2.ensures.value ∙ c.show_register.ensures.book)) c.show_register.ensures.begins)
    (ap (λ t. t.register) c.show_register-2.ensures.sight ∙ (c.deref_mut-3.ensures.value ∙ c.free-freed.ensures.done c.expect_it.ensures)))
