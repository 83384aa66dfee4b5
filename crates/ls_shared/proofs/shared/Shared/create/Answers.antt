use Rattle.std.proofs.Common.{◌≡◌, ℕ, List, None, sym, subst, ◌∙◌}
use mathlib.Core.List.{IsPrefix}
use Rattle.ls_value.specs.Each.{Each}
use Rattle.ls_register.specs.declared.made.Made.{Made}
use Rattle.ls_told.specs.Seen.{IsDeclared}
use Rattle.ls_shared.specs.Answers.{create_code}
use Rattle.ls_shared.proofs.Shapes.{declared_all}
use Rattle.ls_shared.proofs.Grown.{opens}
use Rattle.ls_shared.proofs.shared.Shared.create.Goals as goal

pub open_in-requires-clause-items : goal.open_in-requires-clause-items
open_in-requires-clause-items g c =
    subst (Each IsDeclared) c.args.self.now.configured (declared_all c.args.self.now.config.items c.args.self.now.sound)

pub returns-clause-opened : goal.returns-clause-opened
returns-clause-opened g c =
    let set = g.N.House.deed.set in
    let o = c.in_ok-opened.opened in
    let before = c.deref_mut-2.result.now in
    let none : create_code c.args.self.now.config.set c.args.create.now c.deref.result.now ≡ None = sym c.code_of.ensures ∙ c.in_default.is in
    opens set c.args.create.now c.args.now o.session o.epoch c.args.view.now before c.open_in.new.book c.show-2.new.view o.seen
    (subst (IsPrefix c.args.view.now) (sym (c.deref_mut-2.ensures.value ∙ c.show.ensures.same)) c.show.ensures.begins)
    (subst (λ (q : List ℕ × List Made). create_code q.0 c.args.create.now q.1 ≡ None)
    (λ i. (c.args.self.now.is_set i, (c.deref.ensures ∙ sym c.deref_mut-2.ensures.value) i)) none)
    c.in_ok-opened.ensures.begins c.in_ok-opened.ensures.made c.in_ok-opened.ensures.live c.in_ok-opened.ensures.fresh
    (c.show-2.ensures.whole ∙ c.deref_mut-3.ensures.value)
