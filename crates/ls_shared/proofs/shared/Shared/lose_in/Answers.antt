use Rattle.std.proofs.Common.{sym, ap, ◌∙◌, subst, List}
use mathlib.Core.List.{IsPrefix}
use Rattle.ls_register.specs.declared.told.Told.{Told}
use Rattle.ls_shared.proofs.Grown.{loses}
use Rattle.ls_shared.proofs.shared.Shared.lose_in.Goals as goal

pub returns-clause-lost : goal.returns-clause-lost
returns-clause-lost g c =
    let was = c.show_later.new.self.lines in
    let after = c.lose-lost.new.self.lines in
    let still = c.show_later.ensures.same ∙ c.expect.ensures.same.0 in
    loses c.args.epoch c.args.now c.show_later.new.self.number c.args.sight.now c.show_later-2.new.sight was after c.lose-lost.result
    (c.expect.ensures.one.0 ∙ sym (ap (λ s. s.number) still))
    (subst (λ (q : List Told × List Told). IsPrefix q.0 q.1)
    (λ i. (ap (λ t. t.later) c.expect.ensures.same.1 i, sym (ap (λ s. s.lines) c.show_later.ensures.same) i)) c.show_later.ensures.begins)
    (ap (λ t. t.later) c.show_later-2.ensures.later) c.says.ensures
    c.lose-lost.ensures.unbound c.lose-lost.ensures.superseded c.lose-lost.ensures.not_bound
