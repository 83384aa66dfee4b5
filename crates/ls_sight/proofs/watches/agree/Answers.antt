use Rattle.std.proofs.Common.{◌≡◌, ◌∙◌, sym, subst}
use mathlib.Core.List.{IsPrefix}
use Rattle.ls_register.specs.Watches.{Watched}
use Rattle.ls_sight.specs.Sights.{IsOneItem}
use Rattle.ls_sight.proofs.Agreeing.{agreed}
use Rattle.ls_sight.proofs.watches.agree.Goals as goal

pub returns-clause-agree : goal.returns-clause-agree
returns-clause-agree g c =
    let w = c.args.watch.now in
    let first = c.follow.ensures in
    let second = c.follow-2.ensures in
    second.same ∙ agreed w c.follow.new.other c.follow.new.self c.follow-2.new.self
    (subst (λ (o : Watched). IsOneItem w o) (sym first.same) c.requires.one) first.rest second.rest
    (subst (λ (o : Watched). w.at ≡ o.at → IsPrefix o.list c.follow.new.self.list) (sym first.same) first.has) second.has second.one
