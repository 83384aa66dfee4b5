use Rattle.std.proofs.Common.{List, sym, ap, subst}
use mathlib.Core.List.{IsPrefix}
use Rattle.ls_register.specs.declared.made.Made.{Made}
use Rattle.ls_sight.proofs.Agreeing.{sight_placed}
use Rattle.ls_sight.proofs.sight.Sight.show_register.Goals as goal

pub invariant_of-self : goal.invariant_of-self
invariant_of-self g c =
    let whole = c.show_place.ensures.whole in (
      c.self.invariant.0,
      c.self.invariant.1,
      sight_placed g.N.House.deed.config c.self.inside.place c.show_place.new.place _ c.self.invariant.2 (ap (λ p. p.at) whole)
          (subst (λ (l : List Made). IsPrefix c.self.inside.place.list l) (sym (ap (λ p. p.list) whole)) c.show_place.ensures.begins),
      c.self.invariant.3,
    )
