use Rattle.std.proofs.Common.{◌≡◌, ◌<◌, ◌++◌, ◌∷◌, [], List, ℕ, sym, ap, ◌∙◌, subst, arith, length, length-append}
use Rattle.ls_value.specs.Each.{Each}
use Rattle.ls_register.specs.Sessions.{AreRising}
use Rattle.ls_register.proofs.Rising.{rising_push}
use Rattle.ls_register.proofs.rows.Rows.push.Goals as goal

pub invariant_of-self-2 : goal.invariant_of-self-2
invariant_of-self-2 g c =
    let ns = c.self.inside.numbers.items in
    let more : c.push_reserved.new.self.items ≡ ns ++ c.args.number ∷ [] =
    c.push_reserved.ensures.items ∙ ap (λ (l : List ℕ). l ++ c.args.number ∷ []) c.reserve.ensures.items in (
      subst AreRising (sym more)
          (rising_push ns c.args.number c.self.invariant.0 (subst (Each (λ n. n < c.args.number)) (sym c.self.view_is) c.requires)),
      omega (arith, c.push_reserved-2.ensures.len, c.reserve-2.ensures.len, c.self.invariant.1, ap length more, length-append ns (c.args.number ∷ [])),
    )
