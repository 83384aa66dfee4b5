use Rattle.std.proofs.Common.{◌≡◌, ℕ, List, Option, Some, IfSome, slice_get, subst, sym, ap, ◌∙◌}
use Rattle.ls_value.specs.Values.{place_of}
use Rattle.ls_value.proofs.Rows.{place_of_found, place_of_absent}
use Rattle.ls_config.specs.Items.{names_of}
use Rattle.ls_config.proofs.items.Items.find.Goals as goal

pub returns-in-Some-clause-found : goal.returns-in-Some-clause-found
returns-in-Some-clause-found c =
    let names = c.self.invariant.1 ∙ ap names_of c.self.view_is in
    let at : place_of (names_of c.args.self.now) c.args.name.now ≡ Some c.in-Some.place =
    ap (λ (ns : List (List ℕ)). place_of ns c.args.name.now) (sym names) ∙ sym c.find.ensures.first ∙ c.in-Some.is in
    subst (λ (o : Option ℕ). IfSome o (λ i. slice_get (names_of c.args.self.now) i ≡ Some c.args.name.now)) at
    (place_of_found (names_of c.args.self.now) c.args.name.now)

pub returns-in-None-clause-absent : goal.returns-in-None-clause-absent
returns-in-None-clause-absent c =
    let names = c.self.invariant.1 ∙ ap names_of c.self.view_is in
    λ none. place_of_absent (names_of c.args.self.now) c.args.name.now (ap (λ (ns : List (List ℕ)). place_of ns c.args.name.now) (sym names)
    ∙ sym c.find.ensures.first ∙ c.in-None.is)
