use Rattle.std.proofs.Common.{◌≡◌, ◌≤◌, ℕ, Option, Some, IfSome, slice_get, subst, sym, ◌∙◌}
use Rattle.ls_value.specs.Values.{place_of}
use Rattle.ls_value.proofs.Rows.{place_of_found, place_of_earliest, place_of_absent}
use Rattle.ls_value.proofs.lists.Names.find.Goals as goal

pub returns-clause-found : goal.returns-clause-found
returns-clause-found c =
    let at : c.first_place.result ≡ place_of c.args.self.now c.args.name.now = cc in
    subst (λ (o : Option ℕ). IfSome o (λ i. slice_get c.args.self.now i ≡ Some c.args.name.now)) (sym at)
    (place_of_found c.args.self.now c.args.name.now)

pub returns-clause-earliest : goal.returns-clause-earliest
returns-clause-earliest c =
    let at : c.first_place.result ≡ place_of c.args.self.now c.args.name.now = cc in
    subst (λ (o : Option ℕ). IfSome o (λ i. (k : ℕ) → slice_get c.args.self.now k ≡ Some c.args.name.now → i ≤ k))
    (sym at) (place_of_earliest c.args.self.now c.args.name.now)

pub returns-clause-absent : goal.returns-clause-absent
returns-clause-absent c = λ none.
    let at : c.first_place.result ≡ place_of c.args.self.now c.args.name.now = cc in
    place_of_absent c.args.self.now c.args.name.now (sym at ∙ none)
