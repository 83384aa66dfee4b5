use Rattle.std.proofs.Common.{ap, ◌∙◌, List, ℕ, [], ◌∷◌, ◌++◌, map}
use Rattle.ls_value.specs.Values.{place_of}
use Rattle.ls_config.proofs.Among.{added_last}
use Rattle.ls_config.proofs.names.Declared.add.Goals as goal

pub returns-clause-ok : goal.returns-clause-ok
returns-clause-ok c =
    let name = c.args.name.now in
    ap (map (λ k. k.items)) c.in_ok-insert.ensures.keys
    ∙ added_last (λ k. k.items) c.in_ok-name.name name c.self.inside.names.keys c.in_ok-name.ensures
    (ap (λ (ns : List (List ℕ)). place_of ns name) c.self.view_is ∙ c.requires)
    ∙ ap (λ (ns : List (List ℕ)). ns ++ name ∷ []) c.self.view_is
