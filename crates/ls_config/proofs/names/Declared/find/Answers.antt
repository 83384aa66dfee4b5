use Rattle.std.proofs.Common.{ap, ◌∙◌, List, ℕ}
use Rattle.ls_value.specs.Values.{place_of}
use Rattle.ls_config.proofs.Among.{found_place}
use Rattle.ls_config.proofs.names.Declared.find.Goals as goal

pub returns-clause-first : goal.returns-clause-first
returns-clause-first c =
    c.get_index_of.ensures.index ∙ found_place (λ k. k.items) c.args.name.now c.self.inside.names.keys
    ∙ ap (λ (ns : List (List ℕ)). place_of ns c.args.name.now) c.self.view_is
