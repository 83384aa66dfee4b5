use Rattle.std.proofs.Common.{◌≡◌, ◌++◌, ◌∷◌, [], List, ℕ, None, nat_eq, sym, ap, subst, ◌∙◌}
use Rattle.std.specs.Cmp.Lexicographic.{pointwise}
use Rattle.indexmap.specs.IndexMap.{get}
use Rattle.indexmap.proofs.CallerLemmas.{insert_entry-new}
use Rattle.ls_command.proofs.linked.put.Goals as goal

pub returns : goal.returns
returns c =
    c.in-Ok.ensures.entries
    ∙ insert_entry-new (pointwise nat_eq) c.args.entries.now c.of.result c.args.kept
    (subst (λ (k : List ℕ). get (pointwise nat_eq) c.args.entries.now k ≡ None) (sym c.of.ensures) c.requires.absent)
    ∙ ap (λ (k : List ℕ). c.args.entries.now.entries ++ (k, c.args.kept) ∷ []) c.of.ensures
