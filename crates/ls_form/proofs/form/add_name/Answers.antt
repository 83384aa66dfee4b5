use Rattle.std.proofs.Common.{rules, string_bytes, ◌≡◌, ap, ◌∙◌, ℕ, List, true, ◌||◌}
use Rattle.std.proofs.lemmas.Map.Text.{btree_set_updates_text}
use Rattle.std.specs.Str.{bytes_eq}
use Rattle.std.specs.BTreeSet.{contains_text}
use Rattle.ls_form.proofs.Names.{or_cond}
use Rattle.ls_form.proofs.form.add_name.Goals as goal

pub returns-clause-names : goal.returns-clause-names
returns-clause-names c =
    let same : string_bytes c.in_ok-name.name ≡ c.args.name.now = search rules in
    λ q. btree_set_updates_text (string_bytes c.in_ok-name.name) c.args.names.now c.insert.new.self true c.in_ok-new.ensures.updates q
    ∙ or_cond (bytes_eq (string_bytes c.in_ok-name.name) q) (contains_text c.args.names.now q)
    ∙ ap (λ (bs : List ℕ). bytes_eq bs q || contains_text c.args.names.now q) same
