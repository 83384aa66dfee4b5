use Rattle.std.proofs.Common.{◌≡◌, ◌∙◌, List, ℕ, Some, None, false, nat_eq, is_some, sym, ap, subst}
use Rattle.std.specs.Cmp.Lexicographic.{pointwise}
use Rattle.std.specs.Map.{lookup}
use Rattle.ls_command.specs.declared.kept.Kept.{Kept}
use Rattle.ls_command.specs.Entries.{IsKept, IsAdded, linked_keys}
use Rattle.ls_command.proofs.Renewing.{IsPlaceOf, place_of, renewed_kept, renewed_owed}
use Rattle.ls_command.proofs.Adding.{not_found, added_owed}
use Rattle.ls_command.proofs.linked.owe.Goals as goal

pub link-requires-clause-absent : goal.link-requires-clause-absent
link-requires-clause-absent c =
    subst (λ (k : List ℕ). lookup (pointwise nat_eq k) c.args.entries.now.entries ≡ None) (sym c.into_text-key.ensures)
    (not_found _ (sym (ap is_some c.in-None.is) ∙ c.get_index_of.ensures.found))

pub returns-in-Some-clause-kept : goal.returns-in-Some-clause-kept
returns-in-Some-clause-kept c =
    let at = place_of c.args.entries.now.entries c.of-key.result c.in-Some.place c.get_index_of.ensures.unique (sym c.get_index_of.ensures.index ∙ c.in-Some.is) in
    subst (λ (es : List (List ℕ × Kept)). IsKept es c.args.links.now.lists) (sym c.renew.ensures.entries)
    (renewed_kept c.args.entries.now.entries c.args.links.now.lists c.in-Some.place (Some c.args.new.row) false c.requires.kept at.within)

pub returns-in-Some-clause-ok : goal.returns-in-Some-clause-ok
returns-in-Some-clause-ok c =
    let at = place_of c.args.entries.now.entries c.of-key.result c.in-Some.place c.get_index_of.ensures.unique (sym c.get_index_of.ensures.index ∙ c.in-Some.is) in
    ap (λ (es : List (List ℕ × Kept)). linked_keys es c.args.links.now.lists) c.renew.ensures.entries
    ∙ renewed_owed c.args.entries.now.entries c.args.links.now.lists c.args.new c.in-Some.place c.requires.kept c.requires.first
    (subst (λ (k : List ℕ). IsPlaceOf c.args.entries.now.entries k c.in-Some.place) c.of-key.ensures at)

pub returns-in_ok-link-in-None-clause-kept : goal.returns-in_ok-link-in-None-clause-kept
returns-in_ok-link-in-None-clause-kept c =
    let key = c.into_text-key.ensures ∙ c.of-key.ensures in
    let none = subst (λ (k : List ℕ). lookup (pointwise nat_eq k) c.args.entries.now.entries ≡ None) c.of-key.ensures
    (not_found _ (sym (ap is_some c.in-None.is) ∙ c.get_index_of.ensures.found)) in
    (added_owed c.args.new _ _ _ _ c.requires.kept c.requires.first none
    (subst (λ (k : List ℕ). IsAdded 0 (record { key = k; row = Some c.args.new.row; touched = false }) c.args.entries.now.entries
    c.args.links.now.lists c.link.new.entries.entries c.link.new.links.lists) key c.in_ok-link-in-None.ensures.ok)).kept

pub returns-in_ok-link-in-None-clause-ok : goal.returns-in_ok-link-in-None-clause-ok
returns-in_ok-link-in-None-clause-ok c =
    let key = c.into_text-key.ensures ∙ c.of-key.ensures in
    let none = subst (λ (k : List ℕ). lookup (pointwise nat_eq k) c.args.entries.now.entries ≡ None) c.of-key.ensures
    (not_found _ (sym (ap is_some c.in-None.is) ∙ c.get_index_of.ensures.found)) in
    (added_owed c.args.new _ _ _ _ c.requires.kept c.requires.first none
    (subst (λ (k : List ℕ). IsAdded 0 (record { key = k; row = Some c.args.new.row; touched = false }) c.args.entries.now.entries
    c.args.links.now.lists c.link.new.entries.entries c.link.new.links.lists) key c.in_ok-link-in-None.ensures.ok)).keys

pub returns-in_err-link-in-None-clause-kept : goal.returns-in_err-link-in-None-clause-kept
returns-in_err-link-in-None-clause-kept c =
    rw (c.in_err-link-in-None.ensures.entries, c.in_err-link-in-None.ensures.lists) c.requires.kept
