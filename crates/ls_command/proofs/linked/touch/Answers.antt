use Rattle.std.proofs.Common.{◌≡◌, ◌∙◌, List, ℕ, None, true, nat_eq, is_some, sym, ap, subst, Result, Ok, Err, OnErr}
use Rattle.std.specs.Cmp.Lexicographic.{pointwise}
use Rattle.std.specs.Map.{lookup}
use Rattle.ls_command.specs.declared.kept.Kept.{Kept}
use Rattle.ls_command.specs.Entries.{IsKept, linked_keys, keys_touched}
use Rattle.ls_command.specs.Command.{is_touched}
use Rattle.ls_command.proofs.Renewing.{place_of, stands_there, renewed_kept, renewed_touched}
use Rattle.ls_command.proofs.Adding.{not_found, added_touched}
use Rattle.ls_command.proofs.linked.touch.Goals as goal

-- what is true is so where a call failed
on_failed : {A E P : Type 0} (r : Result A E) → P → OnErr r P
on_failed (Ok a) p = tt
on_failed (Err e) p = p

pub link-requires-clause-absent : goal.link-requires-clause-absent
link-requires-clause-absent c =
    subst (λ (k : List ℕ). lookup (pointwise nat_eq k) c.args.entries.now.entries ≡ None) (sym c.into_text-key.ensures)
    (not_found _ (sym (ap is_some c.in-None.is) ∙ c.get_index_of.ensures.found))

pub returns-in-Some-clause-kept : goal.returns-in-Some-clause-kept
returns-in-Some-clause-kept c =
    let at = place_of c.args.entries.now.entries c.args.key c.in-Some.place c.get_index_of.ensures.unique (sym c.get_index_of.ensures.index ∙ c.in-Some.is) in
    subst (λ (es : List (List ℕ × Kept)). IsKept es c.args.links.now.lists) (sym c.renew.ensures.entries)
    (renewed_kept c.args.entries.now.entries c.args.links.now.lists c.in-Some.place c.args.row true c.requires at.within)

pub returns-in-Some-clause-keys : goal.returns-in-Some-clause-keys
returns-in-Some-clause-keys c =
    let at = place_of c.args.entries.now.entries c.args.key c.in-Some.place c.get_index_of.ensures.unique (sym c.get_index_of.ensures.index ∙ c.in-Some.is) in
    ap (λ (es : List (List ℕ × Kept)). linked_keys es c.args.links.now.lists) c.renew.ensures.entries
    ∙ renewed_touched c.args.entries.now.entries c.args.links.now.lists c.args.key c.in-Some.place c.args.row c.requires at

pub returns-in-Some-clause-touched : goal.returns-in-Some-clause-touched
returns-in-Some-clause-touched c =
    let at = place_of c.args.entries.now.entries c.args.key c.in-Some.place c.get_index_of.ensures.unique (sym c.get_index_of.ensures.index ∙ c.in-Some.is) in
    c.renew.ensures.touched
    ∙ sym (stands_there c.args.entries.now.entries c.args.links.now.lists c.args.key c.in-Some.place c.requires at).1

pub returns-in_ok-link-in-None-clause-kept : goal.returns-in_ok-link-in-None-clause-kept
returns-in_ok-link-in-None-clause-kept c =
    let none = subst (λ (k : List ℕ). lookup (pointwise nat_eq k) c.args.entries.now.entries ≡ None) (sym c.into_text-key.ensures)
    (not_found _ (sym (ap is_some c.in-None.is) ∙ c.get_index_of.ensures.found)) in
    (added_touched c.into_text-key.result c.args.row _ _ _ _ c.requires none c.in_ok-link-in-None.ensures.ok).kept

pub returns-in_ok-link-in-None-clause-keys : goal.returns-in_ok-link-in-None-clause-keys
returns-in_ok-link-in-None-clause-keys c =
    let none = subst (λ (k : List ℕ). lookup (pointwise nat_eq k) c.args.entries.now.entries ≡ None) (sym c.into_text-key.ensures)
    (not_found _ (sym (ap is_some c.in-None.is) ∙ c.get_index_of.ensures.found)) in
    (added_touched c.into_text-key.result c.args.row _ _ _ _ c.requires none c.in_ok-link-in-None.ensures.ok).keys
    ∙ ap (λ (k : List ℕ). keys_touched (linked_keys c.args.entries.now.entries c.args.links.now.lists) k c.args.row) c.into_text-key.ensures

pub returns-in_ok-link-in-None-clause-touched : goal.returns-in_ok-link-in-None-clause-touched
returns-in_ok-link-in-None-clause-touched c =
    let none = subst (λ (k : List ℕ). lookup (pointwise nat_eq k) c.args.entries.now.entries ≡ None) (sym c.into_text-key.ensures)
    (not_found _ (sym (ap is_some c.in-None.is) ∙ c.get_index_of.ensures.found)) in
    sym (added_touched c.into_text-key.result c.args.row _ _ _ _ c.requires none c.in_ok-link-in-None.ensures.ok).touched
    ∙ ap (is_touched (linked_keys c.args.entries.now.entries c.args.links.now.lists).keys) c.into_text-key.ensures

pub returns-in_err-link-in-None-clause-kept : goal.returns-in_err-link-in-None-clause-kept
returns-in_err-link-in-None-clause-kept c =
    rw (c.in_err-link-in-None.ensures.entries, c.in_err-link-in-None.ensures.lists) c.requires

pub returns-in_err-link-in-None-clause-err : goal.returns-in_err-link-in-None-clause-err
returns-in_err-link-in-None-clause-err c =
    on_failed _
    (ap (λ (es : List (List ℕ × Kept)). linked_keys es c.link.new.links.lists) c.in_err-link-in-None.ensures.entries
    ∙ ap (linked_keys c.args.entries.now.entries) c.in_err-link-in-None.ensures.lists)
