use Rattle.std.proofs.Common.{◌∙◌, Some, List, ℕ, sym, ap}
use Rattle.std.specs.Prelude.{slice_get}
use Rattle.std.proofs.lemmas.Option.{slice_get-get_or}
use Rattle.ls_links.specs.Chains.{Chains}
use Rattle.ls_links.proofs.Members.{nothing_there}
use Rattle.ls_command.specs.Entries.{no_entry, entry_at}
use Rattle.ls_command.proofs.Taking.{first_linked, first_place, takes, settles}
use Rattle.ls_command.proofs.linked.take.Goals as goal

pub unlink-place-requires : goal.unlink-place-requires
unlink-place-requires c = first_linked c.args.links.now c.args.node c.requires.first

pub unreachable-requires : goal.unreachable-requires
unreachable-requires c =
    let es = c.args.entries.now.entries in
    let f = first_place es c.args.links.now c.args.node c.unlink-place.result c.requires.kept c.requires.first c.unlink-place.ensures.value in
    nothing_there (entry_at es c.unlink-place.result) (slice_get es c.unlink-place.result)
    (sym c.swap_remove_index.ensures.entry ∙ c.in-None.is) (slice_get-get_or es c.unlink-place.result no_entry f.within)

pub settle-requires : goal.settle-requires
settle-requires c =
    let f = first_place c.args.entries.now.entries c.args.links.now c.args.node c.unlink-place.result c.requires.kept c.requires.first c.unlink-place.ensures.value in
    settles _ _ _ _ _ _ c.unlink-place.new.self c.requires.kept f c.in-Some.ensures.entries (ap (λ (x : Chains). x.lists) c.unlink-place.ensures.unlinked)

pub returns-clause-kept : goal.returns-clause-kept
returns-clause-kept c =
    let f = first_place c.args.entries.now.entries c.args.links.now c.args.node c.unlink-place.result c.requires.kept c.requires.first c.unlink-place.ensures.value in
    (takes _ _ _ _ _ _ _ _ c.requires.kept f (sym c.swap_remove_index.ensures.entry ∙ c.in-Some.is) c.in-Some.ensures.entries
    (ap (λ (x : Chains). x.lists) c.unlink-place.ensures.unlinked) c.settle.ensures c.are_apart-in-Some.ensures).kept

pub returns-clause-first : goal.returns-clause-first
returns-clause-first c =
    let f = first_place c.args.entries.now.entries c.args.links.now c.args.node c.unlink-place.result c.requires.kept c.requires.first c.unlink-place.ensures.value in
    (takes _ _ _ _ _ _ _ _ c.requires.kept f (sym c.swap_remove_index.ensures.entry ∙ c.in-Some.is) c.in-Some.ensures.entries
    (ap (λ (x : Chains). x.lists) c.unlink-place.ensures.unlinked) c.settle.ensures c.are_apart-in-Some.ensures).first
    ∙ ap (λ (k : List ℕ). Some (record { key = k; row = c.in-Some.kept.row; touched = c.in-Some.kept.touched })) (sym c.into_text.ensures)

pub returns-clause-rest : goal.returns-clause-rest
returns-clause-rest c =
    let f = first_place c.args.entries.now.entries c.args.links.now c.args.node c.unlink-place.result c.requires.kept c.requires.first c.unlink-place.ensures.value in
    (takes _ _ _ _ _ _ _ _ c.requires.kept f (sym c.swap_remove_index.ensures.entry ∙ c.in-Some.is) c.in-Some.ensures.entries
    (ap (λ (x : Chains). x.lists) c.unlink-place.ensures.unlinked) c.settle.ensures c.are_apart-in-Some.ensures).rest
