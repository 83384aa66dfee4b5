use Rattle.std.proofs.Common.{◌≡◌, inl, inr, length, replicate, ap, ◌∙◌, subst, arith, List, ℕ}
use Rattle.std.proofs.lemmas.List.{length-replicate}
use Rattle.ls_value.specs.declared.row.Cell.TheVariants as cell
use Rattle.ls_words.specs.Words.{pieces_behind}
use Rattle.ls_event.proofs.EventCells.{Going, going_first, going_next, going_wrong, going_within}
use Rattle.ls_event.proofs.event_text.read_cells.Goals as goal

pub loop-rest-init : goal.loop-rest-init
loop-rest-init c =
    let is : c.in_ok-cells.cells.items ≡ replicate (length c.args.fields.now) cell.Same =
    c.in_ok-cells.ensures ∙ ap (λ n. replicate n cell.Same) c.len.ensures in
    (going_first c.args.fields.now c.args.text.now c.in_ok-cells.cells.items is, ap length is ∙ length-replicate (length c.args.fields.now) cell.Same)

pub overflow_add-at : goal.overflow_add-at
overflow_add-at c =
    let next = ap (pieces_behind 38) c.in-Some.is ∙ c.first_piece.ensures in
    let g = subst (λ (r : List (List ℕ)). Going c.args.fields.now c.args.text.now r c.loop-rest.at c.loop-rest.cells.items) next
    c.loop-rest.invariant.0 in
    let within = going_within _ _ _ _ _ _ g in
    omega (arith, within)

pub returns-in-Err-clause-err : goal.returns-in-Err-clause-err
returns-in-Err-clause-err c =
    let next = ap (pieces_behind 38) c.in-Some.is ∙ c.first_piece.ensures in
    let g = subst (λ (r : List (List ℕ)). Going c.args.fields.now c.args.text.now r c.loop-rest.at c.loop-rest.cells.items) next
    c.loop-rest.invariant.0 in
    elim c.in-Err.ensures.err [ inl none ↦ inl none | inr wrong ↦ inr (going_wrong _ _ _ _ _ _ _ g wrong) ]

pub loop-rest-preserved : goal.loop-rest-preserved
loop-rest-preserved c =
    let next = ap (pieces_behind 38) c.in-Some.is ∙ c.first_piece.ensures in
    let g = subst (λ (r : List (List ℕ)). Going c.args.fields.now c.args.text.now r c.loop-rest.at c.loop-rest.cells.items) next
    c.loop-rest.invariant.0 in
    (going_next _ _ _ _ _ _ _ g c.in_default-set_pair.ensures.ok, c.in_default-set_pair.ensures.len ∙ c.loop-rest.invariant.1)
