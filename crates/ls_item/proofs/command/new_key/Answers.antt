use Rattle.std.proofs.Common.{◌∙◌, ap, rules, arith, set}
use Rattle.ls_value.specs.declared.row.Cell.TheVariants as field_cell
use Rattle.ls_value.specs.Values.{applied}
use Rattle.ls_event.specs.Keyed.{text_of_cell}
use Rattle.ls_item.proofs.Tables.{cell_here}
use Rattle.ls_item.proofs.command.new_key.Goals as goal

pub returns : goal.returns
returns c =
    let key = c.in_ok-text.ensures ∙ ap text_of_cell
    (cell_here c.args.cells.now c.args.key c.index-as_slice-key.result
    (omega (arith, c.requires.cells, c.requires.key)) (search rules)) in
    let kept = c.in_ok-kept.ensures ∙ ap (λ cells. set cells c.args.command field_cell.Null) c.as_slice-2.ensures in
    let row = c.apply_owned.ensures ∙ (λ k. applied (c.in_ok-row.ensures k) (kept k)) in
    λ k. record { key = key k; row = row k }
