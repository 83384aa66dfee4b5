use Rattle.std.proofs.Common.{◌+◌, ◌∷◌, ◌∙◌, List, take, drop, ap, sym}
use Rattle.std.proofs.lemmas.List.{drop_more}
use Rattle.ls_event.specs.declared.event.Entry.{Entry}
use Rattle.ls_event.specs.History.{row_after_all}
use Rattle.ls_event.proofs.Merged.{row_after_length}
use Rattle.ls_plain.proofs.merge.merged_row.Goals as goal

pub loop-entry-preserved : goal.loop-entry-preserved
loop-entry-preserved c =
    let i = c.loop-entry.invariant in
    let rest : List Entry = drop (c.loop-entry.entry-index + 1) (take c.args.i c.args.history.now) in
    let here = drop_more (take c.args.i c.args.history.now) c.loop-entry.entry-index c.entry-item.result c.loop-entry-test.true in
    rw c.in_ok-step_row.ensures (
      row_after_length c.loop-entry.row c.entry-item.result.event ∙ i.0,
      sym (ap (row_after_all c.loop-entry.row) (here ∙ ap (λ (e : Entry). e ∷ rest) (sym c.entry-item.is))) ∙ i.1,
    )
