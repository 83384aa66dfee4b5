use Rattle.std.proofs.Common.{subst, sym, ◌∙◌, ◌≡◌, ap, List, slice_get, false}
use Rattle.std.specs.Option.{option_map_or}
use Rattle.ls_cell.specs.Cell.{Held}
use Rattle.ls_record.specs.Records.{is_whole}
use Rattle.ls_cells.specs.Cells.{AllCells, StandsCells}
use Rattle.ls_cells.proofs.OneItem.{takes_is}
use Rattle.ls_cells.proofs.cells.AllItems.takes.Goals as goal

pub returns-clause-known : goal.returns-clause-known
returns-clause-known c = λ items lives st.
    let st' = subst (λ (k : AllCells). StandsCells k items lives) (sym c.self.view_is) st in
    let own : c.takes_in.result
    ≡ option_map_or (λ (x : Held). is_whole x.item.shape.fields c.args.event.now) (slice_get c.deref.result.now c.args.item) false
    = c.takes_in.ensures in
    own ∙ ap (λ (cells : List Held). option_map_or (λ (x : Held). is_whole x.item.shape.fields c.args.event.now) (slice_get cells c.args.item) false)
    c.deref.ensures.value ∙ takes_is lives c.args.event.now 0 c.args.item c.self.inside.cells.items items st'.cells
