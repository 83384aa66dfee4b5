use Rattle.std.proofs.Common.{subst, sym, ◌++◌, ◌∷◌, []}
use Rattle.ls_event.specs.declared.event.Entry.{Entry}
use Rattle.ls_event.specs.History.{RowFits}
use Rattle.ls_cell.specs.Cell.{Held, IsSound, StandsCell, published, stored_next}
use Rattle.ls_cell.proofs.Sound.{sound_published}
use Rattle.ls_cell.proofs.CellStands.{stands_published}
use Rattle.ls_cell.proofs.cell.ItemCell.add.Goals as goal

pub invariant_of-self-2 : goal.invariant_of-self-2
invariant_of-self-2 c =
    let e : Entry = record { adapter = c.args.adapter; seq = c.args.seq; event = c.args.event } in
    let before : IsSound c.args.self.now = subst IsSound c.self.view_is c.self.invariant in
    let row : RowFits c.args.self.now.item.shape.fields (stored_next c.args.self.now e.event).after =
    subst (λ (v : Held). RowFits v.item.shape.fields (stored_next v e.event).after) c.self.view_is
    c.in_ok-keep.ensures.fits in
    let after : IsSound (published c.args.self.now e) = sound_published c.args.self.now e before c.requires.fields row
    c.requires.admitted in
    rw (c.in_ok-keep.ensures.item, c.in_ok-keep.ensures.tail, c.settle.ensures)
    (subst (λ (v : Held). IsSound (published v e)) (sym c.self.view_is) after)

pub returns-clause-stands : goal.returns-clause-stands
returns-clause-stands c = λ ss h st.
    let e : Entry = record { adapter = c.args.adapter; seq = c.args.seq; event = c.args.event } in
    let before : IsSound c.args.self.now = subst IsSound c.self.view_is c.self.invariant in
    rw (c.in_ok-keep.ensures.item, c.in_ok-keep.ensures.tail, c.settle.ensures)
    (subst (λ (v : Held). StandsCell (published v e) ss (h ++ e ∷ [])) (sym c.self.view_is)
    (stands_published c.args.self.now ss h e st before c.requires.adapter c.requires.fields c.requires.admitted))
