use Rattle.std.proofs.Common.{subst, sym, List, ◌≡◌, true}
use Rattle.std.proofs.lemmas.Result.{on_ok_weaker, on_err_weaker}
use Rattle.ls_cell.specs.Cell.{Held}
use Rattle.ls_record.specs.Records.{is_whole}
use Rattle.ls_cells.specs.Cells.{AllCells, StandsCells, takes_of}
use Rattle.ls_cells.proofs.Places.{true_low, set_back}
use Rattle.ls_cells.proofs.OneItem.{cells_published, cause_is}
use Rattle.ls_cells.proofs.Settling.{cell_changed, slots_same, published_slots}
use Rattle.ls_cells.proofs.cells.AllItems.publish.Goals as goal

pub returns-clause-answer : goal.returns-clause-answer
returns-clause-answer c = λ items lives i st here.
    let takes = subst (λ (k : AllCells). takes_of k c.args.item c.args.event ≡ true) (sym c.self.view_is) c.requires.takes in
    cause_is c.self.inside.cells.items c.args.item c.index_mut.result.now
    (true_low (λ (x : Held). is_whole x.item.shape.fields c.args.event) c.self.inside.cells.items c.args.item takes) c.index_mut.ensures.value
    c.self.inside.live (record { adapter = c.args.adapter; seq = c.args.seq; event = c.args.event }) c.publish.result
    c.publish.ensures.first_cause items lives i
    (subst (λ (k : AllCells). StandsCells k items lives) (sym c.self.view_is) st) here

pub returns-clause-ok : goal.returns-clause-ok
returns-clause-ok c =
    on_ok_weaker c.publish.result
    (λ step items lives st.
    let takes = subst (λ (k : AllCells). takes_of k c.args.item c.args.event ≡ true) (sym c.self.view_is) c.requires.takes in
    cells_published c.self.inside.cells.items c.args.item c.index_mut.result.now
    (true_low (λ (x : Held). is_whole x.item.shape.fields c.args.event) c.self.inside.cells.items c.args.item takes) c.index_mut.ensures.value
    c.publish.new.self c.self.inside.live (record { adapter = c.args.adapter; seq = c.args.seq; event = c.args.event }) c.publish.ensures.shape step
    items lives (subst (λ (k : AllCells). StandsCells k items lives) (sym c.self.view_is) st))
    c.publish.ensures.stands

pub returns-clause-err : goal.returns-clause-err
returns-clause-err c =
    on_err_weaker c.publish.result
    (λ same items lives st. subst (λ (cells : List Held). StandsCells (record { cells = cells; live = c.self.inside.live }) items lives)
    (sym (set_back c.self.inside.cells.items c.args.item c.index_mut.result.now c.publish.new.self c.index_mut.ensures.value same))
    (subst (λ (k : AllCells). StandsCells k items lives) (sym c.self.view_is) st))
    c.publish.ensures.err

pub invariant_of-self : goal.invariant_of-self
invariant_of-self c =
    cell_changed c.self.inside.settled.items c.self.inside.cells.items c.args.item c.index_mut.result.now c.publish.new.self c.self.invariant
    c.index_mut.ensures.value
    (slots_same c.index_mut.result.now c.publish.new.self
    (published_slots c.publish.result c.index_mut.result.now c.publish.new.self _ c.publish.ensures.ok c.publish.ensures.err))
