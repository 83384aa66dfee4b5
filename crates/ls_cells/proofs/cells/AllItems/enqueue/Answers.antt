use Rattle.std.proofs.Common.{subst, sym, arith, ◌++◌, ◌∷◌, ◌≡◌, None, false}
use Rattle.ls_cells.specs.Cells.{AllCells, StandsCells}
use Rattle.ls_cells.proofs.Calls.{no_item, enqueue_did, none_did}
use Rattle.ls_cells.proofs.Settling.{as_many_rows, marked_settled, unmarks}
use Rattle.ls_cells.proofs.cells.AllItems.enqueue.Goals as goal

pub returns-then-index-len-clause-ok : goal.returns-then-index-len-clause-ok
returns-then-index-len-clause-ok c = λ items a b v st on numbered.
    absurd (no_item (record { cells = c.self.inside.cells.items; live = c.self.inside.live }) c.args.item items a b v
    (subst (λ (k : AllCells). StandsCells k items (a ++ v ∷ b)) (sym c.self.view_is) st) on (omega arith))

pub returns-clause-ok : goal.returns-clause-ok
returns-clause-ok c = λ items a b v st on numbered.
    enqueue_did c.self.inside.cells.items c.args.item c.index_mut.result.now (omega arith) c.index_mut.ensures.value
    c.enqueue_on.new.cell c.self.inside.live c.args.slot c.in_ok-enqueued.enqueued c.in_ok-enqueued.ensures.shape c.in_ok-enqueued.ensures.answer
    c.in_ok-enqueued.ensures.stands items a b v (subst (λ (k : AllCells). StandsCells k items (a ++ v ∷ b)) (sym c.self.view_is) st) on numbered

pub returns-clause-none : goal.returns-clause-none
returns-clause-none c = λ items lives st none.
    none_did c.self.inside.cells.items c.args.item c.index_mut.result.now (omega arith) c.index_mut.ensures.value (c.in_ok-enqueued.enqueued ≡ None)
    c.enqueue_on.new.cell c.self.inside.live c.args.slot items lives c.in_ok-enqueued.ensures.none
    (subst (λ (k : AllCells). StandsCells k items lives) (sym c.self.view_is) st) none

pub set_mark-requires : goal.set_mark-requires
set_mark-requires c =
    omega (arith, as_many_rows c.self.inside.settled.items c.self.inside.cells.items c.self.invariant, c.if-index-len.false, c.len.ensures)

pub invariant_of-self-2 : goal.invariant_of-self-2
invariant_of-self-2 c =
    marked_settled c.self.inside.settled.items c.set_mark.new.rows.items c.self.inside.cells.items c.args.item c.index_mut.result.now
    c.enqueue_on.new.cell c.args.slot false c.self.invariant (omega (arith, c.if-index-len.false, c.len.ensures)) c.index_mut.ensures.value
    c.set_mark.ensures c.in_ok-enqueued.ensures.others (unmarks _)
