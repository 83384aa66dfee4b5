use Rattle.std.proofs.Common.{◌≡◌, subst, sym, ◌∙◌, ap, List, Bool, ◌++◌, ◌∷◌, []}
use Rattle.ls_cell.specs.Cell.{Held}
use Rattle.ls_cells.specs.Cells.{AllCells, StandsCells}
use Rattle.ls_cells.proofs.OneItem.{cells_declared}
use Rattle.ls_cells.specs.Settled.{KnowsSettled}
use Rattle.ls_cells.proofs.Settling.{one_more}
use Rattle.ls_cells.proofs.cells.AllItems.declare.Goals as goal

-- one is pushed where room was made
pushed : {A : Type 0} (before reserved after : List A) (x : A) → after ≡ reserved ++ x ∷ [] → reserved ≡ before
    → after ≡ before ++ x ∷ []
pushed before reserved after x more same = more ∙ ap (λ xs. xs ++ x ∷ []) same

pub returns-clause-ok : goal.returns-clause-ok
returns-clause-ok c = λ items lives st.
    let cells = pushed c.self.inside.cells.items _ _ c.in_ok-cell.cell c.push_reserved.ensures.items c.in_ok-reserve-2.ensures.items in
    subst (λ (cells : List Held). StandsCells (record { cells = cells; live = c.self.inside.live })
    (items ++ record { definition = c.args.definition.now; history = [] } ∷ []) lives) (sym cells)
    (cells_declared c.self.inside.cells.items c.self.inside.live c.in_ok-cell.cell c.args.definition.now c.in_ok-cell.ensures.stands
    c.in_ok-cell.ensures.shape items lives (subst (λ (k : AllCells). StandsCells k items lives) (sym c.self.view_is) st))

pub invariant_of-self-2 : goal.invariant_of-self-2
invariant_of-self-2 c =
    let cells = pushed c.self.inside.cells.items _ _ c.in_ok-cell.cell c.push_reserved.ensures.items c.in_ok-reserve-2.ensures.items in
    let settled = pushed c.self.inside.settled.items _ _ c.new-2.result c.push_reserved-2.ensures.items c.in_ok-reserve.ensures.items in
    subst (λ (cells : List Held). KnowsSettled c.push_reserved-2.new.self.items cells) (sym cells)
    (subst (λ (rows : List (List Bool)). KnowsSettled rows (c.self.inside.cells.items ++ c.in_ok-cell.cell ∷ []))
    (sym (settled ∙ ap (λ (m : List Bool). c.self.inside.settled.items ++ m ∷ []) c.new-2.ensures))
    (one_more c.self.inside.settled.items c.self.inside.cells.items c.in_ok-cell.cell c.self.invariant))
