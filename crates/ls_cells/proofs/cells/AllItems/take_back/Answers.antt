use Rattle.std.proofs.Common.{subst, sym, List, Bool, ◌-◌, ◌++◌, ◌∷◌, [], take, vec_len}
use Rattle.ls_cell.specs.Cell.{Held}
use Rattle.ls_cells.specs.Cells.{AllCells, StandsCells}
use Rattle.ls_cells.specs.Settled.{KnowsSettled}
use Rattle.ls_cells.proofs.OneItem.{cells_taken}
use Rattle.ls_cells.proofs.Settling.{one_less}
use Rattle.ls_cells.proofs.cells.AllItems.take_back.Goals as goal

pub returns : goal.returns
returns c = λ items i lives st within.
    subst (λ (cells : List Held). StandsCells (record { cells = cells; live = c.self.inside.live }) items lives) (sym c.pop.ensures.rest)
    (cells_taken c.self.inside.cells.items c.self.inside.live (vec_len c.self.inside.cells) items i lives c.self.inside.cells.ok.0
    (subst (λ (k : AllCells). StandsCells k (items ++ i ∷ []) lives) (sym c.self.view_is) st) within)

pub invariant_of-self : goal.invariant_of-self
invariant_of-self c =
    subst (λ (cells : List Held). KnowsSettled c.pop-4.new.self.items cells) (sym c.pop.ensures.rest)
    (subst (λ (rows : List (List Bool)). KnowsSettled rows (take (vec_len c.self.inside.cells - 1) c.self.inside.cells.items)) (sym c.pop-4.ensures.rest)
    (one_less c.self.inside.settled.items c.self.inside.cells.items (vec_len c.self.inside.settled) (vec_len c.self.inside.cells)
    c.self.inside.settled.ok.0 c.self.inside.cells.ok.0 c.self.invariant))
