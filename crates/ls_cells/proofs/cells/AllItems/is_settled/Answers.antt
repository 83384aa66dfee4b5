use Rattle.std.proofs.Common.{subst, sym, ◌∙◌, ap, ◌++◌, ◌∷◌, List, Bool}
use Rattle.ls_cells.specs.Cells.{AllCells, StandsCells}
use Rattle.ls_cells.specs.Settled.{is_marked_on}
use Rattle.ls_cells.proofs.Settling.{settled_did}
use Rattle.ls_cells.proofs.cells.AllItems.is_settled.Goals as goal

pub returns : goal.returns
returns c = λ marked items a b v st on numbered.
    settled_did c.self.inside.settled.items c.self.inside.cells.items c.self.inside.live c.args.item c.args.slot c.self.invariant
    (sym (ap (λ (rows : List (List Bool)). is_marked_on rows c.args.item c.args.slot) c.deref.ensures.value) ∙ sym c.has_mark.ensures ∙ marked)
    items a b v (subst (λ (k : AllCells). StandsCells k items (a ++ v ∷ b)) (sym c.self.view_is) st) on numbered
