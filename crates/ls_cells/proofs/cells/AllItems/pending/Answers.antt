use Rattle.std.proofs.Common.{subst, sym, ◌∙◌, ap, arith, ◌++◌, ◌∷◌, ◌≡◌, false}
use Rattle.std.specs.Option.{option_map_or}
use Rattle.ls_cell.specs.Cell.{Held, pending_at}
use Rattle.ls_cells.specs.Cells.{AllCells, StandsCells, pending_of_slot}
use Rattle.ls_cells.proofs.Places.{got}
use Rattle.ls_cells.proofs.Calls.{no_item, pending_did, none_here}
use Rattle.ls_cells.proofs.cells.AllItems.pending.Goals as goal

pub returns-then-index-len-clause-known : goal.returns-then-index-len-clause-known
returns-then-index-len-clause-known c = λ items a b v st on numbered.
    absurd (no_item (record { cells = c.self.inside.cells.items; live = c.self.inside.live }) c.args.item items a b v
    (subst (λ (k : AllCells). StandsCells k items (a ++ v ∷ b)) (sym c.self.view_is) st) on (omega arith))

pub returns-clause-own : goal.returns-clause-own
returns-clause-own c =
    c.pending_on.ensures.own
    ∙ ap (λ o. option_map_or (λ (x : Held). pending_at x c.args.slot) o false)
    (sym (got c.self.inside.cells.items c.args.item c.index.result.now (omega arith) c.index.ensures))
    ∙ ap (λ (k : AllCells). pending_of_slot k c.args.item c.args.slot) c.self.view_is

pub returns-clause-known : goal.returns-clause-known
returns-clause-known c = λ items a b v st on numbered.
    pending_did c.self.inside.cells.items c.args.item c.index.result.now (omega arith) c.index.ensures c.self.inside.live c.args.slot
    c.pending_on.result c.pending_on.ensures.pending items a b v
    (subst (λ (k : AllCells). StandsCells k items (a ++ v ∷ b)) (sym c.self.view_is) st) on numbered

pub returns-clause-none : goal.returns-clause-none
returns-clause-none c = λ items lives st none.
    none_here c.self.inside.cells.items c.args.item c.index.result.now (omega arith) c.index.ensures (c.pending_on.result ≡ false) c.self.inside.live
    c.args.slot items lives c.pending_on.ensures.none (subst (λ (k : AllCells). StandsCells k items lives) (sym c.self.view_is) st) none
