use Rattle.std.proofs.Common.{subst, sym, ◌∙◌, ap, arith, ◌++◌, ◌∷◌, option_and_then, ◌≡◌, None}
use Rattle.std.specs.Option.{option_map_or}
use Rattle.ls_event.specs.Cuts.{Fits}
use Rattle.ls_cell.specs.Cell.{Held, cut_at}
use Rattle.ls_cells.specs.Cells.{AllCells, StandsCells, cut_of_slot, fields_of}
use Rattle.ls_cells.proofs.Places.{got}
use Rattle.ls_cells.proofs.Calls.{no_item, look_did, none_here}
use Rattle.ls_cells.proofs.cells.AllItems.look.Goals as goal

pub returns-then-index-len-clause-cut : goal.returns-then-index-len-clause-cut
returns-then-index-len-clause-cut c = λ items a b v st on numbered.
    absurd (no_item (record { cells = c.self.inside.cells.items; live = c.self.inside.live }) c.args.item items a b v
    (subst (λ (k : AllCells). StandsCells k items (a ++ v ∷ b)) (sym c.self.view_is) st) on (omega arith))

pub returns-clause-own : goal.returns-clause-own
returns-clause-own c =
    c.in_ok-taken.ensures.own
    ∙ ap (option_and_then (λ (x : Held). cut_at x c.args.slot))
    (sym (got c.self.inside.cells.items c.args.item c.index.result.now (omega arith) c.index.ensures))
    ∙ ap (λ (k : AllCells). cut_of_slot k c.args.item c.args.slot) c.self.view_is

pub returns-clause-fits : goal.returns-clause-fits
returns-clause-fits c =
    subst (λ n. Fits n c.in_ok-taken.taken)
    (ap (λ o. option_map_or (λ (x : Held). x.item.shape.fields) o 0)
    (sym (got c.self.inside.cells.items c.args.item c.index.result.now (omega arith) c.index.ensures))
    ∙ ap (λ (k : AllCells). fields_of k c.args.item) c.self.view_is) c.in_ok-taken.ensures.fits

pub returns-clause-cut : goal.returns-clause-cut
returns-clause-cut c = λ items a b v st on numbered.
    look_did c.self.inside.cells.items c.args.item c.index.result.now (omega arith) c.index.ensures c.self.inside.live c.args.slot c.in_ok-taken.taken
    c.in_ok-taken.ensures.cut items a b v (subst (λ (k : AllCells). StandsCells k items (a ++ v ∷ b)) (sym c.self.view_is) st) on numbered

pub returns-clause-none : goal.returns-clause-none
returns-clause-none c = λ items lives st none.
    none_here c.self.inside.cells.items c.args.item c.index.result.now (omega arith) c.index.ensures (c.in_ok-taken.taken ≡ None) c.self.inside.live
    c.args.slot items lives c.in_ok-taken.ensures.none (subst (λ (k : AllCells). StandsCells k items lives) (sym c.self.view_is) st) none
