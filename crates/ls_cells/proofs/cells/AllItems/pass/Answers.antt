use Rattle.std.proofs.Common.{not, arith, subst, sym, ◌++◌, ◌∷◌, IsSome}
use Rattle.ls_cell.specs.Cell.{Held, cut_at}
use Rattle.ls_cells.specs.Cells.{AllCells, StandsCells, cut_of_slot}
use Rattle.ls_cells.proofs.Places.{some_low}
use Rattle.ls_cells.proofs.Calls.{pass_did}
use Rattle.ls_cells.proofs.Settling.{as_many_rows, marked_settled, not_then}
use Rattle.ls_cells.proofs.cells.AllItems.pass.Goals as goal

pub returns : goal.returns
returns c = λ items a b v t st on numbered cuts.
    let some = subst (λ (k : AllCells). IsSome (cut_of_slot k c.args.item c.args.slot)) (sym c.self.view_is) c.requires in
    pass_did c.self.inside.cells.items c.args.item c.index_mut.result.now
    (some_low (λ (x : Held). cut_at x c.args.slot) c.self.inside.cells.items c.args.item some) c.index_mut.ensures.value
    c.pass_on-pending.new.cell c.self.inside.live c.args.slot c.pass_on-pending.ensures.shape c.pass_on-pending.ensures.stands items a b v t
    (subst (λ (k : AllCells). StandsCells k items (a ++ v ∷ b)) (sym c.self.view_is) st) on numbered cuts

pub set_mark-requires : goal.set_mark-requires
set_mark-requires c =
    let some = subst (λ (k : AllCells). IsSome (cut_of_slot k c.args.item c.args.slot)) (sym c.self.view_is) c.requires in
    omega (
      arith,
      as_many_rows c.self.inside.settled.items c.self.inside.cells.items c.self.invariant,
      some_low (λ (x : Held). cut_at x c.args.slot) c.self.inside.cells.items c.args.item some,
    )

pub invariant_of-self : goal.invariant_of-self
invariant_of-self c =
    let some = subst (λ (k : AllCells). IsSome (cut_of_slot k c.args.item c.args.slot)) (sym c.self.view_is) c.requires in
    marked_settled c.self.inside.settled.items c.set_mark.new.rows.items c.self.inside.cells.items c.args.item c.index_mut.result.now
    c.pass_on-pending.new.cell c.args.slot (not c.pass_on-pending.result) c.self.invariant
    (some_low (λ (x : Held). cut_at x c.args.slot) c.self.inside.cells.items c.args.item some) c.index_mut.ensures.value c.set_mark.ensures
    c.pass_on-pending.ensures.others (not_then c.pass_on-pending.result _ c.pass_on-pending.ensures.pending)
