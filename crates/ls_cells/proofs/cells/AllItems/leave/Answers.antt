use Rattle.std.proofs.Common.{subst, sym, arith, ◌++◌, ◌∷◌, ◌≡◌, set, false}
use Rattle.ls_cells.specs.Cells.{AllCells, StandsCells}
use Rattle.ls_cells.proofs.Numbers.{differs}
use Rattle.ls_cells.proofs.Calls.{no_item, leave_did, none_here, none_did}
use Rattle.ls_cells.proofs.Settling.{cell_changed, one_settled}
use Rattle.ls_cells.proofs.cells.AllItems.leave.Goals as goal

pub returns-then-index-len : goal.returns-then-index-len
returns-then-index-len c = record {
  left = λ items a b v st on numbered.
      absurd (no_item (record { cells = c.self.inside.cells.items; live = c.self.inside.live }) c.args.item items a b v
      (subst (λ (k : AllCells). StandsCells k items (a ++ v ∷ b)) (sym c.self.view_is) st) on (omega arith));
  none = λ items lives st none. st;
}

pub returns-then-leave_on : goal.returns-then-leave_on
returns-then-leave_on c = record {
  left = λ items a b v st on numbered.
      let did = leave_did c.self.inside.cells.items c.args.item c.index_mut.result.now (omega arith) c.index_mut.ensures.value
      c.leave_on.new.cell c.self.inside.live c.args.slot c.leave_on.result c.leave_on.ensures.shape c.leave_on.ensures.stands items a b v
      (subst (λ (k : AllCells). StandsCells k items (a ++ v ∷ b)) (sym c.self.view_is) st) on numbered in
      subst (λ n. StandsCells (record { cells = set c.self.inside.cells.items c.args.item c.leave_on.new.cell; live = n }) items (a ++ b))
      (sym c.saturating_sub-self-inside.ensures) did.1;
  none = λ items lives st none.
      absurd (differs c.leave_on.result c.if-leave_on.true
      (none_here c.self.inside.cells.items c.args.item c.index_mut.result.now (omega arith) c.index_mut.ensures.value (c.leave_on.result ≡ false)
      c.self.inside.live c.args.slot items lives (λ ss h s is. (c.leave_on.ensures.none ss h s is).0)
      (subst (λ (k : AllCells). StandsCells k items lives) (sym c.self.view_is) st) none));
}

pub returns-else-leave_on : goal.returns-else-leave_on
returns-else-leave_on c = record {
  left = λ items a b v st on numbered.
      let did = leave_did c.self.inside.cells.items c.args.item c.index_mut.result.now (omega arith) c.index_mut.ensures.value
      c.leave_on.new.cell c.self.inside.live c.args.slot c.leave_on.result c.leave_on.ensures.shape c.leave_on.ensures.stands items a b v
      (subst (λ (k : AllCells). StandsCells k items (a ++ v ∷ b)) (sym c.self.view_is) st) on numbered in
      absurd (differs c.leave_on.result did.0 c.if-leave_on.false);
  none = λ items lives st none.
      (none_did c.self.inside.cells.items c.args.item c.index_mut.result.now (omega arith) c.index_mut.ensures.value (c.leave_on.result ≡ false)
      c.leave_on.new.cell c.self.inside.live c.args.slot items lives c.leave_on.ensures.none
      (subst (λ (k : AllCells). StandsCells k items lives) (sym c.self.view_is) st) none).1;
}

pub invariant_of-self : goal.invariant_of-self
invariant_of-self c =
    cell_changed c.self.inside.settled.items c.self.inside.cells.items c.args.item c.index_mut.result.now c.leave_on.new.cell c.self.invariant
    c.index_mut.ensures.value
    (one_settled c.index_mut.result.now c.leave_on.new.cell c.args.slot c.leave_on.ensures.others c.leave_on.ensures.settled)

pub invariant_of-self-else-leave_on : goal.invariant_of-self-else-leave_on
invariant_of-self-else-leave_on c =
    cell_changed c.self.inside.settled.items c.self.inside.cells.items c.args.item c.index_mut.result.now c.leave_on.new.cell c.self.invariant
    c.index_mut.ensures.value
    (one_settled c.index_mut.result.now c.leave_on.new.cell c.args.slot c.leave_on.ensures.others c.leave_on.ensures.settled)
