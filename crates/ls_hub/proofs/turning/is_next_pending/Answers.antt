use Rattle.std.proofs.Common.{◌∙◌, sym, ap, subst, slice_get}
use Rattle.ls_turns.specs.declared.slot_ref.SlotRef.{SlotRef}
use Rattle.ls_session.proofs.Turns.{next_found}
use Rattle.ls_cells.specs.Cells.{StandsCells}
use Rattle.ls_hub.proofs.Telling.{live_split}
use Rattle.ls_hub.proofs.turning.is_next_pending.Goals as goal

pub returns-in-Some : goal.returns-in-Some
returns-in-Some c = λ pending items before behind r st cells.
    let found = next_found c.in-Some.slot (slice_get r.session.board.round r.asked) (sym c.in-Some.is ∙ c.next_slot.ensures r st) in
    record {
      live = found.0;
      found = found.1.0;
      pending = sym (c.pending.ensures.known items _ _ found.0
          (subst (StandsCells c.args.cells.now items) (live_split before r.session.board.round behind r.asked found.0 found.1.0) cells)
          (sym (ap (λ (x : SlotRef). x.item) found.1.1)) (sym (ap (λ (x : SlotRef). x.slot) found.1.1))) ∙ pending;
    }
