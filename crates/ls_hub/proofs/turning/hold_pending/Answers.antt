use Rattle.ls_record.specs.Records.{history_of}
use Rattle.ls_hub.proofs.turning.hold_pending.Goals as goal

pub returns-then-is_next_pending-clause-held : goal.returns-then-is_next_pending-clause-held
returns-then-is_next_pending-clause-held c = λ holds items before behind r st cells.
    let next = c.is_next_pending.ensures c.if-is_next_pending.true items before behind r st cells in
    let held = c.hold_next.ensures.held holds r next.live (history_of items next.live.item) st next.found next.pending in
    record { next = next; early = held.0; session = held.1 }
