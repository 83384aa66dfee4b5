use Rattle.std.proofs.Common.{sym, ◌∙◌, ◌≡◌, Some, List, Option, length}
use Rattle.std.proofs.lemmas.Result.{on_ok_weaker, IfErr-weaker}
use Rattle.ls_event.specs.declared.event.Entry.{Entry}
use Rattle.ls_event.specs.Publishes.{refusal}
use Rattle.ls_event.specs.Slots.{Slot}
use Rattle.ls_cell.specs.Cell.{StandsCell, refusal_of, least_lagging}
use Rattle.ls_cell.proofs.Refusals.{refusal_is}
use Rattle.ls_cell.proofs.cell.ItemCell.check.Goals as goal

pub returns-clause-admitted : goal.returns-clause-admitted
returns-clause-admitted c =
    let i = c.args.self.now in
    let e : Entry = record { adapter = c.args.adapter; seq = c.args.seq; event = c.args.event.now } in
    on_ok_weaker c.first_cause.result
    (λ none ss h st. sym (refusal_is i ss h e st c.requires.adapter) ∙ none)
    c.first_cause.ensures.ok

pub returns-clause-first_cause : goal.returns-clause-first_cause
returns-clause-first_cause c =
    let i = c.args.self.now in
    let e : Entry = record { adapter = c.args.adapter; seq = c.args.seq; event = c.args.event.now } in
    IfErr-weaker c.first_cause.result (λ r. refusal_of i e ≡ Some r)
    (λ r. (ss : List (Option Slot)) (h : List Entry) → StandsCell i ss h
    → refusal i.item.shape h (least_lagging (length h) ss) e ≡ Some r)
    (λ r is ss h st. sym (refusal_is i ss h e st c.requires.adapter) ∙ is)
    c.first_cause.ensures.err
