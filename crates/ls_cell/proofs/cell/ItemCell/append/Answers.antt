use Rattle.std.proofs.Common.{◌+◌}
use Rattle.ls_event.specs.declared.event.Entry.{Entry}
use Rattle.ls_cell.proofs.Memory.{answers_refusal}
use Rattle.ls_cell.proofs.cell.ItemCell.append.Goals as goal

pub returns-in_err-check-clause-answer : goal.returns-in_err-check-clause-answer
returns-in_err-check-clause-answer c =
    let i = c.args.self.now in
    let e : Entry = record { adapter = c.args.adapter; seq = c.args.seq; event = c.args.event } in
    answers_refusal i e (i.number + 1) c.from_residual.result c.in_err-check.field-0.0 c.in_err-check.ensures.err
    c.from_residual.ensures.1
