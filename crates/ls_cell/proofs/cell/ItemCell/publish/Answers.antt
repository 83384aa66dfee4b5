use Rattle.ls_cell.proofs.Refusals.{first_cause}
use Rattle.ls_cell.proofs.cell.ItemCell.publish.Goals as goal

pub returns-clause-first_cause : goal.returns-clause-first_cause
returns-clause-first_cause c = λ ss h st.
    first_cause _ ss h (record { adapter = c.args.adapter; seq = c.args.seq; event = c.args.event }) _ st
    c.requires.adapter c.append.ensures.answer
