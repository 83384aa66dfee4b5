use Rattle.std.proofs.Common.{ap, refl, Err}
use Rattle.ls_run.proofs.Feeding.{line_held, line_engine, bad_line}
use Rattle.ls_run.proofs.replay.done.Goals as goal

pub returns-in-Ok-extend_from_slice-clause-holds : goal.returns-in-Ok-extend_from_slice-clause-holds
returns-in-Ok-extend_from_slice-clause-holds c = λ w st.
    line_held w c.args.line.now c.line.new.text.items c.args.unwritten.now.items _ c.line.new.self
    (rw c.clear.ensures.items at c.in-Ok.ensures.ok w st)
    (rw c.deref.ensures.value at c.in-Ok-extend_from_slice.ensures.items)

pub returns-in-Ok-extend_from_slice-clause-all : goal.returns-in-Ok-extend_from_slice-clause-all
returns-in-Ok-extend_from_slice-clause-all c = λ is w st.
    line_engine w c.args.line.now c.line.new.text.items c.line.new.self (rw c.clear.ensures.items at c.in-Ok.ensures.ok w st)

pub returns-in-Err-BadLine-clause-holds : goal.returns-in-Err-BadLine-clause-holds
returns-in-Err-BadLine-clause-holds c = λ w st.
    bad_line w c.args.line.now _ _ c.number.result c.line.new.self
    (c.in-Err-BadLine.ensures.bad (ap (λ e. Err e) c.in-Err-BadLine.field-0-is) w st)
    c.number.ensures refl
