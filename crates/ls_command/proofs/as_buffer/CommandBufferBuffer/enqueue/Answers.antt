use Rattle.ls_command.proofs.Moves.{command_stands_next}
use Rattle.ls_command.proofs.Widths.{after_wide}
use Rattle.ls_command.proofs.as_buffer.CommandBufferBuffer.enqueue.Goals as goal

pub returns-clause-fields : goal.returns-clause-fields
returns-clause-fields c = λ n has fits row. rw c.in_ok-enqueue.ensures.ok (after_wide n c.args.self.now c.args.event.now.event c.args.event.now.after has row)

pub returns-clause-stands : goal.returns-clause-stands
returns-clause-stands c = λ s h st next. rw c.in_ok-enqueue.ensures.ok (command_stands_next c.args.self.now s h c.args.event.now st next)
