use Rattle.ls_command.proofs.Moves.{command_stands_passed}
use Rattle.ls_command.proofs.as_buffer.CommandBufferBuffer.pass.Goals as goal

pub returns-clause-stands : goal.returns-clause-stands
returns-clause-stands c = λ s h t st tells. rw c.pass.ensures (command_stands_passed c.args.self.now s h t st tells)
