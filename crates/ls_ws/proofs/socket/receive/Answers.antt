use Rattle.std.proofs.Common.{inr}
use Rattle.ls_ws.proofs.socket.receive.Goals as goal

-- a message that has no answer is the peer's close
pub returns-clause-closed : goal.returns-clause-closed
returns-clause-closed g c =
    λ _. inr (c.in-Ok.message, c.next_message.new.socket, c.in-Ok-answer_to.ensures.none c.in-None.is, c.in-Ok.ensures.message)
