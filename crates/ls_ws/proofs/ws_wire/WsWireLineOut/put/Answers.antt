use Rattle.std.proofs.Common.{rules}
use Rattle.ls_ws.proofs.ws_wire.WsWireLineOut.put.Goals as goal

-- the socket is as before, and so is what stands in its wire
pub returns-in-Err-NoMemory-clause-memory : goal.returns-in-Err-NoMemory-clause-memory
returns-in-Err-NoMemory-clause-memory g c = λ e. rw (c.in-Err-NoMemory.ensures.memory c.in-Err-NoMemory.field-0-is) c.self.view_is
