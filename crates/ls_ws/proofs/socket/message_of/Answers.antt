use Rattle.std.proofs.Common.{arith, rules}
use Rattle.ls_ws.proofs.Ending.{line_is_utf8}
use Rattle.ls_ws.proofs.socket.message_of.Goals as goal

pub from_known_utf8-requires : goal.from_known_utf8-requires
from_known_utf8-requires c = line_is_utf8 c.args.text.now c.in-Ok.bytes c.requires (search (arith, rules))
