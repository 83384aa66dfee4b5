use Rattle.std.proofs.Common.{sym, ◌∙◌}
use Rattle.ls_turns.proofs.Rounds.{leaves_less, no_first, cleared_is}
use Rattle.ls_turns.proofs.turns.Turns.clear.Goals as goal

pub loop-node-smaller : goal.loop-node-smaller
loop-node-smaller c =
    rw c.leave_one.ensures (leaves_less c.loop-node.self c.in-Some.node c.slot-slot.result (sym c.first.ensures ∙ c.in-Some.is) c.slot-slot.ensures)

pub returns : goal.returns
returns c = cleared_is c.loop-node.self c.args.self.now (no_first c.loop-node.self (sym c.first.ensures ∙ c.in_default.is)) c.loop-node.invariant
