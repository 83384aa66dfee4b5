use Rattle.std.proofs.Common.{◌≡◌}
use Rattle.ls_event.specs.History.{between}
use Rattle.ls_event.specs.CommandCuts.{queue_from, queue_since}
use Rattle.ls_plain.specs.Plain.{command_slot}
use Rattle.ls_plain.proofs.command.touch_all.Given as goal

-- the queue behind the rest of the events is that behind all
abbrev pub invariant-loop-i : goal.invariant-loop-i
invariant-loop-i l =
    queue_from (command_slot l.slot l.turns) l.queue.items l.i (between l.history l.i l.slot.last)
    ≡ queue_since l.history (command_slot l.slot l.turns) l.initial.queue.items
