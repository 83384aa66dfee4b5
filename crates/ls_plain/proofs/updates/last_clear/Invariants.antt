use Rattle.std.proofs.Common.{◌≡◌}
use Rattle.ls_event.specs.History.{between}
use Rattle.ls_event.specs.Updates.{clear_from, last_clear}
use Rattle.ls_plain.proofs.updates.last_clear.Given as goal

-- the last Clear so far and those of the rest give that of all
abbrev pub invariant-loop-i : goal.invariant-loop-i
invariant-loop-i l = clear_from l.clear l.i (between l.history l.i l.to) ≡ last_clear l.history l.from l.to
