use Rattle.std.proofs.Common.{◌≡◌, ◌++◌}
use Rattle.ls_event.specs.Updates.{updates_between}
use Rattle.ls_plain.proofs.updates.own_rows.Given as goal

-- the rows so far and those of the rest are those of all
abbrev pub invariant-loop-i : goal.invariant-loop-i
invariant-loop-i l = l.rows.items ++ updates_between l.history l.i l.to ≡ updates_between l.history l.from l.to
