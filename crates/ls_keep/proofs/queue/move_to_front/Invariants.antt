use Rattle.std.proofs.Common.{◌≡◌, ◌≤◌, ◌+◌, ◌-◌, length, take, drop}
use Rattle.ls_keep.proofs.queue.move_to_front.Given as goal

abbrev pub decreases-loop-moved : goal.decreases-loop-moved
decreases-loop-moved l = l.rest - l.moved

-- the first bytes are those that moved, and those that have yet to move stand where they stood
abbrev pub invariant-loop-moved : goal.invariant-loop-moved
invariant-loop-moved l = record {
  within : l.moved ≤ l.rest;
  len : length l.bytes ≡ length l.initial.bytes;
  moved : take l.moved l.bytes ≡ take l.moved (drop l.from l.initial.bytes);
  behind : drop (l.from + l.moved) l.bytes ≡ drop (l.from + l.moved) l.initial.bytes;
}
