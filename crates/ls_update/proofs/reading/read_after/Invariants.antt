use Rattle.std.proofs.Common.{◌≡◌, ◌≤◌, length, take, drop}
use Rattle.ls_update.specs.Reading.{Reads, tokens_of}
use Rattle.ls_update.specs.Growing.{tokens_behind}
use Rattle.ls_update.proofs.reading.read_after.Given as goal

-- the tokens so far say the values so far, and the others are those of the rest
abbrev pub invariant-loop-rest : goal.invariant-loop-rest
invariant-loop-rest l = record {
  few : length l.values.items ≤ length l.prev;
  others : drop l.number (tokens_of l.bytes) ≡ tokens_behind l.rest;
  said : Reads (take (length l.values.items) l.prev) (take l.number (tokens_of l.bytes)) l.values.items;
}

abbrev pub decreases-loop-rest : goal.decreases-loop-rest
decreases-loop-rest l = length (tokens_behind l.rest)
