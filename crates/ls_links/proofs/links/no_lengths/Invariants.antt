use Rattle.std.proofs.Common.{◌≡◌, replicate}
use Rattle.ls_links.proofs.links.no_lengths.Given as goal

-- those so far
abbrev pub invariant-loop : goal.invariant-loop
invariant-loop l = l.lengths.items ≡ replicate l.counter 0
