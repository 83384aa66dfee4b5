use Rattle.std.proofs.Common.{◌≡◌, replicate}
use Rattle.ls_plain.proofs.merge.flags.Given as goal

abbrev pub invariant-loop : goal.invariant-loop
invariant-loop l = l.flags.items ≡ replicate l.counter l.flag
