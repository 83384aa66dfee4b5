use Rattle.std.proofs.Common.{◌≡◌, drop}
use Rattle.ls_merge.specs.Runs.{says_each}
use Rattle.ls_merge.proofs.runs.says_each.Given as goal

abbrev pub invariant-loop-i : goal.invariant-loop-i
invariant-loop-i l = says_each l.said ≡ says_each (drop l.i l.said)
