use Rattle.std.proofs.Common.{◌≡◌, drop}
use Rattle.ls_value.specs.Values.{are_distinct}
use Rattle.ls_value.proofs.lists.are_distinct.Given as goal

-- the texts left decide
abbrev pub invariant-loop-i : goal.invariant-loop-i
invariant-loop-i l = are_distinct (drop l.i l.texts) ≡ are_distinct l.texts
