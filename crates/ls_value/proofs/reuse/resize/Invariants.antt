use Rattle.std.proofs.Common.{◌≤◌, ◌-◌, length}
use Rattle.ls_value.proofs.reuse.resize.Given as goal

abbrev pub invariant-loop-values : goal.invariant-loop-values
invariant-loop-values l = length l.values.items ≤ l.n

-- a value comes at each turn
abbrev pub decreases-loop-values : goal.decreases-loop-values
decreases-loop-values l = l.n - length l.values.items
