use Rattle.std.proofs.Common.{◌≤◌, length}
use Rattle.ls_bench.proofs.forms.short_pairs.Given as goal

abbrev pub invariant-loop-number : goal.invariant-loop-number
invariant-loop-number l = length l.form.items ≤ l.bytes
