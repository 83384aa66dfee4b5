use Rattle.std.proofs.Common.{◌≡◌, length}
use Rattle.ls_bench.proofs.forms.one_pair.Given as goal

abbrev pub invariant-loop-i : goal.invariant-loop-i
invariant-loop-i l = length l.form.items ≡ l.i
