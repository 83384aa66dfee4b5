use Rattle.std.proofs.Common.{◌≡◌, length}
use Rattle.ls_bench.proofs.fields.row_of.Given as goal

-- a value for each field so far
abbrev pub invariant-loop-field : goal.invariant-loop-field
invariant-loop-field l = length l.values.items ≡ l.field
