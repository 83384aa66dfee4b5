use Rattle.std.proofs.Common.{◌≡◌, replicate, take, false}
use Rattle.ls_merge.proofs.cells.clear_flags.Given as goal

abbrev pub invariant-loop-flag : goal.invariant-loop-flag
invariant-loop-flag l = take l.flag-index l.flags ≡ replicate l.flag-index false
