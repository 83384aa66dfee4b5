use Rattle.std.proofs.Common.{◌≡◌, drop}
use Rattle.ls_event.specs.Keyed.{row_at}
use Rattle.ls_plain.proofs.keyed.row_of.Given as goal

-- the key isn't among the first
abbrev pub invariant-loop-keyed : goal.invariant-loop-keyed
invariant-loop-keyed l = row_at l.key (drop l.keyed-index l.rows) ≡ row_at l.key l.rows
