use Rattle.std.proofs.Common.{◌≡◌, ◌++◌, drop, map}
use Rattle.ls_plain.proofs.distinct.rows_from.Given as goal

-- the rows so far and those of the rest are those of all
abbrev pub invariant-loop-i : goal.invariant-loop-i
invariant-loop-i l = l.rows.items ++ map (λ u. u.row) (drop l.i l.own) ≡ map (λ u. u.row) (drop l.from l.own)
