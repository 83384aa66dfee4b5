use Rattle.std.proofs.Common.{◌≡◌, ◌++◌, drop, map}
use Rattle.ls_plain.proofs.command.keys_from.Given as goal

-- the keys so far and those of the rest are those of all
abbrev pub invariant-loop-i : goal.invariant-loop-i
invariant-loop-i l = l.keys.items ++ map (λ k. k.key) (drop l.i l.rows) ≡ map (λ k. k.key) (drop l.from l.rows)
