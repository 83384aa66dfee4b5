use Rattle.std.proofs.Common.{◌≡◌, ◌+◌, drop}
use Rattle.ls_item.specs.Keys.{index_in}
use Rattle.ls_plain.proofs.keyed.place_for.Given as goal

-- the first are before the key
abbrev pub invariant-loop-i : goal.invariant-loop-i
invariant-loop-i l = l.i + index_in l.key (drop l.i l.rows) ≡ index_in l.key l.rows
