use Rattle.std.proofs.Common.{◌≡◌, take}
use Rattle.ls_item.proofs.rows.copied_keys.Given as goal

-- the keys so far are copied
abbrev pub invariant-loop-keyed : goal.invariant-loop-keyed
invariant-loop-keyed l = l.copied.items ≡ take l.keyed-index l.rows
