use Rattle.std.proofs.Common.{◌≡◌, drop}
use Rattle.ls_record.specs.Acting.{are_among}
use Rattle.ls_subs.proofs.adding.are_among.Given as goal

-- the names so far are there
abbrev pub invariant-loop-other : goal.invariant-loop-other
invariant-loop-other l = are_among l.names (drop l.other-index l.others) ≡ are_among l.names l.others
