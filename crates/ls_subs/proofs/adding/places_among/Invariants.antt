use Rattle.std.proofs.Common.{◌≡◌, drop, ◌++◌}
use Rattle.ls_record.specs.Acting.{places_among}
use Rattle.ls_subs.proofs.adding.places_among.Given as goal

-- the places so far and those of the names left are the places of all
abbrev pub invariant-loop-other : goal.invariant-loop-other
invariant-loop-other l = l.places.items ++ places_among l.names (drop l.other-index l.others) ≡ places_among l.names l.others
