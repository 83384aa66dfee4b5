use Rattle.std.proofs.Common.{◌≡◌, drop, ◌++◌}
use Rattle.ls_record.specs.Acting.{places_among, names_of}
use Rattle.ls_subs.proofs.adding.group_of.Given as goal

-- the numbers so far and those of the names left are the numbers of all
abbrev pub invariant-loop-name : goal.invariant-loop-name
invariant-loop-name l = l.numbers.items ++ places_among (names_of l.config.items) (drop l.name-index l.group)
    ≡ places_among (names_of l.config.items) l.group
