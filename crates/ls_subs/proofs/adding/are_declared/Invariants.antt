use Rattle.std.proofs.Common.{◌≡◌, drop}
use Rattle.ls_record.specs.Acting.{are_among, names_of}
use Rattle.ls_subs.proofs.adding.are_declared.Given as goal

-- the names so far are those of items
abbrev pub invariant-loop-name : goal.invariant-loop-name
invariant-loop-name l = are_among (names_of l.config.items) (drop l.name-index l.names) ≡ are_among (names_of l.config.items) l.names
