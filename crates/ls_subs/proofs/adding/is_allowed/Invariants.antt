use Rattle.std.proofs.Common.{◌≡◌, drop}
use Rattle.ls_record.specs.Acting.{is_allowed}
use Rattle.ls_subs.proofs.adding.is_allowed.Given as goal

-- it is allowed on the items so far
abbrev pub invariant-loop-n : goal.invariant-loop-n
invariant-loop-n l = is_allowed l.defs l.mode (drop l.n-index l.group) ≡ is_allowed l.defs l.mode l.group
