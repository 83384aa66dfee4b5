use Rattle.std.proofs.Common.{◌≡◌, drop}
use Rattle.ls_line.specs.Reading.{has_rest}
use Rattle.ls_line.proofs.reading.has_rest.Given as goal

-- the kinds left decide
abbrev pub invariant-loop-kind : goal.invariant-loop-kind
invariant-loop-kind l = has_rest (drop l.kind-index l.kinds) ≡ has_rest l.kinds
