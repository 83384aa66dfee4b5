use Rattle.std.proofs.Common.{◌≡◌, ◌++◌, drop}
use Rattle.ls_value.specs.Values.{projected}
use Rattle.ls_value.proofs.projection.values_at.Given as goal

-- the values so far and those at the places left are those at all places
abbrev pub invariant-loop-place : goal.invariant-loop-place
invariant-loop-place l = l.taken.items ++ projected l.values (drop l.place-index l.places) ≡ projected l.values l.places
