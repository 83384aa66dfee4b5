use Rattle.std.proofs.Common.{◌≡◌, ◌++◌, drop}
use Rattle.ls_value.specs.Values.{projected_cells}
use Rattle.ls_value.proofs.projection.cells_at.Given as goal

-- the cells so far and those at the places left are those at all places
abbrev pub invariant-loop-place : goal.invariant-loop-place
invariant-loop-place l = l.taken.items ++ projected_cells l.cells (drop l.place-index l.places) ≡ projected_cells l.cells l.places
