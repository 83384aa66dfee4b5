use Rattle.std.proofs.Common.{◌≡◌, ◌+◌, drop}
use Rattle.ls_record.specs.Tables.{place_of_field}
use Rattle.ls_subs.proofs.adding.place_in.Given as goal

-- none of the places so far is the field's
abbrev pub invariant-loop-shown : goal.invariant-loop-shown
invariant-loop-shown l = (place_of_field l.field l.places ≡ place_of_field l.field (drop l.shown-index l.places) + l.place) × (l.place ≡ l.shown-index)
