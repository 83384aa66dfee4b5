use Rattle.std.proofs.Common.{◌≡◌, take, false}
use Rattle.std.specs.List.{list_any}
use Rattle.ls_turns.specs.Round.{is_named}
use Rattle.ls_tests.proofs.round.has.Given as goal

-- none of the slots so far is the one
abbrev pub invariant-loop-i : goal.invariant-loop-i
invariant-loop-i l = list_any (is_named l.sub l.place) (take l.i l.turns.seats) ≡ false
