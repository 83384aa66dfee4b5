use Rattle.std.proofs.Common.{subst}
use Rattle.ls_turns.specs.Round.{Round, HasPlacesTo}
use Rattle.ls_turns.proofs.Reading.{places_are}
use Rattle.ls_turns.proofs.turns.Turns.places.Goals as goal

pub returns : goal.returns
returns c = subst (λ (x : Round). HasPlacesTo c.self.inside.places x) c.self.view_is (places_are _ _ c.self.invariant.kept)
