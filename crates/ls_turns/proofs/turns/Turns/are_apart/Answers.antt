use Rattle.std.proofs.Common.{subst}
use Rattle.ls_turns.specs.Round.{Round, AreApart}
use Rattle.ls_turns.proofs.Reading.{seats_apart}
use Rattle.ls_turns.proofs.turns.Turns.are_apart.Goals as goal

pub returns : goal.returns
returns c = subst (λ (x : Round). AreApart x) c.self.view_is (seats_apart _ _ c.self.invariant.kept)
