use Rattle.std.proofs.Common.{ap, ◌∙◌, map}
use Rattle.ls_turns.specs.Round.{Round, link_of}
use Rattle.ls_turns.proofs.Reading.{links_are}
use Rattle.ls_turns.proofs.turns.Turns.links.Goals as goal

pub returns : goal.returns
returns c = links_are c.self.inside.rows.items _ ∙ ap (λ (x : Round). map link_of x.seats) c.self.view_is
