use Rattle.std.proofs.Common.{subst}
use Rattle.ls_command.specs.Entries.{LinkedKeys, HasValues}
use Rattle.ls_command.proofs.Listing.{has_values}
use Rattle.ls_command.proofs.queue.Queue.links.Goals as goal

pub returns : goal.returns
returns c =
    subst (λ (q : LinkedKeys). HasValues q c.self.inside.links) c.self.view_is
    (has_values c.self.inside.entries.entries c.self.inside.links c.self.invariant)
