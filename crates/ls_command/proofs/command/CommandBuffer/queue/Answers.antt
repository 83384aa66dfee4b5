use Rattle.std.proofs.Common.{◌≡◌, Some, map, refl, subst}
use Rattle.ls_command.specs.Command.{Command, StandsCommand, TellsQueue, key_of_value, nodes_of}
use Rattle.ls_command.proofs.Listing.{links_read, tells_queue}
use Rattle.ls_command.proofs.command.CommandBuffer.queue.Goals as goal

pub returns-clause-keys : goal.returns-clause-keys
returns-clause-keys c =
    subst (λ (b : Command). map (λ l. key_of_value b l.value) (nodes_of c.links.result.now.lists) ≡ map (λ q. Some q.key) b.queue) c.self.view_is
    (links_read c.self.inside.queue c.links.result.now c.links.ensures)

pub returns-clause-stands : goal.returns-clause-stands
returns-clause-stands c = λ s h st.
    subst (λ (b : Command). StandsCommand b s h → TellsQueue b c.links.result.now s h) c.self.view_is
    (tells_queue _ c.self.inside.queue c.links.result.now s h refl refl refl c.links.ensures) st
