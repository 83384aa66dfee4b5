use Rattle.std.proofs.Common.{◌∙◌, slice_get, sym, ap}
use Rattle.ls_command.specs.Entries.{LinkedKeys, keys_turned}
use Rattle.ls_command.proofs.Taking.{none_seen, none_turned}
use Rattle.ls_command.proofs.queue.Queue.take_first.Goals as goal

pub returns-in-None-clause-first : goal.returns-in-None-clause-first
returns-in-None-clause-first c =
    sym (none_seen c.self.inside.entries.entries c.self.inside.links.lists (sym c.first_node.ensures ∙ c.in-None.is))
    ∙ ap (λ (q : LinkedKeys). slice_get q.keys 0) c.self.view_is

pub returns-in-None-clause-rest : goal.returns-in-None-clause-rest
returns-in-None-clause-rest c =
    sym c.self.view_is
    ∙ none_turned c.self.inside.entries.entries c.self.inside.links.lists (sym c.first_node.ensures ∙ c.in-None.is)
    ∙ ap keys_turned c.self.view_is

pub returns-in-Some-clause-first : goal.returns-in-Some-clause-first
returns-in-Some-clause-first c = sym c.take.ensures.first ∙ ap (λ (q : LinkedKeys). slice_get q.keys 0) c.self.view_is

pub returns-in-Some-clause-rest : goal.returns-in-Some-clause-rest
returns-in-Some-clause-rest c = c.take.ensures.rest ∙ ap keys_turned c.self.view_is
