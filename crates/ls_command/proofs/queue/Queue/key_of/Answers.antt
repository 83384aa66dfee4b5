use Rattle.std.proofs.Common.{◌∙◌, List, ℕ, Some, sym, ap}
use Rattle.ls_command.specs.Command.{key_valued}
use Rattle.ls_command.specs.Entries.{LinkedKeys}
use Rattle.ls_command.proofs.Listing.{key_there, no_key_there}
use Rattle.ls_command.proofs.queue.Queue.key_of.Goals as goal

pub returns-in-None : goal.returns-in-None
returns-in-None c =
    no_key_there c.self.inside.entries.entries c.self.inside.links.lists c.self.invariant c.args.value
    (sym (rw c.in-None.is at c.get_index.ensures.entry))
    ∙ ap (λ (q : LinkedKeys). key_valued q.values q.keys c.args.value) c.self.view_is

pub returns-in-Some : goal.returns-in-Some
returns-in-Some c =
    ap (λ (k : List ℕ). Some k) c.text.ensures
    ∙ key_there c.self.inside.entries.entries c.self.inside.links.lists c.self.invariant c.args.value _
    (sym (rw c.in-Some.is at c.get_index.ensures.entry))
    ∙ ap (λ (q : LinkedKeys). key_valued q.values q.keys c.args.value) c.self.view_is
