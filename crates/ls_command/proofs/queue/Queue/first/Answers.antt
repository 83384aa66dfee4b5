use Rattle.std.proofs.Common.{◌∙◌, Some, slice_get, sym, ap}
use Rattle.ls_command.specs.declared.kept.Queued.{Queued}
use Rattle.ls_command.specs.Entries.{LinkedKeys}
use Rattle.ls_command.proofs.Taking.{first_place, first_seen, none_seen}
use Rattle.ls_command.proofs.queue.Queue.first.Goals as goal

pub copied_entry-requires : goal.copied_entry-requires
copied_entry-requires c =
    (first_place c.self.inside.entries.entries c.self.inside.links c.in-Some.node c.value-place.result c.self.invariant
    (sym c.first_node.ensures ∙ c.in-Some.is) c.value-place.ensures).within

pub returns-in-None : goal.returns-in-None
returns-in-None c =
    sym (none_seen c.self.inside.entries.entries c.self.inside.links.lists (sym c.first_node.ensures ∙ c.in-None.is))
    ∙ ap (λ (q : LinkedKeys). slice_get q.keys 0) c.self.view_is

pub returns-in_ok-first-in-Some : goal.returns-in_ok-first-in-Some
returns-in_ok-first-in-Some c =
    ap (λ (x : Queued). Some x) c.in_ok-first-in-Some.ensures
    ∙ sym (first_seen c.self.inside.entries.entries c.self.inside.links.lists c.in-Some.node c.value-place.result
    (first_place c.self.inside.entries.entries c.self.inside.links c.in-Some.node c.value-place.result c.self.invariant
    (sym c.first_node.ensures ∙ c.in-Some.is) c.value-place.ensures))
    ∙ ap (λ (q : LinkedKeys). slice_get q.keys 0) c.self.view_is
