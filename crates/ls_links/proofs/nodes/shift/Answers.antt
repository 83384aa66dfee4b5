use Rattle.std.proofs.Common.{ap, ◌∙◌}
use Rattle.std.proofs.lemmas.List.{take_at}
use Rattle.ls_links.specs.Nodes.{attached, detached}
use Rattle.ls_links.proofs.nodes.shift.Goals as goal

pub returns-clause-nodes : goal.returns-clause-nodes
returns-clause-nodes c =
    let first = take_at c.detach.new.nodes _ _ (c.detach.auto.nodes ∙ c.deref_mut.ensures.len) ∙ c.detach.ensures in
    take_at c.attach.new.nodes _ _ (c.attach.auto.nodes ∙ c.deref_mut-2.ensures.len) ∙ c.attach.ensures
    ∙ ap (attached c.args.list c.args.node) (c.deref_mut-2.ensures.value ∙ first ∙ ap (detached c.args.node) c.deref_mut.ensures.value)
