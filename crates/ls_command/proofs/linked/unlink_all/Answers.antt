use Rattle.std.proofs.Common.{◌∙◌, sym}
use Rattle.std.proofs.lemmas.List.{length-map}
use Rattle.ls_command.proofs.Clearing.{first_there, unlinked_fewer, unlinked_empty, empty_there}
use Rattle.ls_command.proofs.linked.unlink_all.Goals as goal

pub unlink-requires : goal.unlink-requires
unlink-requires c = first_there c.loop-node.links c.args.list c.in-Some.node (sym c.first.ensures ∙ c.in-Some.is)

pub loop-node-smaller : goal.loop-node-smaller
loop-node-smaller c =
    rw c.unlink.ensures.unlinked (unlinked_fewer c.loop-node.links c.args.list c.in-Some.node (sym c.first.ensures ∙ c.in-Some.is))

pub loop-node-preserved : goal.loop-node-preserved
loop-node-preserved c =
    rw c.unlink.ensures.unlinked (
      length-map c.loop-node.links.lists _ ∙ c.loop-node.invariant.0,
      λ other h. unlinked_empty c.loop-node.links c.in-Some.node other (c.loop-node.invariant.1 other h),
    )

pub returns-clause-empty : goal.returns-clause-empty
returns-clause-empty c = empty_there c.loop-node.links c.args.list (sym c.first.ensures ∙ c.in_default.is)
