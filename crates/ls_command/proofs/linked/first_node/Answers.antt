use Rattle.std.proofs.Common.{◌∙◌, sym}
use Rattle.ls_command.proofs.Taking.{first_of_first, first_of_second}
use Rattle.ls_command.proofs.linked.first_node.Goals as goal

pub returns-in-Some : goal.returns-in-Some
returns-in-Some c = first_of_first c.args.links.now.lists c.in-Some.node (sym c.first.ensures ∙ c.in-Some.is)

pub returns-in-None : goal.returns-in-None
returns-in-None c = c.first-in-None.ensures ∙ first_of_second c.args.links.now.lists (sym c.first.ensures ∙ c.in-None.is)
