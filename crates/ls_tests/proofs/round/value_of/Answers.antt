use Rattle.std.proofs.Common.{sym, ◌∙◌}
use Rattle.ls_tests.proofs.Walks.{linked}
use Rattle.ls_tests.proofs.round.value_of.Goals as goal

pub value-requires : goal.value-requires
value-requires c = linked c.args.turns.now _ c.args.place c.in-Some.node c.links.ensures (sym c.node_of.ensures ∙ c.in-Some.is)
