use Rattle.std.proofs.Common.{sym, ◌∙◌}
use Rattle.ls_feed.proofs.Passing.{from_none}
use Rattle.ls_feed.proofs.feed.pass_of.Goals as goal

pub returns-in-None-clause-seen : goal.returns-in-None-clause-seen
returns-in-None-clause-seen g c = from_none c.args.passes.now c.args.item c.pass.result.list (sym c.take.ensures.pass ∙ c.in-None.is)

pub returns-in-Some-clause-of : goal.returns-in-Some-clause-of
returns-in-Some-clause-of g c = c.requires.passes c.args.item c.in-Some.pass (sym c.take.ensures.pass ∙ c.in-Some.is)
