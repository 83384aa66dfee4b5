use Rattle.ls_feed.proofs.Passing.{are_unchanged}
use Rattle.ls_feed.proofs.feed.answer.Goals as goal

pub returns-then-is_err-clause-passes : goal.returns-then-is_err-clause-passes
returns-then-is_err-clause-passes g c =
    are_unchanged _ c.args.adapter c.args.passes.now c.reserve.new.self c.requires.passes c.reserve.ensures.same

pub offered-requires-clause-passes : goal.offered-requires-clause-passes
offered-requires-clause-passes g c =
    are_unchanged _ c.args.adapter c.args.passes.now c.reserve.new.self c.requires.passes c.reserve.ensures.same
