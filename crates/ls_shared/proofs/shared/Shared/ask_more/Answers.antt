use Rattle.std.proofs.Common.{◌∙◌}
use Rattle.ls_chron.proofs.Beginnings.{prefix_trans}
use Rattle.ls_told.proofs.Watching.{sees_twice}
use Rattle.ls_shared.proofs.shared.Shared.ask_more.Goals as goal

pub returns-then-not-ask_ahead-clause-items : goal.returns-then-not-ask_ahead-clause-items
returns-then-not-ask_ahead-clause-items g c =
    sees_twice c.args.parts.now.watches.items c.loop.parts.watches.items c.ask_ahead.new.parts.watches.items c.loop.invariant.4 c.ask_ahead.ensures.items

pub loop-preserved : goal.loop-preserved
loop-preserved g c = (
  c.ask_ahead.ensures.rest.0 ∙ c.loop.invariant.0,
  c.ask_ahead.ensures.rest.1 ∙ c.loop.invariant.1,
  c.ask_ahead.ensures.rest.2 ∙ c.loop.invariant.2,
  c.ask_ahead.ensures.lives,
  sees_twice c.args.parts.now.watches.items c.loop.parts.watches.items c.ask_ahead.new.parts.watches.items c.loop.invariant.4 c.ask_ahead.ensures.items,
  prefix_trans c.args.parts.now.history.list c.loop.parts.history.list c.ask_ahead.new.parts.history.list c.loop.invariant.5 c.ask_ahead.ensures.begins,
  λ held goes. c.ask_ahead.ensures.goes held (c.loop.invariant.6 held goes),
)
