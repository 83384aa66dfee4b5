use Rattle.ls_chron.proofs.Beginnings.{prefix_trans}
use Rattle.ls_told.proofs.Watching.{sees_twice}
use Rattle.ls_shared.proofs.shared.Shared.ask_item.Goals as goal

pub returns-clause-items : goal.returns-clause-items
returns-clause-items g c =
    sees_twice c.args.parts.now.watches.items c.ask_held.new.parts.watches.items c.ask_more.new.parts.watches.items c.ask_held.ensures.items
    c.ask_more.ensures.items

pub returns-clause-begins : goal.returns-clause-begins
returns-clause-begins g c =
    prefix_trans c.args.parts.now.history.list c.ask_held.new.parts.history.list c.ask_more.new.parts.history.list c.ask_held.ensures.begins
    c.ask_more.ensures.begins

pub returns-clause-goes : goal.returns-clause-goes
returns-clause-goes g c = λ held asks. c.ask_more.ensures.goes held (c.ask_held.ensures.goes held asks)
