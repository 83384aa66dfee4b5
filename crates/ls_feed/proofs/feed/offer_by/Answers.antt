use Rattle.ls_feed.proofs.Passing.{caused, same_item}
use Rattle.ls_feed.proofs.feed.offer_by.Goals as goal

pub returns-in-Err-clause-says : goal.returns-in-Err-clause-says
returns-in-Err-clause-says g c =
    let e = c.in-Err.ensures in
    c.reply_to.ensures c.args.offer c.offer_quietly.new.pass
    (caused c.args.offer c.args.pass.now c.offer_quietly.new.pass c.in-Err.cause
    (same_item c.args.pass.now c.offer_quietly.new.pass e.adapter e.item) e.refused)
