use Rattle.ls_feed.proofs.Passing.{offered_so, are_offered}
use Rattle.ls_feed.proofs.feed.offered.Goals as goal

pub returns-clause-offered : goal.returns-clause-offered
returns-clause-offered g c =
    let p = c.pass_of-pass.ensures in
    let e = c.offer_by-reply.ensures in
    offered_so _ c.args.adapter c.args.offer c.offer_by-reply.result c.args.passes.now c.pass_of-pass.new.passes c.put.new.self c.pass_of-pass.result
    c.offer_by-reply.new.pass c.requires.room p.of p.seen p.rest e.begins e.same e.says c.put.ensures

pub returns-clause-passes : goal.returns-clause-passes
returns-clause-passes g c =
    let p = c.pass_of-pass.ensures in
    let e = c.offer_by-reply.ensures in
    are_offered _ c.args.adapter c.args.offer c.offer_by-reply.result c.args.passes.now c.put.new.self c.requires.passes
    (offered_so _ c.args.adapter c.args.offer c.offer_by-reply.result c.args.passes.now c.pass_of-pass.new.passes c.put.new.self c.pass_of-pass.result
    c.offer_by-reply.new.pass c.requires.room p.of p.seen p.rest e.begins e.same e.says c.put.ensures)
