use Rattle.ls_feed.proofs.Acting.{acted, passes_of}
use Rattle.ls_feed.proofs.feed.Feeder.act.Goals as goal

pub returns-clause-acts : goal.returns-clause-acts
returns-clause-acts g c = λ lines held w.
    acted _ (record { adapter = c.self.inside.adapter; passes = c.self.inside.passes })
    (record { adapter = c.self.inside.adapter; passes = c.answer-reply.new.passes }) c.in-Some.adapter c.send.result lines c.args.line.now
    c.answer-reply.result held _ _ c.in-Some.is c.in-Some.is c.answer-reply.ensures.replies c.send.ensures.sends
    (rw c.self.view_is w)

pub answer-reply-requires-clause-passes : goal.answer-reply-requires-clause-passes
answer-reply-requires-clause-passes g c =
    passes_of g.N.House.deed.config c.args.self.now (record { adapter = c.self.inside.adapter; passes = c.self.inside.passes })
    c.in-Some.adapter c.self.view_is c.in-Some.is c.requires.ready
