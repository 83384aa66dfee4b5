use Rattle.std.proofs.Common.{ap, ◌∙◌, ◌++◌}
use Rattle.ls_feed.specs.Replies.{text_of}
use Rattle.ls_feed.proofs.Acting.{part_sent}
use Rattle.ls_feed.proofs.feed.send.Goals as goal

pub returns-in-Failed-clause-sends : goal.returns-in-Failed-clause-sends
returns-in-Failed-clause-sends g c =
    let b = c.in-Failed.ensures.bytes in
    part_sent _ _ (text_of c.args.reply) c.deref.result.now
    (c.deref.ensures.value ∙ c.in-Ok.ensures ∙ ap (λ t. t ++ text_of c.args.reply) c.clear.ensures.items) b.0 b.2
