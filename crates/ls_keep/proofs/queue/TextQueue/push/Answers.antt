use Rattle.std.proofs.Common.{◌≡◌, length, ◌∙◌}
use Rattle.ls_keep.proofs.Places.{lie_pushed, queue_pushed}
use Rattle.ls_keep.proofs.queue.TextQueue.push.Goals as goal

pub invariant_of-self : goal.invariant_of-self
invariant_of-self c =
    let k = c.self.inside in
    let many : c.len.result ≡ length k.bytes.items = c.len.ensures ∙ k.bytes.ok.0 in
    rw (c.push_back_reserved.ensures.items, c.in-Ok.ensures.items, many)
    (lie_pushed k.bytes.items c.args.text.now k.gone k.left k.first k.ends.items c.self.invariant)

pub returns-in-Ok-clause-joined : goal.returns-in-Ok-clause-joined
returns-in-Ok-clause-joined c = λ yes.
    let k = c.self.inside in
    let many : c.len.result ≡ length k.bytes.items = c.len.ensures ∙ k.bytes.ok.0 in
    rw (c.push_back_reserved.ensures.items, c.in-Ok.ensures.items, many)
    (queue_pushed k.bytes.items c.args.text.now k.gone k.left k.first k.ends.items c.args.self.now c.self.view_is c.self.invariant)
