use Rattle.std.proofs.Common.{List, ℕ, [], ap, ◌∙◌}
use Rattle.ls_keep.specs.Texts.{QueuedTexts, queued}
use Rattle.ls_keep.proofs.Places.{left_stays, lie_cleared}
use Rattle.ls_keep.proofs.queue.TextQueue.clear.Goals as goal

pub invariant_of-self : goal.invariant_of-self
invariant_of-self c =
    let k = c.self.inside in
    rw (c.truncate.ensures.items, c.clear.ensures.items) (lie_cleared k.bytes.items k.gone k.left k.first k.ends.items c.self.invariant)

pub returns : goal.returns
returns c =
    let k = c.self.inside in
    rw (c.truncate.ensures.items, c.clear.ensures.items)
    (ap (λ (t : List ℕ). queued ([]) (t))
    (left_stays k.bytes.items k.gone k.left k.first c.self.invariant.there c.self.invariant.left_ends
    ∙ ap (λ (v : QueuedTexts). v.left) c.self.view_is))
