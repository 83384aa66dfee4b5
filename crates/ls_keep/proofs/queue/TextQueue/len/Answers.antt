use Rattle.std.proofs.Common.{length, ap, ◌∙◌}
use Rattle.ls_keep.specs.Texts.{QueuedTexts}
use Rattle.ls_keep.proofs.Places.{length_texts}
use Rattle.ls_keep.proofs.queue.TextQueue.len.Goals as goal

pub returns-clause-texts : goal.returns-clause-texts
returns-clause-texts c =
    let k = c.self.inside in
    c.len.ensures ∙ k.ends.ok.0 ∙ length_texts k.bytes.items k.gone k.first k.ends.items
    ∙ ap (λ (v : QueuedTexts). length v.texts) c.self.view_is
