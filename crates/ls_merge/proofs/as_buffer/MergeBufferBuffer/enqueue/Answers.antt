use Rattle.std.proofs.Common.{subst, sym, ◌∙◌}
use Rattle.ls_event.specs.History.{HasFields}
use Rattle.ls_merge.specs.Stands.{merge_stands_next}
use Rattle.ls_merge.proofs.Sound.{after_row_length}
use Rattle.ls_merge.proofs.as_buffer.MergeBufferBuffer.enqueue.Goals as goal

pub returns-clause-fields : goal.returns-clause-fields
returns-clause-fields c = λ n is fits row. rw c.in_ok-enqueue.ensures.ok (after_row_length c.args.self.now c.args.event.now.event ∙ is)

pub returns-clause-admits : goal.returns-clause-admits
returns-clause-admits c =
    λ e fits. rw c.in_ok-enqueue.ensures.ok (subst (λ n. HasFields n e) (sym (after_row_length c.args.self.now c.args.event.now.event)) fits)

pub returns-clause-stands : goal.returns-clause-stands
returns-clause-stands c = λ s h st next. rw c.in_ok-enqueue.ensures.ok (merge_stands_next c.args.self.now s h c.args.event.now st next)
