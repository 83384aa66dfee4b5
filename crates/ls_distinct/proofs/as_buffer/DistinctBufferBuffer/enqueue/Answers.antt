use Rattle.ls_distinct.specs.Stands.{distinct_stands_next, after_wide}
use Rattle.ls_distinct.proofs.as_buffer.DistinctBufferBuffer.enqueue.Goals as goal

pub returns-clause-fields : goal.returns-clause-fields
returns-clause-fields c = λ n has fits row. rw c.in_ok-enqueue.ensures.ok (after_wide n c.args.self.now c.args.event.now.event has fits)

pub returns-clause-stands : goal.returns-clause-stands
returns-clause-stands c = λ s h st next. rw c.in_ok-enqueue.ensures.ok (distinct_stands_next c.args.self.now s h c.args.event.now st next)
