use Rattle.ls_distinct.specs.Stands.{distinct_stands_passed, passed_wide}
use Rattle.ls_distinct.proofs.as_buffer.DistinctBufferBuffer.pass.Goals as goal

pub returns-clause-fields : goal.returns-clause-fields
returns-clause-fields c = λ n has. rw c.pass.ensures (passed_wide n c.args.self.now has)

pub returns-clause-stands : goal.returns-clause-stands
returns-clause-stands c = λ s h t st tells. rw c.pass.ensures (distinct_stands_passed c.args.self.now s h t st tells)
