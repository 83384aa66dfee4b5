use Rattle.ls_raw.specs.Stands.{raw_stands_passed, passed_has}
use Rattle.ls_raw.proofs.as_buffer.RawBufferBuffer.pass.Goals as goal

pub returns-clause-fields : goal.returns-clause-fields
returns-clause-fields c = λ n has. rw c.pass.ensures (passed_has n c.args.self.now has)

pub returns-clause-stands : goal.returns-clause-stands
returns-clause-stands c = λ s h t st tells. rw c.pass.ensures (raw_stands_passed c.args.self.now s h t st tells)
