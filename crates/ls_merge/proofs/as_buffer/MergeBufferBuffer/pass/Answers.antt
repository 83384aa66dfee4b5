use Rattle.std.proofs.Common.{subst, sym, ◌∙◌}
use Rattle.ls_event.specs.History.{HasFields}
use Rattle.ls_merge.specs.Stands.{merge_stands_passed}
use Rattle.ls_merge.proofs.Sound.{passed_row_length}
use Rattle.ls_merge.proofs.as_buffer.MergeBufferBuffer.pass.Goals as goal

pub returns-clause-fields : goal.returns-clause-fields
returns-clause-fields c = λ n is. rw c.pass.ensures (passed_row_length c.args.self.now ∙ is)

pub returns-clause-admits : goal.returns-clause-admits
returns-clause-admits c = λ e fits. rw c.pass.ensures (subst (λ n. HasFields n e) (sym (passed_row_length c.args.self.now)) fits)

pub returns-clause-stands : goal.returns-clause-stands
returns-clause-stands c = λ s h t st tells. rw c.pass.ensures (merge_stands_passed c.args.self.now s h t st tells)
