use Rattle.std.proofs.Common.{ℕ, refl, subst, ◌∙◌}
use Rattle.ls_chron.proofs.Beginnings.{prefix_self, prefix_trans}
use Rattle.ls_conn_ws.specs.Messages.{lines_after, lines_of}
use Rattle.ls_conn_ws.specs.Answering.{CausesReplied}
use Rattle.ls_conn_ws.proofs.Replying.{none_yet, one_more_line, stopped_at, causes_all}
use Rattle.ls_conn_ws.proofs.answering.answer_each.Goals as goal

pub loop-rest-init : goal.loop-rest-init
loop-rest-init g c = (none_yet _ _ _ _ _ _, prefix_self _, refl, refl)

pub returns-then-is_stopped-clause-replies : goal.returns-then-is_stopped-clause-replies
returns-then-is_stopped-clause-replies g c =
    stopped_at _ _ _ _ _ _ c.answer_line-replied.result.0 (lines_of c.in-Some.more.now) (lines_after c.answer_line-replied.result.1) _ _ _ _
    (c.is_stopped.ensures.yes c.if-is_stopped.true) (rw c.in-Some.is at c.loop-rest.invariant.0) c.answer_line-replied.ensures.line

pub returns-then-is_stopped-clause-register : goal.returns-then-is_stopped-clause-register
returns-then-is_stopped-clause-register g c = prefix_trans _ _ _ c.loop-rest.invariant.1 c.answer_line-replied.ensures.register

pub returns-then-is_stopped-clause-cause : goal.returns-then-is_stopped-clause-cause
returns-then-is_stopped-clause-cause g c =
    subst (λ (f : ℕ). CausesReplied c.answer_line-replied.result.0 f (g.T.LineOut.faults c.answer_line-replied.new.talk)) c.loop-rest.invariant.2 c.answer_line-replied.ensures.cause

pub returns-then-is_stopped-clause-counts : goal.returns-then-is_stopped-clause-counts
returns-then-is_stopped-clause-counts g c = c.answer_line-replied.ensures.counts ∙ c.loop-rest.invariant.3

pub loop-rest-preserved : goal.loop-rest-preserved
loop-rest-preserved g c = (
  one_more_line _ _ _ _ _ _ c.answer_line-replied.result.0 (lines_of c.in-Some.more.now) (lines_after c.answer_line-replied.result.1) _ _ _ _
      (c.is_stopped.ensures.all c.if-is_stopped.false) (rw c.in-Some.is at c.loop-rest.invariant.0) c.answer_line-replied.ensures.line,
  prefix_trans _ _ _ c.loop-rest.invariant.1 c.answer_line-replied.ensures.register,
  causes_all _ _ _ (c.is_stopped.ensures.all c.if-is_stopped.false) c.answer_line-replied.ensures.cause ∙ c.loop-rest.invariant.2,
  c.answer_line-replied.ensures.counts ∙ c.loop-rest.invariant.3,
)

pub returns-clause-register : goal.returns-clause-register
returns-clause-register g c = c.loop-rest.invariant.1

pub returns-clause-cause : goal.returns-clause-cause
returns-clause-cause g c = c.loop-rest.invariant.2

pub returns-clause-counts : goal.returns-clause-counts
returns-clause-counts g c = c.loop-rest.invariant.3
