use Rattle.std.proofs.Common.{◌≡◌, Some, ap, sym, subst, ◌∙◌, option_map, arith}
use Rattle.ls_budget.specs.Budget.{credit_tick}
use Rattle.ls_budget.specs.Due.{due_at as due_answer}
use Rattle.ls_budget.proofs.Standing.{due_now as credit_due}
use Rattle.ls_record.specs.Lines.{spends_behind}
use Rattle.ls_subs.specs.declared.plan.PlanItem.{PlanItem}
use Rattle.ls_subs.proofs.Accepting.{kept_of_ref}
use Rattle.ls_session.proofs.Fronts.{frequency_alone, pending_held}
use Rattle.ls_session.proofs.Replies.{due_now}
use Rattle.ls_session.proofs.session.Session.waits_for_frequency.Goals as goal

pub returns-then-is_known : goal.returns-then-is_known
returns-then-is_known c = λ now r v h st next pends undue.
    let kept = kept_of_ref c.args.self.now.subs r.session.board.lines r.session.board.round r.asked v c.args.slot.now st.subs next.0 (sym next.1) in
    let x : Some c.in-Some.mode ≡ Some kept.0.mode =
    sym c.in-Some.is ∙ c.slot_mode.ensures ∙ ap (option_map (λ (p : PlanItem). p.mode)) kept.1.0 in
    let same : c.in-Some.mode ≡ kept.0.mode = cc in
    let tick : c.tick.result ≡ r.tick = c.tick.ensures ∙ st.round.tick in
    let credit = c.due.ensures.stands r.session.rate.limit (spends_behind r.session.rate.behind r.session.board.lines) st.rate.spends
    (omega (arith, st.rate.latest, st.round.above, tick)) (omega (arith, st.round.most, tick)) in
    let at : c.due.result
    ≡ due_answer (credit_tick r.session.rate.limit (spends_behind r.session.rate.behind r.session.board.lines) r.tick) r.tick =
    subst (λ n. c.due.result ≡ due_answer (credit_tick r.session.rate.limit (spends_behind r.session.rate.behind r.session.board.lines) n) n) tick credit in (
      pending_held h v (λ e. c.is_known.ensures c.if-is_known.true (same ∙ kept.1.1.mode ∙ e)) pends,
      frequency_alone r.tick r.session v
          (credit_due _ r.tick (sym at ∙ due_now c.due.result (sym c.is_now.ensures ∙ now))) undue,
    )
