use Rattle.std.proofs.Common.{◌≡◌, Some, ap, sym, subst, ◌∙◌, option_map}
use Rattle.ls_budget.specs.Due.{due_at as due_answer}
use Rattle.ls_budget.specs.declared.due.Due.TheVariants as due
use Rattle.ls_record.specs.Records.{due_at}
use Rattle.ls_subs.specs.Standing.{ref_of}
use Rattle.ls_session.proofs.Seats.{slot_named}
use Rattle.ls_session.proofs.Passing.{at_is, not_yet}
use Rattle.ls_session.proofs.session.Session.hold_next.Goals as goal

pub returns-in-At-clause-held : goal.returns-in-At-clause-held
returns-in-At-clause-held c = λ t r v h st found pends.
    let named : Some c.in-Some.slot ≡ Some (ref_of v) =
    sym c.in-Some.is ∙ c.slot.ensures.at r.asked st.round.next
    ∙ slot_named c.args.self.now.asking.turns r.session.board.round r.asked st.round.slots ∙ ap (option_map ref_of) found in
    let slot : c.in-Some.slot ≡ ref_of v = cc in
    let tick : c.tick.result ≡ r.tick = c.tick.ensures ∙ st.round.tick in
    let at = at_is (due_at r.tick r.session v) r.tick c.in-At.tick
    (subst (λ n. due_answer (due_at n r.session v) n ≡ due.At c.in-At.tick) tick (sym (c.due.ensures r v st found slot (sym tick)) ∙ c.in-At.is)) in
    let undue = not_yet (due_at r.tick r.session v) r.tick at.1 in
    (undue, c.hold_at.ensures r v h st (found, slot) pends undue at.0)
