use Rattle.std.proofs.Common.{◌≡◌, ◌≤◌, ◌<◌, ℕ, Bool, true, false, refl, sym, ◌∙◌, ap, subst, slice_get}
use Rattle.ls_value.specs.declared.limits.TheConstants.{GREATEST_NUMBER}
use Rattle.ls_budget.specs.declared.due.Due.{Due}
use Rattle.ls_turns.specs.declared.slot_ref.SlotRef.{SlotRef}
use Rattle.ls_record.specs.Records.{is_due, due_at}
use Rattle.ls_subs.specs.Standing.{ref_of}
use Rattle.ls_session.specs.Asking.{Asking, is_now}
use Rattle.ls_session.specs.declared.asking.Asked.{Asked}
use Rattle.ls_session.specs.declared.session.Turn.TheVariants as turn
use Rattle.ls_session.proofs.Seats.{slot_named}
use Rattle.ls_session.proofs.Turns.{next_found, round_idle, round_spent, round_asks, is_now_due}
use Rattle.ls_session.proofs.session.Session.ask_next.Goals as goal
use Rattle.ls_session.proofs.session.Session.ask_next.Goals.{else-due-via-then-due+else-last-ge-GREATEST_NUMBER, else-due-via-else-due}

pub returns-in_default : goal.returns-in_default
returns-in_default c = λ r st tick resting.
    round_idle c.args.self.now c.wait.new.self r c.args.now c.wait.result st tick
    (sym (c.slot.ensures.at r.asked st.round.next ∙ slot_named c.args.self.now.asking.turns r.session.board.round r.asked st.round.slots) ∙ c.in_default.is)
    c.wait.ensures.gives c.wait.ensures.anew

pub returns-then-last-ge-GREATEST_NUMBER : goal.returns-then-last-ge-GREATEST_NUMBER
returns-then-last-ge-GREATEST_NUMBER c = λ r st tick resting.
    let found = next_found c.in-Some.slot (slice_get r.session.board.round r.asked)
    (sym c.in-Some.is ∙ c.slot.ensures.at r.asked st.round.next ∙ slot_named c.args.self.now.asking.turns r.session.board.round r.asked st.round.slots) in
    round_spent c.args.self.now _ r c.args.now found.0 turn.Spent st tick found.1.0
    (sym (is_now_due (due_at c.args.now r.session found.0) c.args.now) ∙ ap is_now (sym (c.due.ensures r found.0 st found.1.0 found.1.1 tick))
    ∙ sym c.is_now-due.ensures ∙ c.if-due.true)
    (subst (λ (n : ℕ). GREATEST_NUMBER ≤ n) c.last.ensures.own c.if-last-ge-GREATEST_NUMBER.true) refl
    (ap (λ (a : Asking). record c.args.self.now { asking = a }) c.begin.ensures)

pub returns : goal.returns
returns c = λ r st tick resting.
    let found = next_found c.in-Some.slot (slice_get r.session.board.round r.asked)
    (sym c.in-Some.is ∙ c.slot.ensures.at r.asked st.round.next ∙ slot_named c.args.self.now.asking.turns r.session.board.round r.asked st.round.slots) in
    let is : c.is_now-due.result ≡ is_due c.args.now r.session found.0 =
    c.is_now-due.ensures ∙ ap is_now (c.due.ensures r found.0 st found.1.0 found.1.1 tick) ∙ is_now_due (due_at c.args.now r.session found.0) c.args.now in
    let asked : Asked = record { slot = c.in-Some.slot; due = c.due.result } in
    round_asks c.args.self.now _ r c.args.now found.0 asked _ st tick found.1.0
    (ap (λ (x : SlotRef). record { slot = x; due = c.due.result }) found.1.1
    ∙ ap (λ (d : Due). record { slot = ref_of found.0; due = d }) (c.due.ensures r found.0 st found.1.0 found.1.1 tick))
    (λ due. elim c.else-due.branch [
      | else-due-via-then-due+else-last-ge-GREATEST_NUMBER w ↦ subst (λ (n : ℕ). n < GREATEST_NUMBER) w.last.ensures.own w.if-last-ge-GREATEST_NUMBER.false
      | else-due-via-else-due w ↦ absurd (let x : true ≡ false = sym due ∙ sym is ∙ w.if-due.false in cc)
    ])
    (ap (λ (x : SlotRef). turn.Ask (record { slot = x; due = c.is_now-due.result })) found.1.1
    ∙ ap (λ (b : Bool). turn.Ask (record { slot = ref_of found.0; due = b })) is)
    (ap (λ (a : Asking). record c.args.self.now { asking = a }) c.ask.ensures)
