use Rattle.std.proofs.Common.{refl, sym, ◌∙◌, ap, subst, ◌≡◌, ◌++◌, ◌∷◌, false}
use Rattle.std.proofs.lemmas.Result.{IfOk-weaker}
use Rattle.ls_record.specs.Records.{history_of}
use Rattle.ls_session.specs.Session.{StandsSession}
use Rattle.ls_session.specs.declared.session.Reply.{Reply}
use Rattle.ls_subs.specs.Standing.{ref_of}
use Rattle.ls_acts.specs.Telling.{moved_by, replied_by, found_by}
use Rattle.ls_acts.specs.declared.telling.Found.TheVariants as found
use Rattle.ls_acts.proofs.Told.{asked_as, reply_waits, reply_quiet}
use Rattle.ls_acts.proofs.telling.tell_waiting.Goals as goal

pub returns-in_ok-answer-clause-told : goal.returns-in_ok-answer-clause-told
returns-in_ok-answer-clause-told g c = λ items a b r q cells st asked ask.
    let undue : q.due ≡ false = sym (ap (λ x. x.due) ask) ∙ c.requires in
    let is = reply_waits (history_of items q.live.item) q undue
    (sym (c.pending.ensures items a b q.live cells (sym (ap (λ x. x.slot.item) ask)) (sym (ap (λ x. x.slot.slot) ask))) ∙ c.if-pending.true) in
    let d = c.in_ok-answer.ensures.waiting r q.live st (asked_as r q false asked undue)
    (ask ∙ ap (λ b. record { slot = ref_of q.live; due = b }) undue) refl in
    subst (λ (p : Reply). (found.Waits ≡ found_by p r.session.board.lines q.live)
    × g.S.ItemSlots.stands c.args.slots.now items (a ++ moved_by p q.live ∷ b)
    × StandsSession c.answer.new.self (replied_by p q.live r)) (sym is) (refl, cells, d.1)

pub returns-else-pending-clause-told : goal.returns-else-pending-clause-told
returns-else-pending-clause-told g c = IfOk-weaker c.nothing.result _ _ (λ x did items a b r q cells st asked ask.
    let undue : q.due ≡ false = sym (ap (λ x. x.due) ask) ∙ c.requires in
    let is = reply_quiet (history_of items q.live.item) q undue
    (sym (c.pending.ensures items a b q.live cells (sym (ap (λ x. x.slot.item) ask)) (sym (ap (λ x. x.slot.slot) ask))) ∙ c.if-pending.false) in
    let d = did r q st asked ask in
    subst (λ (p : Reply). (x ≡ found_by p r.session.board.lines q.live)
    × g.S.ItemSlots.stands c.args.slots.now items (a ++ moved_by p q.live ∷ b)
    × StandsSession c.nothing.new.session (replied_by p q.live r)) (sym is) (d.0, cells, d.1)) c.nothing.ensures.told
