use Rattle.std.proofs.Common.{refl, sym, ◌∙◌, ap, subst, ◌≡◌, ◌++◌, ◌∷◌, true}
use Rattle.std.proofs.lemmas.Result.{IfOk-weaker}
use Rattle.ls_record.specs.Records.{history_of}
use Rattle.ls_session.specs.Session.{StandsSession}
use Rattle.ls_session.specs.declared.session.Reply.{Reply}
use Rattle.ls_subs.specs.Standing.{ref_of}
use Rattle.ls_subs.proofs.Cuts.{cut_suits}
use Rattle.ls_acts.specs.Telling.{moved_by, replied_by, found_by, found_in}
use Rattle.ls_acts.proofs.Told.{told_light, asked_as, reply_none, reply_cut}
use Rattle.ls_acts.proofs.telling.tell_cut.Goals as goal

pub returns-in-None-clause-told : goal.returns-in-None-clause-told
returns-in-None-clause-told g c = IfOk-weaker c.nothing.result _ _ (λ found did items a b r q cells st asked ask.
    let due : q.due ≡ true = sym (ap (λ x. x.due) ask) ∙ c.requires in
    let is = reply_none (history_of items q.live.item) q due
    (sym (c.in_ok-look.ensures.cut items a b q.live cells (sym (ap (λ x. x.slot.item) ask)) (sym (ap (λ x. x.slot.slot) ask))) ∙ c.in-None.is) in
    let d = did r q st asked ask in
    subst (λ (p : Reply). (found ≡ found_by p r.session.board.lines q.live)
    × g.S.ItemSlots.stands c.args.slots.now items (a ++ moved_by p q.live ∷ b)
    × StandsSession c.nothing.new.session (replied_by p q.live r)) (sym is) (d.0, cells, d.1)) c.nothing.ensures.told

pub returns-in_ok-line-in-Some-clause-told : goal.returns-in_ok-line-in-Some-clause-told
returns-in_ok-line-in-Some-clause-told g c = λ items a b r q cells st asked ask.
    let due : q.due ≡ true = sym (ap (λ x. x.due) ask) ∙ c.requires in
    let item = sym (ap (λ x. x.slot.item) ask) in
    let number = sym (ap (λ x. x.slot.slot) ask) in
    let cuts = sym (c.in_ok-look.ensures.cut items a b q.live cells item number) ∙ c.in-Some.is in
    let is = reply_cut (history_of items q.live.item) q c.in-Some.taken due cuts in
    let d = c.in_ok-line-in-Some.ensures.taken r q.live c.in-Some.taken st (asked_as r q true asked due)
    (ask ∙ ap (λ b. record { slot = ref_of q.live; due = b }) due) refl (cut_suits _ q.live.slot c.in-Some.taken cuts)
    (told_light c.args.session.now r q (history_of items q.live.item) st asked
    (g.met.S.ItemSlots.has_history c.args.slots.now items a b q.live cells) c.in-Some.taken cuts) in
    subst (λ (p : Reply). (c.found_in.result ≡ found_by p r.session.board.lines q.live)
    × g.S.ItemSlots.stands c.pass.new.self items (a ++ moved_by p q.live ∷ b)
    × StandsSession c.answer.new.self (replied_by p q.live r)) (sym is)
    (c.found_in.ensures ∙ ap found_in d.0, c.pass.ensures items a b q.live c.in-Some.taken cells item number cuts, d.1)
