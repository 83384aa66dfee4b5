use Rattle.std.proofs.Common.{◌≡◌, Bool, Some, true, false, not, refl, sym, ◌∙◌, ap, subst}
use Rattle.ls_record.specs.Records.{LiveSlot, history_of}
use Rattle.ls_event.specs.Cuts.{is_pending}
use Rattle.ls_session.specs.Record.{turned, waited}
use Rattle.ls_session.specs.Session.{StandsSession}
use Rattle.ls_session.specs.declared.session.Ask.{Ask}
use Rattle.ls_session.proofs.Replies.{question_parts}
use Rattle.ls_hub.proofs.Telling.{told_asking, told_held, told_cells, asked_is}
use Rattle.ls_hub.proofs.turning.hold_asked.Goals as goal

pub returns-then-not-ask-clause-held : goal.returns-then-not-ask-clause-held
returns-then-not-ask-clause-held c = λ holds now items epoch before behind r q h asked.
    let held = c.hold_pending.ensures.held holds items before behind (turned now epoch r).after h.session
    (told_cells now items epoch before behind r q c.args.session.now c.args.cells.now h) in
    let here = (question_parts (turned now epoch r).after q
    (asked_is now epoch r q (turned now epoch r).after (told_asking now items epoch before behind r q c.args.session.now c.args.cells.now h))).0 in
    let x : Some held.next.live ≡ Some q.live = sym held.next.found ∙ here in
    let same : held.next.live ≡ q.live = cc in
    told_held now items epoch before behind r q c.args.session.now c.args.cells.now h c.hold_pending.new.session
    (sym (ap (λ (a : Ask). a.due) asked) ∙ undue c.args.ask.due c.if-not-ask.true)
    (subst (λ (v : LiveSlot). is_pending (history_of items v.item) v.slot ≡ true) same held.next.pending)
    (subst (λ (v : LiveSlot). StandsSession c.hold_pending.new.session (waited (turned now epoch r).after v)) same held.session)
  where
    undue : (b : Bool) → not b ≡ true → b ≡ false
    undue true e = absurd (let x : false ≡ true = e in cc)
    undue false e = refl
