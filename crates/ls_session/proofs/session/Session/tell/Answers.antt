use Rattle.std.proofs.Common.{◌≡◌, ◌≤◌, ◌<◌, ◌^◌, ℕ, List, ap, sym, ◌∙◌, subst, true, arith}
use Rattle.ls_value.specs.declared.limits.TheConstants.{GREATEST_TICK}
use Rattle.ls_turns.specs.Round.{gave}
use Rattle.ls_turns.specs.declared.slot_ref.SlotRef.{SlotRef}
use Rattle.ls_subs.specs.declared.cut_line.CutLine.TheVariants as tells
use Rattle.ls_session.specs.Asking.{with_gave}
use Rattle.ls_session.specs.Record.{answered}
use Rattle.ls_stream.specs.Standing.{NumbersLine}
use Rattle.ls_session.specs.Session.{StandsSession, SpendsText}
use Rattle.ls_session.specs.declared.session.Session.{Session as Kept}
use Rattle.ls_session.proofs.Replies.{asked_slot, question_parts, answered_silent, answered_line, tells_short, update_rate, other_rate}
use Rattle.ls_session.proofs.session.Session.tell.Goals as goal

pub returns-in-Nothing-clause-told : goal.returns-in-Nothing-clause-told
returns-in-Nothing-clause-told c = λ r v st is named suits light.
    let parts = question_parts r (record { live = v; due = true }) is in
    let tick : c.tick.result ≡ r.tick = c.tick.ensures ∙ st.round.tick in
    answered_silent c.args.self.now c.blank.new.self c.accept.new.self c.again.new.self r v c.args.taken
    (record { told = c.in_ok-told.told; before = c.in_ok-text.text.items; after = c.accept.new.text.items }) st
    c.in_ok-text.ensures.rest c.again.ensures c.in-Nothing.is parts.0 (sym parts.1) (λ f e. omega (arith, c.requires.later f e, st.round.tick))
    (c.in_ok-told.ensures.accepted (asked_slot r v) parts.0 (sym named) (sym tick) (subst (λ (n : ℕ). n ≤ GREATEST_TICK) (sym tick) st.round.most) suits
    st.subs)

pub returns-in-Update-clause-told : goal.returns-in-Update-clause-told
returns-in-Update-clause-told c = λ r v st is named suits light.
    let parts = question_parts r (record { live = v; due = true }) is in
    let tick : c.tick.result ≡ r.tick = c.tick.ensures ∙ st.round.tick in
    let k₁ : Kept = record c.args.self.now { lines = c.blank.new.self; subs = c.accept.new.self } in
    let whole : c.note.new.self ≡ record k₁ {
      lines = c.note.new.self.lines;
      asking = c.note.new.self.asking;
      bandwidth = c.spend.new.self.bandwidth;
    } = c.note.ensures.rest ∙ ap (λ (x : Kept). record x { lines = c.note.new.self.lines; asking = c.note.new.self.asking }) c.spend.ensures.rest in
    let p = answered_line c.args.self.now c.blank.new.self c.note.new.self.lines c.accept.new.self c.note.new.self.asking c.spend.new.self.bandwidth r v
    c.args.taken (record { told = c.in_ok-told.told; before = c.in_ok-text.text.items; after = c.accept.new.text.items }) st
    c.in_ok-text.ensures.rest
    (subst (λ (x : Kept). NumbersLine x.lines c.accept.new.text.items c.note.new.self.lines) c.spend.ensures.rest c.note.ensures.line)
    c.in_ok-text.ensures.items parts.0 (sym parts.1) (λ f e. omega (arith, c.requires.later f e, st.round.tick))
    (c.note.ensures.back ∙ ap (λ (x : Kept). with_gave (gave c.args.slot.sub c.args.slot.place x.asking.turns) x.asking) c.spend.ensures.rest
    ∙ ap (λ (s : SlotRef). with_gave (gave s.sub s.place c.args.self.now.asking.turns) c.args.self.now.asking) named)
    (λ e. absurd (let x : tells.Update ≡ tells.Nothing = sym c.in-Update.is ∙ e in cc))
    (λ what e. tells_short c.args.self.now r v c.args.taken what st parts.0 light
    (subst (λ (s : SlotRef). s.sub < 2 ^ 32) named c.are_small.ensures.0) (subst (λ (s : SlotRef). s.place < 2 ^ 32) named c.are_small.ensures.1) e)
    (λ what told text few. update_rate c.args.self.now c.spend.new.self.bandwidth r v c.args.taken what c.accept.new.text.items st (sym parts.1)
    (subst (λ (t : List ℕ). SpendsText t c.args.self.now.asking.tick c.args.self.now.bandwidth c.spend.new.self.bandwidth) c.deref.ensures.value
    c.spend.ensures.spent) (sym c.in-Update.is ∙ told) text few)
    (c.in_ok-told.ensures.accepted (asked_slot r v) parts.0 (sym named) (sym tick) (subst (λ (n : ℕ). n ≤ GREATEST_TICK) (sym tick) st.round.most) suits
    st.subs) in
    (p.0, subst (λ (x : Kept). StandsSession x (answered r v c.args.taken)) (sym whole) p.1)

pub returns-in-Other-clause-told : goal.returns-in-Other-clause-told
returns-in-Other-clause-told c = λ r v st is named suits light.
    let parts = question_parts r (record { live = v; due = true }) is in
    let tick : c.tick.result ≡ r.tick = c.tick.ensures ∙ st.round.tick in
    let p = answered_line c.args.self.now c.blank.new.self c.note-in-Other.new.self.lines c.accept.new.self c.note-in-Other.new.self.asking
    c.args.self.now.bandwidth r v
    c.args.taken (record { told = c.in_ok-told.told; before = c.in_ok-text.text.items; after = c.accept.new.text.items }) st
    c.in_ok-text.ensures.rest c.note-in-Other.ensures.line
    c.in_ok-text.ensures.items parts.0 (sym parts.1) (λ f e. omega (arith, c.requires.later f e, st.round.tick))
    (c.note-in-Other.ensures.back
    ∙ ap (λ (s : SlotRef). with_gave (gave s.sub s.place c.args.self.now.asking.turns) c.args.self.now.asking) named)
    (λ e. absurd (let x : tells.Other ≡ tells.Nothing = sym c.in-Other.is ∙ e in cc))
    (λ what e. tells_short c.args.self.now r v c.args.taken what st parts.0 light
    (subst (λ (s : SlotRef). s.sub < 2 ^ 32) named c.are_small.ensures.0) (subst (λ (s : SlotRef). s.place < 2 ^ 32) named c.are_small.ensures.1) e)
    (λ what told text few. other_rate c.args.self.now r v c.args.taken what st (sym c.in-Other.is ∙ told))
    (c.in_ok-told.ensures.accepted (asked_slot r v) parts.0 (sym named) (sym tick) (subst (λ (n : ℕ). n ≤ GREATEST_TICK) (sym tick) st.round.most) suits
    st.subs) in
    (p.0, subst (λ (x : Kept). StandsSession x (answered r v c.args.taken)) (sym c.note-in-Other.ensures.rest) p.1)
