-- What a question's slot tells: its cut is light, and the reply to the question by whether it is due.
use Rattle.std.proofs.Common.{◌≡◌, List, subst, refl, ◌∙◌, ap, cond, Bool, true, false, Option, None, Some, is_some}
use Rattle.ls_event.specs.declared.event.Entry.{Entry}
use Rattle.ls_event.specs.declared.event.Taken.{Taken}
use Rattle.ls_event.specs.Cuts.{cut, is_pending}
use Rattle.ls_event.specs.Publishes.{IsHistory}
use Rattle.ls_record.specs.Cases.{with_found}
use Rattle.ls_record.specs.Light.{IsLight}
use Rattle.ls_record.specs.Lines.{Line}
use Rattle.ls_record.specs.Records.{LiveSlot}
use Rattle.ls_record.proofs.Weights.{cut_is_light}
use Rattle.ls_subs.specs.declared.plan.PlanItem.{PlanItem}
use Rattle.ls_subs.specs.Kept.{kept_at}
use Rattle.ls_subs.specs.Standing.{StandsKept, StandsKeptAt, what_of}
use Rattle.ls_subs.proofs.Moves.{found_live}
use Rattle.ls_session.specs.Record.{Record, Question, question_of}
use Rattle.ls_session.specs.Session.{StandsSession}
use Rattle.ls_session.specs.declared.session.Session.{Session as Kept}
use Rattle.ls_session.specs.declared.session.Reply.{Reply}
use Rattle.ls_session.specs.declared.session.Reply.TheVariants as reply
use Rattle.ls_session.proofs.Replies.{question_parts}
use Rattle.ls_acts.specs.Telling.{reply_to, found_by, found_in}
use Rattle.ls_acts.specs.declared.telling.Found.TheVariants as found

-- what is kept of a slot of a round
record KeptOf (lines : List Line) (v : LiveSlot) : Type 0 where
  item : PlanItem
  stands : StandsKept item lines v

kept_of : (o : Option PlanItem) (lines : List Line) (v : LiveSlot) → StandsKeptAt o lines (Some v) → KeptOf lines v
kept_of None lines v st = absurd st
kept_of (Some k) lines v st = record { item = k; stands = st }

pub told_light : (k : Kept) (r : Record) (q : Question) (h : List Entry) → StandsSession k r → question_of r ≡ Some q
    → IsHistory q.live.slot.plan.shape h → (t : Taken) → cut h q.live.slot ≡ Some t → IsLight q.live.wanted.places t
told_light k r q h st asked history t is =
    let kept = kept_of (kept_at k.subs q.live.sub q.live.rank) r.session.board.lines q.live
    (subst (StandsKeptAt (kept_at k.subs q.live.sub q.live.rank) r.session.board.lines)
    (found_live r.asked r.session.board.round q.live st.subs.apart (question_parts r q asked).0) (st.subs.at q.live.sub q.live.rank)) in
    cut_is_light q.live.slot.plan.shape h q.live.slot q.live.wanted.places t history refl kept.stands.allowed kept.stands.narrow is

-- the question with what is known of whether its slot is due
pub asked_as : (r : Record) (q : Question) (due : Bool) → question_of r ≡ Some q → q.due ≡ due
    → question_of r ≡ Some (record { live = q.live; due = due })
asked_as r q due is same = is ∙ ap (λ b. Some (record { live = q.live; due = b })) same

-- the replies
reply_due : (h : List Entry) (q : Question) (o : Option Taken) → q.due ≡ true → cut h q.live.slot ≡ o
    → reply_to h q ≡ with_found o reply.Nothing (λ t. reply.Taken t)
reply_due h q o due is =
    ap (λ b. cond b (with_found (cut h q.live.slot) reply.Nothing (λ t. reply.Taken t)) (cond (is_pending h q.live.slot) reply.Waiting reply.Nothing)) due
    ∙ ap (λ x. with_found x reply.Nothing (λ t. reply.Taken t)) is

pub reply_none : (h : List Entry) (q : Question) → q.due ≡ true → cut h q.live.slot ≡ None → reply_to h q ≡ reply.Nothing
reply_none h q due is = reply_due h q None due is

pub reply_cut : (h : List Entry) (q : Question) (t : Taken) → q.due ≡ true → cut h q.live.slot ≡ Some t → reply_to h q ≡ reply.Taken t
reply_cut h q t due is = reply_due h q (Some t) due is

reply_undue : (h : List Entry) (q : Question) (b : Bool) → q.due ≡ false → is_pending h q.live.slot ≡ b
    → reply_to h q ≡ cond b reply.Waiting reply.Nothing
reply_undue h q b undue is =
    ap (λ d. cond d (with_found (cut h q.live.slot) reply.Nothing (λ t. reply.Taken t)) (cond (is_pending h q.live.slot) reply.Waiting reply.Nothing)) undue
    ∙ ap (λ x. cond x reply.Waiting reply.Nothing) is

pub reply_waits : (h : List Entry) (q : Question) → q.due ≡ false → is_pending h q.live.slot ≡ true → reply_to h q ≡ reply.Waiting
reply_waits h q undue is = reply_undue h q true undue is

pub reply_quiet : (h : List Entry) (q : Question) → q.due ≡ false → is_pending h q.live.slot ≡ false → reply_to h q ≡ reply.Nothing
reply_quiet h q undue is = reply_undue h q false undue is

-- what a reply says of its slot
abbrev reply_by : Bool → Option Taken → Bool → Reply
reply_by due o pends = cond due (with_found o reply.Nothing (λ t. reply.Taken t)) (cond pends reply.Waiting reply.Nothing)

pub nothing_replied : (h : List Entry) (q : Question) → reply_to h q ≡ reply.Nothing
    → (q.due ≡ true → cut h q.live.slot ≡ None) × (q.due ≡ false → is_pending h q.live.slot ≡ false)
nothing_replied h q is = by_parts q.due (cut h q.live.slot) (is_pending h q.live.slot) is
  where
    by_parts : (due : Bool) (o : Option Taken) (pends : Bool) → reply_by due o pends ≡ reply.Nothing
        → (due ≡ true → o ≡ None) × (due ≡ false → pends ≡ false)
    by_parts true None pends e = (λ d. refl, λ d. absurd (let x : true ≡ false = d in cc))
    by_parts true (Some t) pends e = absurd (let x : reply.Taken t ≡ reply.Nothing = e in cc)
    by_parts false o true e = absurd (let x : reply.Waiting ≡ reply.Nothing = e in cc)
    by_parts false o false e = (λ d. absurd (let x : false ≡ true = d in cc), λ d. refl)

pub waiting_replied : (h : List Entry) (q : Question) → reply_to h q ≡ reply.Waiting → (q.due ≡ false) × (is_pending h q.live.slot ≡ true)
waiting_replied h q is = by_parts q.due (cut h q.live.slot) (is_pending h q.live.slot) is
  where
    by_parts : (due : Bool) (o : Option Taken) (pends : Bool) → reply_by due o pends ≡ reply.Waiting → (due ≡ false) × (pends ≡ true)
    by_parts true None pends e = absurd (let x : reply.Nothing ≡ reply.Waiting = e in cc)
    by_parts true (Some t) pends e = absurd (let x : reply.Taken t ≡ reply.Waiting = e in cc)
    by_parts false o true e = (refl, refl)
    by_parts false o false e = absurd (let x : reply.Nothing ≡ reply.Waiting = e in cc)

pub taken_replied : (h : List Entry) (q : Question) (t : Taken) → reply_to h q ≡ reply.Taken t → (q.due ≡ true) × (cut h q.live.slot ≡ Some t)
taken_replied h q t is = by_parts q.due (cut h q.live.slot) (is_pending h q.live.slot) is
  where
    by_parts : (due : Bool) (o : Option Taken) (pends : Bool) → reply_by due o pends ≡ reply.Taken t → (due ≡ true) × (o ≡ Some t)
    by_parts true None pends e = absurd (let x : reply.Nothing ≡ reply.Taken t = e in cc)
    by_parts true (Some u) pends e = let x : reply.Taken u ≡ reply.Taken t = e in (refl, cc)
    by_parts false o true e = absurd (let x : reply.Waiting ≡ reply.Taken t = e in cc)
    by_parts false o false e = absurd (let x : reply.Nothing ≡ reply.Taken t = e in cc)

-- a slot had nothing only where that is the reply
pub found_nothing : (p : Reply) (lines : List Line) (v : LiveSlot) → found_by p lines v ≡ found.Nothing → p ≡ reply.Nothing
found_nothing reply.Nothing lines v is = refl
found_nothing reply.Waiting lines v is = absurd (let x : found.Waits ≡ found.Nothing = is in cc)
found_nothing (reply.Taken t) lines v is = absurd (by_line (is_some (what_of lines v t)) is)
  where
    by_line : (b : Bool) → found_in b ≡ found.Nothing → ⊥
    by_line true e = let x : found.Line ≡ found.Nothing = e in cc
    by_line false e = let x : found.Silent ≡ found.Nothing = e in cc
