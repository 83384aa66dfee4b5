-- Why an entry is refused, by what is held and by the history.
use Rattle.std.proofs.Common.{◌≡◌, ℕ, ◌+◌, ◌<◌, ◌≤◌, List, length, refl, ◌∙◌, ap, subst, Bool, true, false, cond}
use Rattle.std.proofs.Common.{Option, Some, None, Result, nat_le, slice_index, option_map}
use Rattle.std.specs.Option.{option_or}
use Rattle.std.proofs.lemmas.Bool.{leb-false}
use Rattle.ls_value.specs.declared.limits.TheConstants.{GREATEST_NUMBER}
use Rattle.ls_event.specs.declared.event.Event.{Event}
use Rattle.ls_event.specs.declared.event.Entry.{Entry}
use Rattle.ls_event.specs.declared.event.PushRefused.{PushRefused}
use Rattle.ls_event.specs.declared.event.PublishRefused.{PublishRefused}
use Rattle.ls_event.specs.declared.event.PublishRefused.TheVariants as refused
use Rattle.ls_event.specs.declared.limits.TheConstants.{MOST_ADAPTERS}
use Rattle.ls_event.specs.History.{last_seq}
use Rattle.ls_event.specs.States.{state_at, push_refusal}
use Rattle.ls_event.specs.Publishes.{publish_cause, backlog_or, refusal}
use Rattle.ls_event.specs.Slots.{Slot}
use Rattle.ls_cell.specs.Numbered.{first_lagging}
use Rattle.ls_cell.specs.Any.{any_last, any_last_is}
use Rattle.ls_cell.specs.Standing.{StandsSlot}
use Rattle.ls_cell.specs.Cell.{Held, StandsCell, AnswersFirst, refusal_of, least_lagging}
use Rattle.ls_cell.proofs.Changes.{same_lagging}

-- where nothing stands against an event
pub record IsAdmitted (c : Held) (event : Event) : Type 0 where
  pub admitted : push_refusal c.item.shape c.item.state event ≡ None
  pub near : first_lagging any_last c.number 1 c.slots ≡ None
  pub few : c.number < GREATEST_NUMBER

-- the causes behind a repeated seq
abbrev rest_of : Option PushRefused → Option ℕ → Bool → Option PublishRefused
rest_of push lag spent = option_or (option_map publish_cause push)
    (backlog_or lag (cond spent (Some refused.Spent) None))

pub admitted_of : (c : Held) (e : Entry) → refusal_of c e ≡ None
    → IsAdmitted c e.event
admitted_of c e none = by_seq (nat_le e.seq (slice_index c.seqs e.adapter)) none
  where
    by_number : (v : Bool) → nat_le GREATEST_NUMBER c.number ≡ v → push_refusal c.item.shape c.item.state e.event ≡ None
        → first_lagging any_last c.number 1 c.slots ≡ None → cond v (Some refused.Spent) None ≡ None
        → IsAdmitted c e.event
    by_number true t admitted near x = cc
    by_number false t admitted near x = record {
      admitted = admitted;
      near = near;
      few =
          leb-false GREATEST_NUMBER c.number t;
    }

    by_lag : (o : Option ℕ) → first_lagging any_last c.number 1 c.slots ≡ o
        → push_refusal c.item.shape c.item.state e.event ≡ None
        → backlog_or o (cond (nat_le GREATEST_NUMBER c.number) (Some refused.Spent) None) ≡ None
        → IsAdmitted c e.event
    by_lag None is admitted x = by_number (nat_le GREATEST_NUMBER c.number) refl admitted is x
    by_lag (Some slot) is admitted x = cc

    by_push : (o : Option PushRefused) → push_refusal c.item.shape c.item.state e.event ≡ o
        → rest_of o (first_lagging any_last c.number 1 c.slots) (nat_le GREATEST_NUMBER c.number) ≡ None
        → IsAdmitted c e.event
    by_push None is x = by_lag (first_lagging any_last c.number 1 c.slots) refl is x
    by_push (Some cause) is x = cc

    by_seq : (v : Bool) → cond v (Some (refused.Repeated (slice_index c.seqs e.adapter)))
        (rest_of (push_refusal c.item.shape c.item.state e.event) (first_lagging any_last c.number 1 c.slots)
        (nat_le GREATEST_NUMBER c.number)) ≡ None → IsAdmitted c e.event
    by_seq true x = cc
    by_seq false x = by_push (push_refusal c.item.shape c.item.state e.event) refl x

-- the first cause of the order
abbrev first_of : ℕ → ℕ → Option PushRefused → Option ℕ → ℕ → Option PublishRefused
first_of seq last push lag number = cond (nat_le seq last) (Some (refused.Repeated last))
    (rest_of push lag (nat_le GREATEST_NUMBER number))

-- what is held and the history give one cause
pub refusal_is : (c : Held) (ss : List (Option Slot)) (h : List Entry) (e : Entry)
    → StandsCell c ss h → e.adapter ≤ MOST_ADAPTERS → refusal_of c e
    ≡ refusal c.item.shape h (least_lagging (length h) ss) e
refusal_is c ss h e st range =
    let lag : first_lagging any_last c.number 1 c.slots ≡ least_lagging (length h) ss =
    same_lagging (StandsSlot c.item.shape) any_last (λ b s g slot. any_last_is b s g slot.buffer) c.slots ss h
    c.number 1 st.slots ∙ ap (λ n. least_lagging n ss) st.number in
    ap (λ last. first_of e.seq last (push_refusal c.item.shape c.item.state e.event)
    (first_lagging any_last c.number 1 c.slots) c.number) (st.seqs e.adapter range)
    ∙ ap (λ state. first_of e.seq (last_seq e.adapter h) (push_refusal c.item.shape state e.event)
    (first_lagging any_last c.number 1 c.slots) c.number) st.state
    ∙ ap (λ o. first_of e.seq (last_seq e.adapter h) (push_refusal c.item.shape (state_at c.item.shape h (length h)) e.event)
    o c.number) lag
    ∙ ap (λ number. first_of e.seq (last_seq e.adapter h) (push_refusal c.item.shape (state_at c.item.shape h (length h))
    e.event) (least_lagging (length h) ss) number) st.number

-- so the answer is the history's first cause
pub first_cause : (c : Held) (ss : List (Option Slot)) (h : List Entry) (e : Entry)
    (r : Result ℕ PublishRefused) → StandsCell c ss h → e.adapter ≤ MOST_ADAPTERS
    → AnswersFirst (refusal_of c e) (c.number + 1) r
    → AnswersFirst (refusal c.item.shape h (least_lagging (length h) ss) e) (length h + 1) r
first_cause c ss h e r st range answer =
    subst (λ (n : ℕ). AnswersFirst (refusal c.item.shape h (least_lagging (length h) ss) e) (n + 1) r)
    st.number
    (subst (λ (o : Option PublishRefused). AnswersFirst o (c.number + 1) r)
    (refusal_is c ss h e st range) answer)
