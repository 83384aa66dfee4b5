-- Histories as they grow.
use Rattle.std.proofs.Common.{◌≡◌, ◌==◌, ℕ, ◌+◌, ◌<◌, List, [], ◌∷◌, ◌++◌, length, take, refl, sym, ◌∙◌, ap, subst, arith, cond, Bool, true, false, Option}
use Rattle.std.proofs.Common.{None, Some, nat_le, option_map, append_assoc, append-nil}
use Rattle.std.specs.Option.{option_or}
use Rattle.std.proofs.lemmas.List.{length-append, take-append-le, take_all}
use Rattle.std.proofs.lemmas.Bool.{leb-false}
use Rattle.ls_value.specs.declared.limits.TheConstants.{GREATEST_NUMBER}
use Rattle.ls_event.specs.declared.event.Entry.{Entry}
use Rattle.ls_event.specs.declared.event.PushRefused.{PushRefused}
use Rattle.ls_event.specs.declared.event.PublishRefused.TheVariants as refused
use Rattle.ls_event.specs.Shapes.{Shape}
use Rattle.ls_event.specs.History.{HasFields, last_seq, last_seq_from}
use Rattle.ls_event.specs.States.{state_at, push_refusal}
use Rattle.ls_event.specs.Publishes.{publish_cause, backlog_or, refusal, MayFollow, EachFollows, IsHistory}

-- an entry at the end is the next one
pub next_at_end : (h : List Entry) (e : Entry) → take (length h + 1) (h ++ e ∷ []) ≡ take (length h) (h ++ e ∷ []) ++ e ∷ []
next_at_end h e =
    take_all (length h + 1) (h ++ e ∷ []) (omega (arith, length-append h (e ∷ [])))
    ∙ ap (λ xs. xs ++ e ∷ []) (sym (take-append-le (length h) h (e ∷ []) (omega arith) ∙ take_all (length h) h (omega arith)))

-- the last seq after one more entry
last_seq_from-append : (seq adapter : ℕ) (h : List Entry) (e : Entry) → last_seq_from seq adapter (h ++ e ∷ [])
    ≡ cond (e.adapter == adapter) e.seq (last_seq_from seq adapter h)
last_seq_from-append seq adapter [] e = refl
last_seq_from-append seq adapter (x ∷ h) e = last_seq_from-append (cond (x.adapter == adapter) x.seq seq) adapter h e

pub last_seq-append : (adapter : ℕ) (h : List Entry) (e : Entry) → last_seq adapter (h ++ e ∷ []) ≡ cond (e.adapter == adapter) e.seq (last_seq adapter h)
last_seq-append adapter h e = last_seq_from-append 0 adapter h e

-- one entry more may follow
each_more : (p : Shape) (before es : List Entry) (e : Entry) → EachFollows p before es → MayFollow p (before ++ es) e → EachFollows p before (es ++ e ∷ [])
each_more p before [] e each m = (subst (λ (h : List Entry). MayFollow p h e) (append-nil before) m, tt)
each_more p before (x ∷ es) e each m =
    (each.0, each_more p (before ++ x ∷ []) es e each.1 (subst (λ (h : List Entry). MayFollow p h e) (sym (append_assoc before (x ∷ []) es)) m))

-- why an entry isn't refused
pub record Admitted (p : Shape) (h : List Entry) (far : Option ℕ) (e : Entry) : Type 0 where
  pub rises : last_seq e.adapter h < e.seq
  pub admitted : push_refusal p (state_at p h (length h)) e.event ≡ None
  pub near : far ≡ None
  pub few : length h < GREATEST_NUMBER

pub admitted : (p : Shape) (h : List Entry) (far : Option ℕ) (e : Entry) → refusal p h far e ≡ None
    → Admitted p h far e
admitted p h far e none = by_seq (nat_le e.seq (last_seq e.adapter h)) refl none
  where
    by_number : (v : Bool) → nat_le GREATEST_NUMBER (length h) ≡ v → last_seq e.adapter h < e.seq → push_refusal p (state_at p h (length h)) e.event ≡ None
        → far ≡ None → cond v (Some refused.Spent) None ≡ None → Admitted p h far e
    by_number true t rises fits near x = cc
    by_number false t rises fits near x = record { rises = rises; admitted = fits; near = near; few = leb-false GREATEST_NUMBER (length h) t }

    by_far : (o : Option ℕ) → far ≡ o → last_seq e.adapter h < e.seq → push_refusal p (state_at p h (length h)) e.event ≡ None
        → backlog_or o (cond (nat_le GREATEST_NUMBER (length h)) (Some refused.Spent) None) ≡ None → Admitted p h far e
    by_far None is rises fits x = by_number (nat_le GREATEST_NUMBER (length h)) refl rises fits is x
    by_far (Some slot) is rises fits x = cc

    by_push : (o : Option PushRefused) → push_refusal p (state_at p h (length h)) e.event ≡ o → last_seq e.adapter h < e.seq
        → option_or (option_map publish_cause o) (backlog_or far (cond (nat_le GREATEST_NUMBER (length h)) (Some refused.Spent) None)) ≡ None
        → Admitted p h far e
    by_push None is rises x = by_far far refl rises is x
    by_push (Some cause) is rises x = cc

    by_seq : (v : Bool) → nat_le e.seq (last_seq e.adapter h) ≡ v → cond v (Some (refused.Repeated (last_seq e.adapter h)))
        (option_or (option_map publish_cause (push_refusal p (state_at p h (length h)) e.event))
        (backlog_or far (cond (nat_le GREATEST_NUMBER (length h)) (Some refused.Spent) None))) ≡ None → Admitted p h far e
    by_seq true t x = cc
    by_seq false t x = by_push (push_refusal p (state_at p h (length h)) e.event) refl (leb-false e.seq (last_seq e.adapter h) t) x

-- a history with one more entry that isn't refused
pub history_grown : (p : Shape) (h : List Entry) (far : Option ℕ) (e : Entry) → IsHistory p h → HasFields p.fields e.event
    → refusal p h far e ≡ None → IsHistory p (h ++ e ∷ [])
history_grown p h far e is fits none =
    let a : Admitted p h far e = admitted p h far e none in
    record {
      few = omega (arith, a.few, length-append h (e ∷ []));
      each = each_more p [] h e is.each (record { fits = fits; admitted = a.admitted; rises = a.rises });
    }
