-- A session's turn: how it ends, and the question that stands where it doesn't.
use Rattle.std.proofs.Common.{◌≡◌, ◌⊎◌, ℕ, List, [], ◌∷◌, ◌++◌, inl, inr, length, Bool, true, false, ◌&&◌, nat_lt, nat_le, Option, None, Some}
use Rattle.std.proofs.Common.{refl, sym, ap, subst, ◌∙◌, slice_get, option_map, if◌then◌else◌}
use mathlib.Core.List.{IsPrefix}
use Rattle.ls_chron.proofs.Beginnings.{prefix_self, prefix_trans}
use Rattle.ls_value.specs.declared.limits.TheConstants.{GREATEST_NUMBER}
use Rattle.ls_event.specs.declared.event.Entry.{Entry}
use Rattle.ls_event.specs.declared.item.ItemDef.{ItemDef}
use Rattle.ls_record.specs.Records.{LiveSlot, Life, Alive, Ending, Closed, is_due, is_to_loop, is_unsent, is_bound}
use Rattle.ls_register.specs.declared.told.Told.{Told}
use Rattle.ls_register.specs.declared.told.Told.TheVariants.{Gave}
use Rattle.ls_session.specs.declared.session.Ask.{Ask as Asking}
use Rattle.ls_session.specs.declared.session.Session.{Session as Kept}
use Rattle.ls_session.specs.declared.session.Turn.{Turn}
use Rattle.ls_session.specs.declared.session.Turn.TheVariants as turn
use Rattle.ls_session.specs.Record.{Record, Question, Turned, Gives, Send, Asks, Idle, NotDue, Spent, Superseded, Unbound, Ended}
use Rattle.ls_session.specs.Record.{question_of, round_asked, waits_until, round_turned, next_turned, owed_turned, bound_turned, gives_unbound, turned}
use Rattle.ls_session.specs.Record.{wait_from, from_place}
use Rattle.ls_session.specs.Session.{AnswersTurn, ask_in}
use Rattle.ls_told.specs.Spoken.{spoken_of}
use Rattle.ls_told.specs.Heard.{heard, counts_as}
use Rattle.ls_told.specs.Seen.{Watched}
use Rattle.ls_told.specs.Requests.{HasBound}
use Rattle.ls_told.specs.Turns.{HasEnded, IsSilent, SpokeInTime, IsSpent, IsUnbound, probe_text}
use Rattle.ls_live_session.specs.Groups.{SubSeen}
use Rattle.ls_live_session.specs.Lives.{Lives, LivesAs}
use Rattle.ls_live_session.specs.Giving.{GivesNext, StaysStill, given, speaks}
use Rattle.ls_live_session.specs.Giving.{Gives as GivesTurn}
use Rattle.ls_live_session.specs.Taking.{IsAskedFrom}
use Rattle.ls_live_session.specs.Replying.{Replies}
use Rattle.ls_live_session.proofs.Ahead.{asks_that}
use Rattle.ls_shared.specs.Asking.{QuietRound}
use Rattle.ls_shared.specs.Taking.{EndsQuiet, EndsTurn, GaveLast, GaveProbe, GivesNone}
use Rattle.ls_shared.proofs.Grown.{newer_there}

-- a property of both branches
pick : {A : Type 0} (P : A → Type 0) (b : Bool) (x y : A) → P x → P y → P (if b then x else y)
pick P true x y p q = p
pick P false x y p q = q

-- where a turn asks, its question stands then, at its tick
module _ (now : ℕ) (q : Question) where
  abbrev Stood : Turned → Type 0
  Stood t = t.gives ≡ Asks q → (question_of t.after ≡ Some q) × (t.after.tick ≡ now)

  abbrev asking : Record → LiveSlot → Question
  asking r u = record { live = u; due = is_due now r.session u }

  round_stood : (wait : Option ℕ) (r : Record) (n : ℕ) (o : Option LiveSlot) → slice_get r.session.board.round n ≡ o
      → Stood (round_asked now wait r n o)
  round_stood None r n None at = λ g. absurd (let x : Idle ≡ Asks q = g in cc)
  round_stood (Some w) r n None at = λ g. absurd (let x : NotDue w ≡ Asks q = g in cc)
  round_stood wait r n (Some v) at =
      pick Stood (is_due now r.session v && nat_le GREATEST_NUMBER (length r.session.board.lines)) _ _
      (λ g. absurd (let x : Spent ≡ Asks q = g in cc))
      (λ g. (
        ap (option_map (asking r)) at ∙ (let x : Asks (record { live = v; due = is_due now r.session v }) ≡ Asks q = g in cc),
        refl,
      ))

  pub round_question : (r : Record) → Stood (round_turned now r)
  round_question r = round_stood (wait_from now r) r (from_place now r) (slice_get r.session.board.round (from_place now r)) refl

  owed_stood : (r : Record) (owed : List (List ℕ)) → Stood (owed_turned now r owed)
  owed_stood r (text ∷ owed) = λ g. absurd (let x : Send text ≡ Asks q = g in cc)
  owed_stood r [] =
      pick Stood (is_to_loop r.session.streams) _ _ (λ g. absurd (let x : Send _ ≡ Asks q = g in cc))
      (pick Stood (is_unsent r.session) _ _ (λ g. absurd (let x : Send _ ≡ Asks q = g in cc)) (round_question r))

  bound_stood : (r : Record) (life : Life) → Stood (bound_turned now r life)
  bound_stood r Alive = owed_stood r r.session.owed
  bound_stood r (Ending code) = λ g. absurd (let x : Send _ ≡ Asks q = g in cc)
  bound_stood r (Closed code) = λ g. absurd (let x : Ended code ≡ Asks q = g in cc)

  unbound_stood : (r : Record) (life : Life) → gives_unbound life ≡ Asks q → ⊥
  unbound_stood r Alive g = absurd (let x : Unbound ≡ Asks q = g in cc)
  unbound_stood r (Ending code) g = absurd (let x : Ended code ≡ Asks q = g in cc)
  unbound_stood r (Closed code) g = absurd (let x : Ended code ≡ Asks q = g in cc)

  pub given_stood : (entries epoch : ℕ) (r : Record) → Stood (given entries now epoch r)
  given_stood entries epoch r =
      pick Stood (nat_le GREATEST_NUMBER entries && speaks epoch (spoken_of r.session)) _ _
      (λ g. absurd (let x : Spent ≡ Asks q = g in cc))
      (pick Stood (nat_lt epoch (length r.session.streams)) _ _ (λ g. absurd (let x : Superseded _ ≡ Asks q = g in cc))
      (pick Stood (is_bound r.session) _ _ (bound_stood r r.session.life) (λ g. absurd (unbound_stood r r.session.life g))))

module _ (config : List ItemDef) (number epoch now : ℕ) (before es : List Told) (ws : List Watched) (subs : List SubSeen) (k : Kept)
    (r : Record) (answer : Turn) (text : List ℕ) (g : GivesTurn config number epoch now before es ws subs k r answer text) where
  pub gave_lives : Lives config number es ws subs k
  gave_lives = ((given (length before) (counts_as now before) epoch r).after, g.lives)

  -- the question stands
  pub gave_asked : (ask : Asking) → answer ≡ turn.Ask ask
      → (r' : Record) × (q : Question) × IsAskedFrom config number es ws subs k r' q ask now
  gave_asked ask is =
      let that = asks_that (given (length before) (counts_as now before) epoch r).gives answer k ask g.answers is in
      let stood = given_stood (counts_as now before) that.0 (length before) epoch r that.1 in
      let still : es ≡ before = g.stays (λ sent. absurd (let x : turn.Send ≡ turn.Ask ask = sym sent ∙ is in cc)) in (
        (given (length before) (counts_as now before) epoch r).after,
        that.0,
        record { lives = g.lives; asks = stood.0; ask_is = that.2; tick = stood.1 ∙ ap (counts_as now) (sym still) },
      )

  pub gave_still : (ask : Asking) → answer ≡ turn.Ask ask → StaysStill number epoch es
  gave_still ask is =
      subst (StaysStill number epoch)
      (sym (g.stays (λ sent. absurd (let x : turn.Send ≡ turn.Ask ask = sym sent ∙ is in cc)))) (g.asks ask is)

  pub gave_begins : IsPrefix before es
  gave_begins = by_answer answer refl
    where
      by_answer : (t : Turn) → answer ≡ t → IsPrefix before es
      by_answer turn.Send is = (_, sym (g.sent is).lines)
      by_answer (turn.Ask ask) is = subst (IsPrefix before) (sym (g.stays (λ s. absurd (let x : turn.Send ≡ turn.Ask ask = sym s ∙ is in cc)))) (prefix_self before)
      by_answer turn.Idle is = subst (IsPrefix before) (sym (g.stays (λ s. absurd (let x : turn.Send ≡ turn.Idle = sym s ∙ is in cc)))) (prefix_self before)
      by_answer (turn.NotDue at) is = subst (IsPrefix before) (sym (g.stays (λ s. absurd (let x : turn.Send ≡ turn.NotDue at = sym s ∙ is in cc)))) (prefix_self before)
      by_answer (turn.Ended code) is = subst (IsPrefix before) (sym (g.stays (λ s. absurd (let x : turn.Send ≡ turn.Ended code = sym s ∙ is in cc)))) (prefix_self before)
      by_answer (turn.Superseded e) is = subst (IsPrefix before) (sym (g.stays (λ s. absurd (let x : turn.Send ≡ turn.Superseded e = sym s ∙ is in cc)))) (prefix_self before)
      by_answer turn.Unbound is = subst (IsPrefix before) (sym (g.stays (λ s. absurd (let x : turn.Send ≡ turn.Unbound = sym s ∙ is in cc)))) (prefix_self before)
      by_answer turn.Spent is = subst (IsPrefix before) (sym (g.stays (λ s. absurd (let x : turn.Send ≡ turn.Spent = sym s ∙ is in cc)))) (prefix_self before)

  -- an answer that ends the turn
  pub gave_ends : (held : List Watched) (t : Turn) → answer ≡ t → ((ask : Asking) → t ≡ turn.Ask ask → ⊥)
      → (t ≡ turn.Idle → ⊥) → ((at : ℕ) → t ≡ turn.NotDue at → ⊥)
      → EndsTurn config number epoch now held before es ws text t
  gave_ends held turn.Send is asks idle late = record { before = before; begins = prefix_self before; gave = inl (g.sent is) }
  gave_ends held (turn.Ask ask) is asks idle late = absurd (asks ask refl)
  gave_ends held turn.Idle is asks idle late = absurd (idle refl)
  gave_ends held (turn.NotDue at) is asks idle late = absurd (late at refl)
  gave_ends held (turn.Ended code) is asks idle late =
      subst (HasEnded number code) (sym (g.stays (λ s. absurd (let x : turn.Send ≡ turn.Ended code = sym s ∙ is in cc)))) (g.ended code is)
  gave_ends held (turn.Superseded e) is asks idle late =
      let still = g.stays (λ s. absurd (let x : turn.Send ≡ turn.Superseded e = sym s ∙ is in cc)) in
      let said = g.superseded e is in (
        said.0,
        newer_there number epoch e es g.lives.told.counts said.0 (said.1 ∙ ap (λ (l : List Told). length (heard number l).streams) (sym still)),
      )
  gave_ends held turn.Unbound is asks idle late =
      subst (IsUnbound number) (sym (g.stays (λ s. absurd (let x : turn.Send ≡ turn.Unbound = sym s ∙ is in cc)))) (g.unbound is)
  gave_ends held turn.Spent is asks idle late =
      subst (IsSpent number) (sym (g.stays (λ s. absurd (let x : turn.Send ≡ turn.Spent = sym s ∙ is in cc)))) (g.spent is)

  -- one that gives nothing
  pub gave_none : (held : List Watched) → answer ≡ turn.Idle → QuietRound config number es held ws (counts_as now es) None
      → EndsQuiet config number epoch now held es ws turn.Idle
  gave_none held is quiet =
      record {
        still = subst (StaysStill number epoch) (sym (g.stays (λ s. absurd (let x : turn.Send ≡ turn.Idle = sym s ∙ is in cc)))) (g.idle is);
        quiet = quiet;
      }

  pub gave_late : (held : List Watched) (at : ℕ) → answer ≡ turn.NotDue at → QuietRound config number es held ws (counts_as now es) (Some at)
      → EndsQuiet config number epoch now held es ws (turn.NotDue at)
  gave_late held at is quiet =
      record {
        still =
            subst (StaysStill number epoch) (sym (g.stays (λ s. absurd (let x : turn.Send ≡ turn.NotDue at = sym s ∙ is in cc)))) (g.not_due at is);
        quiet = quiet;
      }

-- a turn that ends so ends so behind a shorter history too
pub ends_later : (config : List ItemDef) (number epoch now : ℕ) (held : List Watched) (old mid new : List Told) (ws : List Watched) (text : List ℕ) (t : Turn)
    → IsPrefix old mid → EndsTurn config number epoch now held mid new ws text t → EndsTurn config number epoch now held old new ws text t
ends_later config number epoch now held old mid new ws text turn.Send begins e =
    record { before = e.before; begins = prefix_trans old mid e.before begins e.begins; gave = e.gave }
ends_later config number epoch now held old mid new ws text (turn.Ask ask) begins e = e
ends_later config number epoch now held old mid new ws text turn.Idle begins e = e
ends_later config number epoch now held old mid new ws text (turn.NotDue at) begins e = e
ends_later config number epoch now held old mid new ws text (turn.Ended code) begins e = e
ends_later config number epoch now held old mid new ws text (turn.Superseded newest) begins e = e
ends_later config number epoch now held old mid new ws text turn.Unbound begins e = e
ends_later config number epoch now held old mid new ws text turn.Spent begins e = e

-- a slot that was asked told, or not
module _ (config : List ItemDef) (number : ℕ) (before es : List Told) (ws : List Watched) (subs : List SubSeen) (k : Kept) where
  pub replied_lives : (r : Record) (q : Question) (h : List Entry) (told : Bool) → Replies config number before es ws subs k r q h told
      → Lives config number es ws subs k
  replied_lives r q h told t = (_, t.lives)

  pub replied_begins : (r : Record) (q : Question) (h : List Entry) (told : Bool) → Replies config number before es ws subs k r q h told
      → IsPrefix before es
  replied_begins r q h told t = by_told told refl
    where
      by_told : (b : Bool) → told ≡ b → IsPrefix before es
      by_told true is = (_, sym (t.line is).lines)
      by_told false is = subst (IsPrefix before) (sym (t.none is)) (prefix_self before)

  pub either_lives : (r s : Record) → es ≡ before
      → LivesAs config number before ws subs k r ⊎ LivesAs config number before ws subs k s → Lives config number es ws subs k
  either_lives r s is (inl l) = (r, subst (λ (e : List Told). LivesAs config number e ws subs k r) (sym is) l)
  either_lives r s is (inr l) = (s, subst (λ (e : List Told). LivesAs config number e ws subs k s) (sym is) l)

-- a question of parts stands of parts that are the same
pub asked_same : (config : List ItemDef) (number number' : ℕ) (es es' : List Told) (ws ws' : List Watched) (subs subs' : List SubSeen) (k k' : Kept)
    (ask : Asking) (now : ℕ) → number' ≡ number → es' ≡ es → ws' ≡ ws → subs' ≡ subs → k' ≡ k
    → (r : Record) × (q : Question) × IsAskedFrom config number es ws subs k r q ask now
    → (r : Record) × (q : Question) × IsAskedFrom config number' es' ws' subs' k' r q ask now
asked_same config number number' es es' ws ws' subs subs' k k' ask now n e w s x asked =
    subst
    (λ (t : ℕ × List Told × List Watched × List SubSeen × Kept). (r : Record) × (q : Question) × IsAskedFrom config t.0 t.1 t.2 t.3 t.4 r q ask now)
    (λ i. (sym n i, sym e i, sym w i, sym s i, sym x i)) asked

pub lives_same : (config : List ItemDef) (number number' : ℕ) (es : List Told) (ws ws' : List Watched) (subs subs' : List SubSeen) (k : Kept)
    → number' ≡ number → ws' ≡ ws → subs' ≡ subs → Lives config number es ws subs k → Lives config number' es ws' subs' k
lives_same config number number' es ws ws' subs subs' k n w s lives =
    subst (λ (t : ℕ × List Watched × List SubSeen). Lives config t.0 es t.1 t.2 k) (λ i. (sym n i, sym w i, sym s i)) lives

-- a turn that gives nothing, or PROBE in its place
pub quiet_ends : (config : List ItemDef) (number number' epoch now : ℕ) (held : List Watched) (old mid new : List Told) (ws ws' ws2 : List Watched) (text : List ℕ)
    (quiet t : Turn) → number' ≡ number → ws' ≡ ws → ws2 ≡ ws' → IsPrefix old mid → EndsQuiet config number epoch now held mid ws quiet
    → (EndsQuiet config number' epoch now held mid ws' quiet → EndsTurn config number' epoch now held mid new ws' text t)
    → EndsTurn config number epoch now held old new ws2 text t
quiet_ends config number number' epoch now held old mid new ws ws' ws2 text quiet t n w w2 begins none probe =
    let there = probe (subst (λ (q : ℕ × List Watched). EndsQuiet config q.0 epoch now held mid q.1 quiet) (λ i. (sym n i, sym w i)) none) in
    ends_later config number epoch now held old mid new ws2 text t begins
    (subst (λ (q : ℕ × List Watched). EndsTurn config q.0 epoch now held mid new q.1 text t) (λ i. (n i, sym w2 i)) there)

pub probe_ends : (config : List ItemDef) (number epoch now : ℕ) (held : List Watched) (es new : List Told) (ws : List Watched) (text : List ℕ) (quiet : Turn)
    → IsSilent epoch (counts_as now es) es → text ≡ probe_text → new ≡ es ++ Gave epoch probe_text (counts_as now es) ∷ []
    → EndsQuiet config number epoch now held es ws quiet → EndsTurn config number epoch now held es new ws text turn.Send
probe_ends config number epoch now held es new ws text quiet silent text_is lines none =
    record { before = es; begins = prefix_self es; gave = inr (by_turn quiet none) }
  where
    given_so : (wait : Option ℕ) → GivesNone config number epoch now held es ws wait → GaveProbe config number epoch now held es new ws text
    given_so wait g =
        record {
          wait = wait;
          none = g;
          silent = silent;
          text_is = text_is;
          lines = lines ∙ ap (λ (t : List ℕ). es ++ Gave epoch t (counts_as now es) ∷ []) (sym text_is);
        }

    by_turn : (t : Turn) → EndsQuiet config number epoch now held es ws t → GaveProbe config number epoch now held es new ws text
    by_turn turn.Send g = absurd g
    by_turn (turn.Ask ask) g = absurd g
    by_turn turn.Idle g = given_so None g
    by_turn (turn.NotDue at) g = given_so (Some at) g
    by_turn (turn.Ended code) g = absurd g
    by_turn (turn.Superseded e) g = absurd g
    by_turn turn.Unbound g = absurd g
    by_turn turn.Spent g = absurd g

-- where it isn't due
pub spoke_ends : (config : List ItemDef) (number epoch now : ℕ) (held : List Watched) (es : List Told) (ws : List Watched) (text : List ℕ) (quiet : Turn)
    → SpokeInTime epoch (counts_as now es) es → EndsQuiet config number epoch now held es ws quiet
    → EndsTurn config number epoch now held es es ws text quiet
spoke_ends config number epoch now held es ws text turn.Send spoke none = absurd none
spoke_ends config number epoch now held es ws text (turn.Ask ask) spoke none = none
spoke_ends config number epoch now held es ws text turn.Idle spoke none = (none, spoke)
spoke_ends config number epoch now held es ws text (turn.NotDue at) spoke none = (none, spoke)
spoke_ends config number epoch now held es ws text (turn.Ended code) spoke none = absurd none
spoke_ends config number epoch now held es ws text (turn.Superseded e) spoke none = absurd none
spoke_ends config number epoch now held es ws text turn.Unbound spoke none = absurd none
spoke_ends config number epoch now held es ws text turn.Spent spoke none = absurd none
