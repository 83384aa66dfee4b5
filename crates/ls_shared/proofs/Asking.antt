-- A turn asks one slot of a session after another: those that had nothing stay such.
use Rattle.std.proofs.Common.{◌≡◌, ◌≤◌, ◌<◌, ◌⊎◌, inl, inr, ℕ, zero, suc, ◌+◌, List, [], ◌∷◌, ◌++◌, length, take, Bool, true, false, not, ◌&&◌, nat_eq, nat_le, nat_lt}
use Rattle.std.proofs.Common.{Option, None, Some, refl, sym, ap, subst, arith, cond, ◌∙◌, slice_get, is_some, if◌then◌else◌, Result, Ok, Err}
use Rattle.std.specs.Result.{OnOk}
use Rattle.std.proofs.lemmas.Bool.{eqb-true, lt-ltb}
use Rattle.ls_chron.proofs.Beginnings.{prefix_length}
use Rattle.ls_value.specs.declared.limits.TheConstants.{GREATEST_NUMBER}
use Rattle.ls_event.specs.declared.event.Entry.{Entry}
use Rattle.ls_event.specs.declared.event.Taken.{Taken}
use Rattle.ls_event.specs.declared.item.ItemDef.{ItemDef}
use Rattle.ls_event.specs.Cuts.{cut, is_pending}
use Rattle.ls_event.specs.Slots.{Slot}
use Rattle.ls_event.proofs.LongerCuts.{Reaches}
use Rattle.ls_mirror.specs.Client.{What}
use Rattle.ls_record.specs.Lines.{Line, came}
use Rattle.ls_record.specs.Records.{LiveSlot, Session, Life, Alive, Ending, Closed, change, due_at, is_alive, is_bound, is_due, on_board, on_stream, shape_in}
use Rattle.ls_record.specs.Records.{unbound_at, with_text}
use Rattle.ls_record.specs.Turning.{end_text, loop_text}
use Rattle.ls_record.proofs.Each.{each_at}
use Rattle.ls_record.proofs.Rules.{cond_rule}
use Rattle.ls_register.specs.declared.told.Told.{Told}
use Rattle.ls_lawful.specs.Lawful.{LawfulLive, LawfulSlot}
use Rattle.ls_seated.proofs.Tied.{at_reaches}
use Rattle.ls_session.specs.declared.session.Ask.{Ask as Asking}
use Rattle.ls_session.specs.declared.session.Reply.{Reply}
use Rattle.ls_session.specs.declared.session.Reply.TheVariants as reply
use Rattle.ls_session.specs.declared.session.Session.{Session as Kept}
use Rattle.ls_session.specs.declared.session.Turn.{Turn}
use Rattle.ls_session.specs.declared.session.Turn.TheVariants as turn
use Rattle.ls_session.specs.Record.{Record, Question, Turned, Gives, Send, Asks, Idle, NotDue, Spent, Superseded, Unbound, Ended}
use Rattle.ls_session.specs.Record.{question_of, passed_over, waited, answered, answered_by, turned, round_turned, round_asked, waits_until}
use Rattle.ls_session.specs.Record.{goes_on, from_place, wait_from, gives_unbound, begun_anew, begun_at, bound_turned, next_turned}
use Rattle.ls_session.specs.Session.{AnswersTurn}
use Rattle.ls_session.proofs.Replies.{question_parts}
use Rattle.ls_subs.specs.Standing.{passed_live, what_of}
use Rattle.ls_told.specs.Spoken.{spoken_of}
use Rattle.ls_told.specs.Heard.{counts_as}
use Rattle.ls_told.specs.Requests.{HasBound}
use Rattle.ls_told.specs.Seen.{Watched, SeesMore, items_seen, seen_of}
use Rattle.ls_told.specs.Turns.{HasNothing}
use Rattle.ls_told.proofs.Facts.{epoch_is}
use Rattle.ls_told.proofs.Turns.{turned_rule}
use Rattle.ls_told.proofs.Watching.{history_seen, length_seen, seen_more, sees_same, sees_twice}
use Rattle.ls_live_session.specs.Groups.{SubSeen}
use Rattle.ls_live_session.specs.Lives.{LivesAs, HasSeat, HasNothing as KnowsNothing}
use Rattle.ls_live_session.specs.Giving.{given, speaks, AsksOn, AsksSlot}
use Rattle.ls_live_session.specs.Giving.{Gives as GivesTurn}
use Rattle.ls_live_session.specs.Taking.{IsAskedFrom, reached, caught_up, asked_now}
use Rattle.ls_live_session.specs.Replying.{Replies, TakesFrom, replied, reply_by, reply_of}
use Rattle.ls_live_session.proofs.Ahead.{asks_that}
use Rattle.ls_live_session.proofs.Catching.{asked_still}
use Rattle.ls_shared.specs.Asking.{HadNothing, HadNone, AskedInVain, GoesRound, AsksRound, QuietRound}
use Rattle.ls_shared.proofs.NoCuts.{nothing_left, merge_owes}
use Rattle.ls_shared.proofs.Rounds.{take_at, take_changed, past_end, none_sees, none_alike, none_more, one_waits}
use Rattle.ls_shared.proofs.Turned.{bound_some}
use Rattle.ls_shared.proofs.Turning.{given_stood, round_question}

module _ (config : List ItemDef) (held : List Watched) where
  -- what is known of a live slot
  module _ (number : ℕ) (es : List Told) (ws : List Watched) (subs : List SubSeen) (k : Kept) (r : Record) (l : LivesAs config number es ws subs k r)
      (n : ℕ) (v : LiveSlot) (here : slice_get r.session.board.round n ≡ Some v) where
    lawful_live : LawfulLive (items_seen config ws) r.session.board.lines v
    lawful_live = each_at (LawfulLive (items_seen config ws) r.session.board.lines) n v r.session.board.round here l.told.alone.session.board.slots

    within : v.item < length config
    within = omega (arith, lawful_live.declared, length_seen config ws)

    seat : HasSeat config ws subs v
    seat = each_at (HasSeat config ws subs) n v r.session.board.round here l.seated

    reaches_seen : Reaches (seen_of ws v.item) v.slot
    reaches_seen = at_reaches (shape_in config v.item) (seen_of ws v.item) seat.seat.plan seat.seat.list v.slot seat.of.at

    none_left : cut (seen_of ws v.item) v.slot ≡ None → HasNothing (seen_of ws v.item) v.slot
    none_left none =
        nothing_left (seen_of ws v.item) v.wanted v.slot (came v.sub v.rank r.session.board.lines)
        (subst (λ (h : List Entry). LawfulSlot h v.wanted v.slot (came v.sub v.rank r.session.board.lines)) (history_seen config ws v.item within)
        lawful_live.came)
        (merge_owes (shape_in config v.item) (seen_of ws v.item) seat.seat.plan seat.seat.list v.slot seat.of.at) none

    had_nothing : (tick : ℕ) → length (seen_of held v.item) ≤ v.slot.last → (is_due tick r.session v ≡ true → HasNothing (seen_of ws v.item) v.slot)
        → HadNothing config held ws tick r.session v
    had_nothing tick fresh nothing = record { declared = within; reaches = reaches_seen; fresh = fresh; nothing = nothing }

  -- the slot that is asked has nothing, or waits
  module _ (ws : List Watched) (r : Record) (v : LiveSlot) (here : slice_get r.session.board.round r.asked ≡ Some v) (n : AskedInVain config held ws r)
      (h : HadNothing config held ws r.tick r.session v) where
    one_more : take (r.asked + 1) r.session.board.round ≡ take r.asked r.session.board.round ++ v ∷ []
    one_more =
        ap (λ (k : ℕ). take k r.session.board.round) {x = r.asked + 1} {y = suc r.asked} (omega arith) ∙ take_at r.session.board.round r.asked v here

    vain_passed : (not (is_due r.tick r.session v) && is_pending (seen_of ws v.item) v.slot) ≡ false → AskedInVain config held ws (passed_over r)
    vain_passed quiet =
        subst (λ (vs : List LiveSlot). HadNone config held ws r.tick r.session vs r.wait) (sym one_more)
        (none_more config held ws r.tick r.session (take r.asked r.session.board.round) r.wait v n h quiet)

    vain_waited : (not (is_due r.tick r.session v) && is_pending (seen_of ws v.item) v.slot) ≡ true → AskedInVain config held ws (waited r v)
    vain_waited pends =
        subst (λ (vs : List LiveSlot). HadNone config held ws r.tick r.session vs (waited r v).wait) (sym one_more)
        (one_waits config held ws r.tick r.session (take r.asked r.session.board.round) r.wait v n h pends)

  -- a change of the slot that is asked
  vain_changed : (ws : List Watched) (r : Record) (f : LiveSlot → LiveSlot) (asks : Bool) → AskedInVain config held ws r
      → AskedInVain config held ws (record r { session = on_board (λ b. record b { round = change r.asked f b.round }) r.session; asks = asks })
  vain_changed ws r f asks n =
      let t : Session = on_board (λ b. record b { round = change r.asked f b.round }) r.session in
      subst (λ (vs : List LiveSlot). HadNone config held ws r.tick t vs r.wait) (sym (take_changed f r.session.board.round r.asked))
      (none_alike config held ws r.tick r.session t (λ v. refl) (take r.asked r.session.board.round) r.wait n)

  none_yet : (ws : List Watched) (tick : ℕ) (s : Session) → HadNone config held ws tick s [] None
  none_yet ws tick s = record { each = tt; first = refl }

  -- a cut of it makes a line, or none
  vain_cut : (ws : List Watched) (r : Record) (v : LiveSlot) (t : Taken) (o : Option What) → AskedInVain config held ws r
      → AskedInVain config held ws (answered_by r v t o)
  vain_cut ws r v t None n = vain_changed ws r (passed_live t) false n
  vain_cut ws r v t (Some what) n = none_yet ws r.tick (answered_by r v t (Some what)).session

  -- the slot that was asked under its item's lock
  module _ (number : ℕ) (before es : List Told) (old ws : List Watched) (subs : List SubSeen) (k : Kept) (r : Record) (q : Question) (told : Bool)
      (more : SeesMore old ws) (asks : question_of r ≡ Some q)
      (takes : TakesFrom config number before es ws subs k r q (seen_of ws q.live.item) told) where
    abbrev h : List Entry
    h = seen_of ws q.live.item

    abbrev r1 : Record
    r1 = caught_up (length h) r

    abbrev v : LiveSlot
    v = reached (length h) q.live

    parts : (slice_get r1.session.board.round r1.asked ≡ Some v) × (q.due ≡ is_due r1.tick r1.session v)
    parts = question_parts r1 (asked_now (length h) q) (asked_still r (length h) q asks)

    module _ (early : SeesMore held old) (vain : AskedInVain config held old r) where
      fresh : length (seen_of held v.item) ≤ v.slot.last
      fresh = prefix_length (seen_of held v.item) h (seen_more held ws (sees_twice held old ws early more) v.item)

      vain_then : AskedInVain config held ws r1
      vain_then =
          vain_changed ws r (reached (length h)) r.asks
          (none_sees config held old ws more r.tick r.session (take r.asked r.session.board.round) r.wait vain)

      by_reply : (due : Bool) (o : Option Taken) (pends : Bool) → q.due ≡ due → cut h v.slot ≡ o → is_pending h v.slot ≡ pends
          → LivesAs config number es ws subs k (replied r1 v (reply_by due o pends)) → AskedInVain config held ws (replied r1 v (reply_by due o pends))
      by_reply true None pends due cuts pending l =
          let is : is_due r1.tick r1.session v ≡ true = sym parts.1 ∙ due in
          vain_passed ws r1 v parts.0 vain_then
          (had_nothing number es ws subs k (passed_over r1) l r1.asked v parts.0 r1.tick fresh
          (λ d. none_left number es ws subs k (passed_over r1) l r1.asked v parts.0 cuts))
          (ap (λ (b : Bool). not b && is_pending h v.slot) is)
      by_reply true (Some t) pends due cuts pending l = vain_cut ws r1 v t (what_of r1.session.board.lines v t) vain_then
      by_reply false o true due cuts pending l =
          let is : is_due r1.tick r1.session v ≡ false = sym parts.1 ∙ due in
          vain_waited ws r1 v parts.0 vain_then
          (had_nothing number es ws subs k (waited r1 v) l r1.asked v parts.0 r1.tick fresh (λ d. absurd (let e : false ≡ true = sym is ∙ d in cc)))
          (ap (λ (b : Bool). not b && is_pending h v.slot) is ∙ pending)
      by_reply false o false due cuts pending l =
          let is : is_due r1.tick r1.session v ≡ false = sym parts.1 ∙ due in
          vain_passed ws r1 v parts.0 vain_then
          (had_nothing number es ws subs k (passed_over r1) l r1.asked v parts.0 r1.tick fresh (λ d. absurd (let e : false ≡ true = sym is ∙ d in cc)))
          (ap (λ (b : Bool). not b && is_pending h v.slot) is ∙ pending)

      pub asked_round : GoesRound config number es held ws subs k
      asked_round =
          let l = subst (λ (x : Reply). LivesAs config number es ws subs k (replied r1 v x)) takes.reply_is takes.lives in
          record {
            r = replied r1 v (reply_of q.due h v.slot);
            lives = l;
            more = sees_twice held old ws early more;
            none = by_reply q.due (cut h v.slot) (is_pending h v.slot) refl refl refl l;
          }

  -- the one for which memory was refused
  pub stayed_round : (number n : ℕ) (es : List Told) (old ws : List Watched) (subs : List SubSeen) (k : Kept) (r : Record) → SeesMore old ws
      → SeesMore held old → AskedInVain config held old r
      → LivesAs config number es ws subs k r ⊎ LivesAs config number es ws subs k (caught_up n r) → GoesRound config number es held ws subs k
  stayed_round number n es old ws subs k r more early vain either = by_either either
    where
      vain_still : AskedInVain config held ws r
      vain_still = none_sees config held old ws more r.tick r.session (take r.asked r.session.board.round) r.wait vain

      by_either : LivesAs config number es ws subs k r ⊎ LivesAs config number es ws subs k (caught_up n r) → GoesRound config number es held ws subs k
      by_either (inl l) = record { r = r; lives = l; more = sees_twice held old ws early more; none = vain_still }
      by_either (inr l) =
          record {
            r = caught_up n r;
            lives = l;
            more = sees_twice held old ws early more;
            none = vain_changed ws r (reached n) r.asks vain_still;
          }

  -- and the one of which its seat knows that it has nothing
  pub rested_round : (number : ℕ) (es : List Told) (ws : List Watched) (subs : List SubSeen) (k : Kept) (r : Record) (q : Question)
      → question_of r ≡ Some q → LivesAs config number es ws subs k (passed_over r) → KnowsNothing (seen_of ws q.live.item) q.live.slot
      → length (seen_of ws q.live.item) ≤ q.live.slot.last → SeesMore held ws → AskedInVain config held ws r → GoesRound config number es held ws subs k
  rested_round number es ws subs k r q asks l knows last early vain =
      let parts = question_parts r q asks in
      let shorter = prefix_length (seen_of held q.live.item) (seen_of ws q.live.item) (seen_more held ws early q.live.item) in
      record {
        r = passed_over r;
        lives = l;
        more = early;
        none =
            vain_passed ws r q.live parts.0 vain
            (had_nothing number es ws subs k (passed_over r) l r.asked q.live parts.0 r.tick (omega (arith, shorter, last))
            (λ d p. absurd (let e : true ≡ false = sym p ∙ knows.pends in cc)))
            (by_due (is_due r.tick r.session q.live) (is_pending (seen_of ws q.live.item) q.live.slot) knows.pends);
      }
    where
      by_due : (d p : Bool) → p ≡ false → (not d && p) ≡ false
      by_due true p is = refl
      by_due false p is = is

  -- a turn asks the next slot, or none is left
  module _ (now : ℕ) (ws : List Watched) (r : Record) where
    abbrev Quiet : Option ℕ → Type 0
    Quiet wait = HadNone config held ws now r.session r.session.board.round wait

    abbrev Went : Turned → Type 0
    Went t =
        ((q : Question) → t.gives ≡ Asks q → AskedInVain config held ws t.after) × (t.gives ≡ Idle → Quiet None)
        × ((at : ℕ) → t.gives ≡ NotDue at → Quiet (Some at))

    went_on : AskedInVain config held ws r → HadNone config held ws now r.session (take (from_place now r) r.session.board.round) (wait_from now r)
    went_on vain = by_goes (goes_on now r) refl
      where
        same : (asks : Bool) → cond asks false (nat_eq r.tick now) ≡ true → r.tick ≡ now
        same true is = absurd (let e : false ≡ true = is in cc)
        same false is = eqb-true r.tick now is

        by_goes : (b : Bool) → goes_on now r ≡ b
            → HadNone config held ws now r.session (take (cond b r.asked 0) r.session.board.round) (cond b r.wait None)
        by_goes true is =
            subst (λ (tick : ℕ). HadNone config held ws tick r.session (take r.asked r.session.board.round) r.wait) (same r.asks is) vain
        by_goes false is = none_yet ws now r.session

    round_went : AskedInVain config held ws r → Went (round_turned now r)
    round_went vain = by_slot (slice_get r.session.board.round (from_place now r)) refl
      where
        by_wait : (wait : Option ℕ) → Quiet wait → Went (record { after = begun_at now r.session r; gives = waits_until wait })
        by_wait None q = (
          λ a is. absurd (let e : Idle ≡ Asks a = is in cc),
          λ is. q,
          λ at is. absurd (let e : Idle ≡ NotDue at = is in cc),
        )
        by_wait (Some tick) q = (
          λ a is. absurd (let e : NotDue tick ≡ Asks a = is in cc),
          λ is. absurd (let e : NotDue tick ≡ Idle = is in cc),
          λ at is. subst (λ (t : ℕ). Quiet (Some t)) (let e : NotDue tick ≡ NotDue at = is in let same : tick ≡ at = cc in same) q,
        )

        by_slot : (o : Option LiveSlot) → slice_get r.session.board.round (from_place now r) ≡ o
            → Went (round_asked now (wait_from now r) r (from_place now r) o)
        by_slot None at =
            by_wait (wait_from now r)
            (subst (λ (vs : List LiveSlot). HadNone config held ws now r.session vs (wait_from now r))
            (past_end r.session.board.round (from_place now r) at) (went_on vain))
        by_slot (Some v) at =
            cond_rule Went (is_due now r.session v && nat_le GREATEST_NUMBER (length r.session.board.lines)) _ _
            (λ t. (
              λ a is. absurd (let e : Spent ≡ Asks a = is in cc),
              λ is. absurd (let e : Spent ≡ Idle = is in cc),
              λ n is. absurd (let e : Spent ≡ NotDue n = is in cc),
            ))
            (λ t. (
              λ a is. went_on vain,
              λ is. absurd (let e : Asks (record { live = v; due = is_due now r.session v }) ≡ Idle = is in cc),
              λ n is. absurd (let e : Asks (record { live = v; due = is_due now r.session v }) ≡ NotDue n = is in cc),
            ))

    pub round_vain : AskedInVain config held ws r → AskedInVain config held ws (round_turned now r).after
    round_vain vain = by_slot (slice_get r.session.board.round (from_place now r))
      where
        by_slot : (o : Option LiveSlot) → AskedInVain config held ws (round_asked now (wait_from now r) r (from_place now r) o).after
        by_slot None = none_yet ws now r.session
        by_slot (Some v) =
            cond_rule (λ (t : Turned). AskedInVain config held ws t.after)
            (is_due now r.session v && nat_le GREATEST_NUMBER (length r.session.board.lines)) _ _ (λ t. none_yet ws now r.session) (λ t. went_on vain)

    -- what gives neither says nothing of it
    abbrev IsOther : Gives → Type 0
    IsOther (Send text) = Unit {0}
    IsOther (Asks q) = ⊥
    IsOther Idle = ⊥
    IsOther (NotDue at) = ⊥
    IsOther Spent = Unit {0}
    IsOther (Superseded e) = Unit {0}
    IsOther Unbound = Unit {0}
    IsOther (Ended code) = Unit {0}

    other : (after : Record) (g : Gives) → IsOther g → Went (record { after = after; gives = g })
    other after g is = (
      λ a e. absurd (subst IsOther e is),
      λ e. absurd (subst IsOther e is),
      λ at e. absurd (subst IsOther e is),
    )

    unbound_other : (life : Life) → IsOther (gives_unbound life)
    unbound_other Alive = tt
    unbound_other (Ending code) = tt
    unbound_other (Closed code) = tt

    pub given_went : (entries epoch : ℕ) → AskedInVain config held ws r → Went (given entries now epoch r)
    given_went entries epoch vain =
        cond_rule Went (nat_le GREATEST_NUMBER entries && speaks epoch (spoken_of r.session)) _ _ (λ t. other r Spent tt)
        (λ t. turned_rule Went now epoch r (record {
          superseded = λ newer. other (begun_at now r.session r) (Superseded (length r.session.streams)) tt;
          unbound = λ own none. other (begun_at now r.session r) (gives_unbound r.session.life) (unbound_other r.session.life);
          owes = λ text owed own bound alive is.
              other (begun_anew now (on_stream (with_text text) (record r.session { owed = owed })) r) (Send text) tt;
          loops = λ own bound alive none over. other (begun_anew now (unbound_at now r.session) r) (Send loop_text) tt;
          next = λ own bound alive none stays unsent. other (next_turned now r).after (next_turned now r).gives tt;
          round = λ own bound alive none stays sent. round_went vain;
          ending = λ code own bound ends.
              other (begun_anew now (on_stream (with_text (end_text code)) (record r.session { life = Closed code })) r) (Send (end_text code)) tt;
          over = λ code own bound closed. other (begun_at now r.session r) (Ended code) tt;
        }))

-- which turn gave nothing
pub idle_by : (g : Gives) (t : Turn) (k : Kept) → AnswersTurn g t k → t ≡ turn.Idle → g ≡ Idle
idle_by (Send text) t k a is = absurd (let x : turn.Send ≡ turn.Idle = sym a.0 ∙ is in cc)
idle_by (Asks q) t k a is = absurd (let x : turn.Ask _ ≡ turn.Idle = sym a ∙ is in cc)
idle_by Idle t k a is = refl
idle_by (NotDue at) t k a is = absurd (let x : turn.NotDue at ≡ turn.Idle = sym a ∙ is in cc)
idle_by Spent t k a is = absurd (let x : turn.Spent ≡ turn.Idle = sym a ∙ is in cc)
idle_by (Superseded e) t k a is = absurd (let x : turn.Superseded e ≡ turn.Idle = sym a ∙ is in cc)
idle_by Unbound t k a is = absurd (let x : turn.Unbound ≡ turn.Idle = sym a ∙ is in cc)
idle_by (Ended code) t k a is = absurd (let x : turn.Ended code ≡ turn.Idle = sym a ∙ is in cc)

pub not_due_by : (g : Gives) (t : Turn) (k : Kept) (at : ℕ) → AnswersTurn g t k → t ≡ turn.NotDue at → g ≡ NotDue at
not_due_by (Send text) t k at a is = absurd (let x : turn.Send ≡ turn.NotDue at = sym a.0 ∙ is in cc)
not_due_by (Asks q) t k at a is = absurd (let x : turn.Ask _ ≡ turn.NotDue at = sym a ∙ is in cc)
not_due_by Idle t k at a is = absurd (let x : turn.Idle ≡ turn.NotDue at = sym a ∙ is in cc)
not_due_by (NotDue n) t k at a is = let x : turn.NotDue n ≡ turn.NotDue at = sym a ∙ is in let same : n ≡ at = cc in ap NotDue same
not_due_by Spent t k at a is = absurd (let x : turn.Spent ≡ turn.NotDue at = sym a ∙ is in cc)
not_due_by (Superseded e) t k at a is = absurd (let x : turn.Superseded e ≡ turn.NotDue at = sym a ∙ is in cc)
not_due_by Unbound t k at a is = absurd (let x : turn.Unbound ≡ turn.NotDue at = sym a ∙ is in cc)
not_due_by (Ended code) t k at a is = absurd (let x : turn.Ended code ≡ turn.NotDue at = sym a ∙ is in cc)

-- so a turn's answer says how far the round was asked
module _ (config : List ItemDef) (number epoch now : ℕ) (before es : List Told) (held ws : List Watched) (subs : List SubSeen) (k0 k : Kept)
    (r : Record) (answer : Turn) (text : List ℕ) (l : LivesAs config number before ws subs k0 r) (early : SeesMore held ws)
    (vain : AskedInVain config held ws r) (g : GivesTurn config number epoch now before es ws subs k r answer text) where
  pub gave_question : (ask : Asking) → answer ≡ turn.Ask ask → AsksRound config number es held ws subs k ask now
  gave_question ask is =
      let that = asks_that (given (length before) (counts_as now before) epoch r).gives answer k ask g.answers is in
      let stood = given_stood (counts_as now before) that.0 (length before) epoch r that.1 in
      let still : es ≡ before = g.stays (λ sent. absurd (let x : turn.Send ≡ turn.Ask ask = sym sent ∙ is in cc)) in
      record {
        r = (given (length before) (counts_as now before) epoch r).after;
        q = that.0;
        asked = record { lives = g.lives; asks = stood.0; ask_is = that.2; tick = stood.1 ∙ ap (counts_as now) (sym still) };
        more = early;
        none = (given_went config held (counts_as now before) ws r (length before) epoch vain).0 that.0 that.1;
      }

  quiet_then : (wait : Option ℕ) → es ≡ before → HadNone config held ws (counts_as now before) r.session r.session.board.round wait
      → QuietRound config number es held ws (counts_as now es) wait
  quiet_then wait still none =
      subst (λ (x : List Told). QuietRound config number x held ws (counts_as now x) wait) (sym still)
      (record { session = r.session; told = l.told; none = none })

  pub gave_idle : answer ≡ turn.Idle → QuietRound config number es held ws (counts_as now es) None
  gave_idle is =
      quiet_then None (g.stays (λ sent. absurd (let x : turn.Send ≡ turn.Idle = sym sent ∙ is in cc)))
      ((given_went config held (counts_as now before) ws r (length before) epoch vain).1
      (idle_by (given (length before) (counts_as now before) epoch r).gives answer k g.answers is))

  pub gave_not_due : (at : ℕ) → answer ≡ turn.NotDue at → QuietRound config number es held ws (counts_as now es) (Some at)
  gave_not_due at is =
      quiet_then (Some at) (g.stays (λ sent. absurd (let x : turn.Send ≡ turn.NotDue at = sym sent ∙ is in cc)))
      ((given_went config held (counts_as now before) ws r (length before) epoch vain).2 at
      (not_due_by (given (length before) (counts_as now before) epoch r).gives answer k at g.answers is))

-- where the round is asked on, whatever waits to be given, the question stands
pub slot_asked : (config : List ItemDef) (number now : ℕ) (es : List Told) (ws : List Watched) (subs : List SubSeen) (k : Kept) (r : Record) (ask : Asking)
    (s : AsksSlot config number now es ws subs k r ask) → IsAskedFrom config number es ws subs k (round_turned (counts_as now es) r).after s.q ask now
slot_asked config number now es ws subs k r ask s =
    let stood = round_question (counts_as now es) s.q r s.gives in
    record { lives = s.lives; asks = stood.0; ask_is = s.ask_is; tick = stood.1 }

-- and so is known how far it was asked
module _ (config : List ItemDef) (number now : ℕ) (es : List Told) (held ws : List Watched) (subs : List SubSeen) (k0 k : Kept)
    (g : GoesRound config number es held ws subs k0) where
  pub asked_on : (ask : Asking) → AsksSlot config number now es ws subs k g.r ask → AsksRound config number es held ws subs k ask now
  asked_on ask s =
      record {
        r = (round_turned (counts_as now es) g.r).after;
        q = s.q;
        asked = slot_asked config number now es ws subs k g.r ask s;
        more = g.more;
        none = round_vain config held (counts_as now es) ws g.r g.none;
      }

  pub none_asked : AsksOn config number now es ws subs k g.r None → GoesRound config number es held ws subs k
  none_asked (inl stays) = record { r = g.r; lives = stays.lives; more = g.more; none = g.none }
  none_asked (inr over) =
      record {
        r = (round_turned (counts_as now es) g.r).after;
        lives = over.lives;
        more = g.more;
        none = round_vain config held (counts_as now es) ws g.r g.none;
      }

-- a question that stands, where nothing asks it any more
pub asks_goes : (config : List ItemDef) (number : ℕ) (es : List Told) (held ws : List Watched) (subs : List SubSeen) (k : Kept) (ask : Asking) (now : ℕ)
    → AsksRound config number es held ws subs k ask now → GoesRound config number es held ws subs k
asks_goes config number es held ws subs k ask now a = record { r = a.r; lives = a.asked.lives; more = a.more; none = a.none }

-- a turn for no stream begins the round anew
given_anew : (entries now : ℕ) (r : Record) → 1 ≤ length r.session.streams
    → given entries now 0 r ≡ record { after = begun_at now r.session r; gives = Superseded (length r.session.streams) }
given_anew entries now r some =
    ap (λ (b : Bool). cond (nat_le GREATEST_NUMBER entries && (not b && (not (is_some r.session.unbound) && is_alive r.session.life)))
    (record { after = r; gives = Spent }) (cond b over rest)) (lt-ltb 0 (length r.session.streams) (omega (arith, some)))
    ∙ by_spent (nat_le GREATEST_NUMBER entries)
  where
    over : Turned
    over = record { after = begun_at now r.session r; gives = Superseded (length r.session.streams) }

    rest : Turned
    rest =
        if is_bound r.session then bound_turned now r r.session.life
        else record { after = begun_at now r.session r; gives = gives_unbound r.session.life }

    by_spent : (b : Bool) → cond (b && false) (record { after = r; gives = Spent }) over ≡ over
    by_spent true = refl
    by_spent false = refl

module _ (config : List ItemDef) (number now : ℕ) (before es : List Told) (ws : List Watched) (subs : List SubSeen) (k0 k : Kept) (r : Record)
    (answer : Turn) (text : List ℕ) (l : LivesAs config number before ws subs k0 r) (epoch : ℕ) (has : HasBound epoch before)
    (g : GivesTurn config number 0 now before es ws subs k r answer text) where
  anew : given (length before) (counts_as now before) 0 r
      ≡ record { after = begun_at (counts_as now before) r.session r; gives = Superseded (length r.session.streams) }
  anew =
      given_anew (length before) (counts_as now before) r
      (omega (
        arith,
        epoch_is config number before ws r.session l.told,
        bound_some 0 epoch has.0 has.1 has.2 has.3 has.4 before l.told.counts has.5,
      ))

  pub anew_same : es ≡ before
  anew_same =
      let is : answer ≡ turn.Superseded (length r.session.streams) = subst (λ (t : Turned). AnswersTurn t.gives answer k) anew g.answers in
      g.stays (λ sent. absurd (let x : turn.Send ≡ turn.Superseded (length r.session.streams) = sym sent ∙ is in cc))

  pub anew_round : GoesRound config number es ws ws subs k
  anew_round =
      record {
        r = begun_at (counts_as now before) r.session r;
        lives = subst (λ (t : Turned). LivesAs config number es ws subs k t.after) anew g.lives;
        more = sees_same ws;
        none = none_yet config ws ws (counts_as now before) r.session;
      }

-- of parts that are the same
pub goes_same : (config : List ItemDef) (number number' : ℕ) (es es' : List Told) (held ws ws' : List Watched) (subs subs' : List SubSeen) (k k' : Kept)
    → number' ≡ number → es' ≡ es → ws' ≡ ws → subs' ≡ subs → k' ≡ k → GoesRound config number es held ws subs k
    → GoesRound config number' es' held ws' subs' k'
goes_same config number number' es es' held ws ws' subs subs' k k' n e w s x goes =
    subst (λ (t : ℕ × List Told × List Watched × List SubSeen × Kept). GoesRound config t.0 t.1 held t.2 t.3 t.4)
    (λ i. (sym n i, sym e i, sym w i, sym s i, sym x i)) goes

pub asks_same : (config : List ItemDef) (number number' : ℕ) (es es' : List Told) (held ws ws' : List Watched) (subs subs' : List SubSeen) (k k' : Kept)
    (ask : Asking) (now : ℕ) → number' ≡ number → es' ≡ es → ws' ≡ ws → subs' ≡ subs → k' ≡ k
    → AsksRound config number es held ws subs k ask now → AsksRound config number' es' held ws' subs' k' ask now
asks_same config number number' es es' held ws ws' subs subs' k k' ask now n e w s x asks =
    subst (λ (t : ℕ × List Told × List Watched × List SubSeen × Kept). AsksRound config t.0 t.1 held t.2 t.3 t.4 ask now)
    (λ i. (sym n i, sym e i, sym w i, sym s i, sym x i)) asks

-- of the question stays what stands
pub asks_still : (config : List ItemDef) (number : ℕ) (es : List Told) (held ws : List Watched) (subs : List SubSeen) (k k' : Kept) (ask : Asking) (now : ℕ)
    → ((r : Record) → LivesAs config number es ws subs k r → LivesAs config number es ws subs k' r)
    → AsksRound config number es held ws subs k ask now → AsksRound config number es held ws subs k' ask now
asks_still config number es held ws subs k k' ask now stays a =
    record {
      r = a.r;
      q = a.q;
      asked = record { lives = stays a.r a.asked.lives; asks = a.asked.asks; ask_is = a.asked.ask_is; tick = a.asked.tick };
      more = a.more;
      none = a.none;
    }

-- what follows after a success
pub on_ok : {A E : Type 0} (P Q : Type 0) (r : Result A E) → (P → Q) → OnOk r P → OnOk r Q
on_ok P Q (Ok a) step is = step is
on_ok P Q (Err e) step is = tt
