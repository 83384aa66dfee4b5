-- The answers to the question of a slot that has every event of its item.
use Rattle.std.proofs.Common.{◌≡◌, ◌<◌, ◌^◌, ℕ, Bool, true, false, Option, None, Some, List, [], ◌∷◌, ◌++◌, length, refl, sym, ◌∙◌, ap, subst, arith}
use Rattle.std.proofs.Common.{cond, slice_get, slice_set, is_some, suc, ◌+◌, eq-eqb, Result, Ok, Err}
use Rattle.std.specs.Result.{OnErr}
use Rattle.ls_value.specs.declared.limits.TheConstants.{GREATEST_NUMBER}
use Rattle.ls_event.specs.declared.event.Entry.{Entry}
use Rattle.ls_event.specs.declared.event.Taken.{Taken}
use Rattle.ls_event.specs.declared.item.ItemDef.{ItemDef}
use Rattle.ls_event.specs.Cuts.{cut, is_pending}
use Rattle.ls_event.specs.Publishes.{IsHistory}
use Rattle.ls_event.specs.Shapes.{Shape}
use Rattle.ls_mirror.specs.Client.{What}
use Rattle.ls_record.specs.Came.{came_by, upto_of}
use Rattle.ls_record.specs.Light.{IsLight}
use Rattle.ls_record.specs.Lines.{Line, Tells, line_text, text_at}
use Rattle.ls_record.specs.Records.{LiveSlot, Alive, is_alive, shape_in}
use Rattle.ls_record.proofs.Each.{each_at}
use Rattle.ls_record.proofs.Weights.{cut_is_light}
use Rattle.ls_register.specs.declared.told.Told.{Told}
use Rattle.ls_register.specs.declared.told.Told.TheVariants.{Numbered}
use Rattle.ls_register.specs.declared.told.Numbered.{Numbered as NumberedLine}
use Rattle.ls_seated.specs.Seats.{SeatSeen, SeatedItem, slot_of}
use Rattle.ls_seated.proofs.Tied.{at_end}
use Rattle.ls_session.specs.declared.session.Ask.{Ask}
use Rattle.ls_session.specs.declared.session.Session.{Session as Kept}
use Rattle.ls_session.specs.Record.{Record, Question, passed_over, waited, answered, answered_by}
use Rattle.ls_session.specs.Session.{StandsSession}
use Rattle.ls_session.proofs.Replies.{question_parts, tells_short}
use Rattle.ls_subs.specs.declared.plan.PlanItem.{PlanItem}
use Rattle.ls_subs.specs.Kept.{kept_at}
use Rattle.ls_subs.proofs.Moves.{found_live}
use Rattle.ls_subs.specs.Standing.{ref_of, what_of, StandsKept, StandsKeptAt}
use Rattle.ls_told.specs.Spoken.{Spoken}
use Rattle.ls_told.specs.Heard.{heard}
use Rattle.ls_told.specs.Seen.{Watched, seen_of}
use Rattle.ls_turns.specs.declared.slot_ref.SlotRef.{SlotRef}
use Rattle.ls_told.specs.Telling.{TellsOf}
use Rattle.ls_session.specs.declared.session.Reply.TheVariants as reply
use Rattle.ls_taking.specs.Groups.{SubSeen}
use Rattle.ls_taking.specs.Lives.{LivesAs, IsSeatOf, HasSeat, HasNothing}
use Rattle.ls_taking.specs.Taking.{SeatAt, IsAskedFrom, IsWhole, seat_set, told_to}
use Rattle.ls_taking.proofs.Moving.{SeatMoves}
use Rattle.ls_taking.proofs.Catching.{moving_seat, seat_moves}
use Rattle.ls_parts.specs.Replying.{Replies, reply_of, reply_by, seat_after}
use Rattle.ls_parts.specs.Leaving.{HasLast}
use Rattle.ls_parts.proofs.Living.{lives_passed_over}
use Rattle.ls_parts.proofs.Replied.{lives_quiet, lives_waited, lives_silent, lives_line, line_last, told_upto}

-- the seat of a slot that is asked
pub seat_asked : (config : List ItemDef) (number : ℕ) (es : List Told) (ws : List Watched) (subs : List SubSeen) (k : Kept) (r : Record)
    (q : Question) (ask : Ask) (now : ℕ) → IsAskedFrom config number es ws subs k r q ask now → (seats : ℕ) (at : SeatAt subs seats ask.slot)
    → IsSeatOf config ws at.seat q.live
seat_asked config number es ws subs k r q ask now asked seats at =
    let slot : ask.slot ≡ ref_of q.live = ap (λ (a : Ask). a.slot) asked.ask_is in
    let new : List SubSeen = slice_set subs seats (seat_set at.group ask.slot.place at.seat) in
    moving_seat config ws subs new q.live at.seat at.seat
    (subst (λ (s : SlotRef). SeatMoves subs new s.sub s.place at.seat at.seat) slot (seat_moves subs seats ask.slot at at.seat))
    (each_at (HasSeat config ws subs) r.asked q.live r.session.board.round (question_parts r q asked.asks).0 asked.lives.seated)

-- what is kept of a slot of a round
record KeptOf (lines : List Line) (v : LiveSlot) : Type 0 where
  item : PlanItem
  stands : StandsKept item lines v

kept_of : (o : Option PlanItem) (lines : List Line) (v : LiveSlot) → StandsKeptAt o lines (Some v) → KeptOf lines v
kept_of None lines v st = absurd st
kept_of (Some k) lines v st = record { item = k; stands = st }

-- the text of the last line
text_last : (lines : List Line) (l : Line) → text_at (l ∷ lines) (length (l ∷ lines)) ≡ line_text lines l
text_last lines l =
    let same : suc (length lines) ≡ length lines + 1 = omega arith in
    ap (λ b. cond b (line_text lines l) (text_at lines (suc (length lines)))) (eq-eqb (suc (length lines)) (length lines + 1) same)

module _ (config : List ItemDef) (number : ℕ) (es : List Told) (ws : List Watched) (subs : List SubSeen) (k : Kept) (r : Record)
    (q : Question) (ask : Ask) (now : ℕ) (i : SeatedItem) (asked : IsAskedFrom config number es ws subs k r q ask now)
    (whole : IsWhole config ws q i) where
  here : slice_get r.session.board.round r.asked ≡ Some q.live
  here = (question_parts r q asked.asks).0

  -- the record of the slot is the one that its seat says
  pub slot_said : (t u : SeatSeen) (new : List SubSeen) → SeatMoves subs new q.live.sub q.live.rank t u
      → q.live.slot ≡ slot_of i.item.shape i.item.history t.plan t.list
  slot_said t u new m =
      let own = moving_seat config ws subs new q.live t u m (each_at (HasSeat config ws subs) r.asked q.live r.session.board.round here asked.lives.seated) in
      let long = ap (λ (h : List Entry). length h) whole.seen in
      at_end (shape_in config q.live.item) (seen_of ws q.live.item) t.plan t.list q.live.slot own.at (whole.last ∙ sym long)
      ∙ (λ j. slot_of (sym whole.shape j) (whole.seen j) t.plan t.list)

  -- it has nothing, or waits
  pub replies_nothing : (k2 : Kept) → reply_of q.due i.item.history q.live.slot ≡ reply.Nothing → StandsSession k2 (passed_over r)
      → Replies config number es es ws subs k2 r q i.item.history false
  replies_nothing k2 is stands =
      record {
        reply = reply.Nothing;
        reply_is = sym is;
        lives = lives_passed_over config number es ws subs k r k2 asked.lives stands;
        told_is = refl;
        line = λ t. absurd (let x : false ≡ true = t in cc);
        none = λ t. refl;
      }

  -- it has nothing, which its seat keeps, where it isn't pending either
  pub replies_rest : (k2 : Kept) (t : SeatSeen) (new : List SubSeen) (b : Bool)
      → SeatMoves subs new q.live.sub q.live.rank t (record t { quiet = b }) → q.due ≡ true → cut i.item.history q.live.slot ≡ None
      → (b ≡ true → is_pending i.item.history q.live.slot ≡ false) → StandsSession k2 (passed_over r)
      → Replies config number es es ws new k2 r q i.item.history false
  replies_rest k2 t new b m due none pends stands =
      record {
        reply = reply.Nothing;
        reply_is = sym (λ j. reply_by (due j) (none j) (is_pending i.item.history q.live.slot));
        lives =
            lives_passed_over config number es ws new k r k2
            (lives_quiet config number es ws subs new k r q.live here t b asked.lives m
            (λ is. subst (λ (h : List Entry). HasNothing h q.live.slot) (sym whole.seen) (record { none = none; pends = pends is }))) stands;
        told_is = refl;
        line = λ t. absurd (let x : false ≡ true = t in cc);
        none = λ t. refl;
      }

  pub replies_waiting : (k2 : Kept) → reply_of q.due i.item.history q.live.slot ≡ reply.Waiting → StandsSession k2 (waited r q.live)
      → Replies config number es es ws subs k2 r q i.item.history false
  replies_waiting k2 is stands =
      record {
        reply = reply.Waiting;
        reply_is = sym is;
        lives = lives_waited config number es ws subs subs k r q.live here k2 asked.lives stands;
        told_is = refl;
        line = λ t. absurd (let x : false ≡ true = t in cc);
        none = λ t. refl;
      }

  -- its cut is light
  pub light_cut : (t u : SeatSeen) (new : List SubSeen) (taken : Taken) → SeatMoves subs new q.live.sub q.live.rank t u
      → cut i.item.history q.live.slot ≡ Some taken → IsLight q.live.wanted.places taken
  light_cut t u new taken m is =
      let st = asked.lives.stands in
      let own = moving_seat config ws subs new q.live t u m (each_at (HasSeat config ws subs) r.asked q.live r.session.board.round here asked.lives.seated) in
      let kept = kept_of (kept_at k.subs q.live.sub q.live.rank) r.session.board.lines q.live
      (subst (StandsKeptAt (kept_at k.subs q.live.sub q.live.rank) r.session.board.lines)
      (found_live r.asked r.session.board.round q.live st.subs.apart here) (st.subs.at q.live.sub q.live.rank)) in
      cut_is_light q.live.slot.plan.shape i.item.history q.live.slot q.live.wanted.places taken
      (subst (λ (p : Shape). IsHistory p i.item.history) (sym own.shape) whole.history) refl kept.stands.allowed kept.stands.narrow is

  -- its numbers are those that its seat keeps
  pub came_at : (t u : SeatSeen) (new : List SubSeen) (taken : Taken) (what : What) → SeatMoves subs new q.live.sub q.live.rank t u
      → (t.cursor ≡ (came_by q.live.slot taken what).before) × (told_to t.cursor taken ≡ (came_by q.live.slot taken what).upto)
      × (t.last ≡ (came_by q.live.slot taken what).at)
  came_at t u new taken what m =
      let own = moving_seat config ws subs new q.live t u m (each_at (HasSeat config ws subs) r.asked q.live r.session.board.round here asked.lives.seated) in (
        own.cursor,
        ap (λ (n : ℕ). told_to n taken) own.cursor ∙ sym (told_upto q.live.slot taken),
        own.last,
      )

  -- what it takes of the session's answer
  abbrev pub line_of : Taken → What → List ℕ
  line_of taken what = line_text r.session.board.lines (Tells q.live.sub q.live.rank r.tick (came_by q.live.slot taken what))

  seen_cut : (taken : Taken) → cut i.item.history q.live.slot ≡ Some taken → cut (seen_of ws q.live.item) q.live.slot ≡ Some taken
  seen_cut taken is = ap (λ (h : List Entry). cut h q.live.slot) whole.seen ∙ is

  whole_last : q.live.slot.last ≡ length (seen_of ws q.live.item)
  whole_last = whole.last ∙ ap (λ (h : List Entry). length h) (sym whole.seen)

  seen_moves : (t : SeatSeen) (new : List SubSeen) (taken : Taken)
      → SeatMoves subs new q.live.sub q.live.rank t (seat_after t (length i.item.history) taken)
      → SeatMoves subs new q.live.sub q.live.rank t (seat_after t (length (seen_of ws q.live.item)) taken)
  seen_moves t new taken m =
      subst (λ (h : List Entry). SeatMoves subs new q.live.sub q.live.rank t (seat_after t (length h) taken)) (sym whole.seen) m

  -- its cut makes no line
  pub replies_silent : (k2 : Kept) (t : SeatSeen) (new : List SubSeen) (taken : Taken)
      → SeatMoves subs new q.live.sub q.live.rank t (seat_after t (length i.item.history) taken)
      → q.due ≡ true → cut i.item.history q.live.slot ≡ Some taken → what_of r.session.board.lines q.live taken ≡ None
      → StandsSession k2 (answered r q.live taken) → Replies config number es es ws new k2 r q i.item.history false
  replies_silent k2 t new taken m due is silent stands =
      record {
        reply = reply.Taken taken;
        reply_is = sym (λ j. reply_by (due j) (is j) (is_pending i.item.history q.live.slot));
        lives =
            lives_silent config number es ws subs new k r q.live here k2 t taken asked.lives whole_last (seen_cut taken is) (seen_moves t new taken m)
            silent stands;
        told_is = sym (ap is_some silent);
        line = λ b. absurd (let x : false ≡ true = b in cc);
        none = λ b. refl;
      }

  -- its cut makes a line
  pub lives_told : (k2 : Kept) (t : SeatSeen) (new : List SubSeen) (taken : Taken) (what : What) (line : NumberedLine)
      → SeatMoves subs new q.live.sub q.live.rank t (seat_after t (length i.item.history) taken)
      → length es < GREATEST_NUMBER → cut i.item.history q.live.slot ≡ Some taken
      → what_of r.session.board.lines q.live taken ≡ Some what → StandsSession k2 (answered r q.live taken)
      → line.text ≡ line_of taken what → TellsOf line q.live.sub q.live.rank r.tick (came_by q.live.slot taken what)
      → LivesAs config number (es ++ Numbered line ∷ []) ws new k2 (answered r q.live taken)
  lives_told k2 t new taken what line m low is tells stands text of =
      lives_line config number es ws subs new k r q.live here k2 t taken what line asked.lives low whole_last (seen_cut taken is)
      (seen_moves t new taken m) tells stands text of

  pub replies_line : (k2 : Kept) (t : SeatSeen) (new : List SubSeen) (taken : Taken) (what : What) (line : NumberedLine) (es2 : List Told)
      → SeatMoves subs new q.live.sub q.live.rank t (seat_after t (length i.item.history) taken)
      → length es < GREATEST_NUMBER → q.due ≡ true → cut i.item.history q.live.slot ≡ Some taken
      → what_of r.session.board.lines q.live taken ≡ Some what → StandsSession k2 (answered r q.live taken)
      → line.text ≡ line_of taken what → TellsOf line q.live.sub q.live.rank r.tick (came_by q.live.slot taken what) → es2 ≡ es ++ Numbered line ∷ []
      → Replies config number es es2 ws new k2 r q i.item.history true
  replies_line k2 t new taken what line es2 m low due is tells stands text of lines =
      record {
        reply = reply.Taken taken;
        reply_is = sym (λ j. reply_by (due j) (is j) (is_pending i.item.history q.live.slot));
        lives =
            subst (λ (e : List Told). LivesAs config number e ws new k2 (answered r q.live taken)) (sym lines)
            (lives_told k2 t new taken what line m low is tells stands text of);
        told_is = sym (ap is_some tells);
        line = λ b. record {
          line = line;
          came = came_by q.live.slot taken what;
          lines = lines;
          of = of;
          text = text ∙ subst (λ (o : Option What). line_of taken what
              ≡ text_at (answered_by r q.live taken o).session.board.lines (length (answered_by r q.live taken o).session.board.lines)) (sym tells)
              (sym (text_last r.session.board.lines (Tells q.live.sub q.live.rank r.tick (came_by q.live.slot taken what))));
        };
        none = λ b. absurd (let x : true ≡ false = b in cc);
      }

  -- the line is the last one of the session
  pub told_last : (k2 : Kept) (t : SeatSeen) (new : List SubSeen) (taken : Taken) (what : What)
      → SeatMoves subs new q.live.sub q.live.rank t (seat_after t (length i.item.history) taken)
      → length es < GREATEST_NUMBER → (heard number es).life ≡ Alive → q.live.sub < 2 ^ 32 → q.live.rank < 2 ^ 32
      → cut i.item.history q.live.slot ≡ Some taken → what_of r.session.board.lines q.live taken ≡ Some what
      → StandsSession k2 (answered r q.live taken) → HasLast k2 (line_of taken what)
  told_last k2 t new taken what m low life sub rank is tells stands =
      let slot : SlotRef = ref_of q.live in
      let line : NumberedLine = record { text = line_of taken what; slot = Some slot; before = q.live.slot.cursor; upto = upto_of q.live.slot taken; at = q.live.slot.last; begun = None; tick = r.tick } in
      let of : TellsOf line q.live.sub q.live.rank r.tick (came_by q.live.slot taken what) =
      record { slot = slot; is = refl; sub_is = refl; rank_is = refl; tick_is = refl; before = refl; upto = refl; at = refl; begun = refl } in
      let u : SeatSeen = seat_after t (length i.item.history) taken in
      let alive : is_alive r.session.life ≡ true = ap is_alive (ap (λ (p : Spoken). p.life) asked.lives.told.told ∙ life) in
      line_last config number es (es ++ Numbered line ∷ []) ws subs new k k2 r q.live taken what asked.lives
      (lives_told k2 t new taken what line m low is tells stands refl of) tells alive
      (tells_short k r q.live taken what asked.lives.stands here (light_cut t u new taken m is) sub rank tells)

  -- the seat is the one that is found
  pub slot_is : ask.slot ≡ ref_of q.live
  slot_is = ap (λ (a : Ask). a.slot) asked.ask_is

  pub moves_of : (seats : ℕ) (at : SeatAt subs seats ask.slot) (u : SeatSeen)
      → SeatMoves subs (slice_set subs seats (seat_set at.group ask.slot.place u)) q.live.sub q.live.rank at.seat u
  moves_of seats at u =
      subst (λ (s : SlotRef). SeatMoves subs (slice_set subs seats (seat_set at.group ask.slot.place u)) s.sub s.place at.seat u) slot_is
      (seat_moves subs seats ask.slot at u)

  pub said_by : (seats : ℕ) (at : SeatAt subs seats ask.slot)
      → q.live.slot ≡ slot_of i.item.shape i.item.history at.seat.plan at.seat.list
  said_by seats at = slot_said at.seat at.seat _ (moves_of seats at at.seat)

  pub due_of : q.due ≡ ask.due
  due_of = sym (ap (λ (a : Ask). a.due) asked.ask_is)

-- answers by cases
pub on_err : {A E : Type 0} (P Q : Type 0) (r : Result A E) → (P → Q) → OnErr r P → OnErr r Q
on_err P Q (Ok a) f e = tt
on_err P Q (Err e) f p = f p

pub none_of : {A : Type 0} (o : Option A) → is_some o ≡ false → o ≡ None
none_of None is = refl
none_of (Some a) is = absurd (let x : true ≡ false = is in cc)

pub some_of : {A : Type 0} (o : Option A) → is_some o ≡ true → (a : A) × (o ≡ Some a)
some_of None is = absurd (let x : false ≡ true = is in cc)
some_of (Some a) is = (a, refl)
