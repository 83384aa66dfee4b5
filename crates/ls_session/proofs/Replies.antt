-- A question is answered.
use Rattle.std.proofs.Common.{◌≡◌, ◌<◌, ◌≤◌, ◌+◌, ◌++◌, ℕ, zero, suc, Bool, Option, List, [], ◌∷◌, length, map, take, drop, true, false, None, Some, is_some}
use Rattle.std.proofs.Common.{Result, Ok, Err, inl, inr, IfOk, option_map, refl, sym, ◌∙◌, ap, subst, cond, arith, slice_get, min, nat_lt, ◌/◌, ◌^◌}
use Rattle.std.specs.Option.{ForSome, option_map_or}
use Rattle.std.proofs.lemmas.Bool.{leb-true}
use Rattle.std.proofs.lemmas.List.{map-append, take-map, drop-map}
use Rattle.ls_budget.specs.Budget.{Spend, credit_tick, has_credit, debt}
use Rattle.ls_budget.specs.Due.{due_at as due_answer}
use Rattle.ls_budget.specs.Kept.{KeptCredit}
use Rattle.ls_budget.specs.declared.due.Due.{Due}
use Rattle.ls_budget.specs.declared.due.Due.TheVariants as due
use Rattle.ls_event.specs.declared.event.Taken.{Taken}
use Rattle.ls_mirror.specs.Client.{What}
use Rattle.ls_turns.specs.Round.{gave}
use Rattle.ls_record.specs.Came.{came_by}
use Rattle.ls_record.specs.Lines.{Line, Tells, line_text, tells_text, last_row, came, is_update, spends_behind}
use Rattle.ls_record.specs.Records.{LiveSlot, change, is_due, due_at}
use Rattle.ls_record.specs.Light.{IsLight}
use Rattle.ls_record.proofs.Short.{line_is_short}
use Rattle.ls_subs.specs.declared.plan.PlanItem.{PlanItem}
use Rattle.ls_subs.specs.declared.subs.Subs.{Subs}
use Rattle.ls_subs.specs.Kept.{kept_at}
use Rattle.ls_subs.proofs.Moves.{found_live}
use Rattle.ls_subs.specs.declared.cut_line.CutLine.TheVariants as tells
use Rattle.ls_subs.specs.Standing.{ref_of, StandsKeptAt, AskedSlot, AcceptedAs, what_of, passed_live, passed_at, passed_back}
use Rattle.ls_subs.specs.Subscription.{Appended, told_by}
use Rattle.ls_session.specs.Asking.{Asking, ask_of, is_now, unasked, with_gave, waiting}
use Rattle.ls_session.specs.Record.{Record, Question, question_of, answered, answered_by, passed_over, waited}
use Rattle.ls_stream.proofs.Moving.{lines_roomier, lines_round}
use Rattle.ls_stream.specs.Standing.{IsShort, IsRoomier, NumbersLine}
use Rattle.ls_stream.specs.declared.lines.Lines.{Lines as KeptLines}
use Rattle.ls_session.specs.Session.{StandsSession, StandsRate, PassesOver, SpendsText, IsOther, asked_of, ask_in, suits}
use Rattle.ls_session.specs.declared.asking.Asked.{Asked}
use Rattle.ls_session.specs.declared.session.Reply.{Reply}
use Rattle.ls_session.specs.declared.session.Session.{Session as Kept}
use Rattle.ls_session.specs.Front.{tick_of}
use Rattle.ls_session.specs.declared.asking.Front.{Front}
use Rattle.ls_session.proofs.Changing.{numbered_stands}
use Rattle.ls_session.proofs.Fronts.{due_early, front_silent, front_told}
use Rattle.ls_session.proofs.Moves.{rate_later, rate_numbered, rate_spent}
use Rattle.ls_session.proofs.Seats.{gave_slots}
use Rattle.ls_session.proofs.Turns.{is_now_due}

-- the slot that is asked
abbrev pub asked_slot : Record → LiveSlot → AskedSlot
asked_slot r v = record { lines = r.session.board.lines; round = r.session.board.round; place = r.asked; live = v; now = r.tick }

-- what a question that stands says
pub question_parts : (r : Record) (q : Question) → question_of r ≡ Some q
    → (slice_get r.session.board.round r.asked ≡ Some q.live) × (q.due ≡ is_due r.tick r.session q.live)
question_parts r q is = by_parts r.asks (slice_get r.session.board.round r.asked) is
  where
    by_parts : (asks : Bool) (o : Option LiveSlot)
        → cond asks (option_map (λ (v : LiveSlot). record { live = v; due = is_due r.tick r.session v }) o) None ≡ Some q
        → (o ≡ Some q.live) × (q.due ≡ is_due r.tick r.session q.live)
    by_parts false o e = absurd (let x : None ≡ Some q = e in cc)
    by_parts true None e = absurd (let x : None ≡ Some q = e in cc)
    by_parts true (Some v) e =
        let x : Some (record { live = v; due = is_due r.tick r.session v }) ≡ Some q = e in
        let same : record { live = v; due = is_due r.tick r.session v } ≡ q = cc in (
          ap Some (ap (λ (y : Question). y.live) same),
          sym (ap (λ (y : Question). y.due) same) ∙ ap (λ (y : Question). is_due r.tick r.session y.live) same,
        )

-- a question as it is asked and as it is kept
pub asked_is : (r : Record) (q : Question) → question_of r ≡ Some q → ask_of (asked_of r.tick r.session q) ≡ ask_in q
asked_is r q is =
    ap (λ (b : Bool). record { slot = ref_of q.live; due = b }) (is_now_due (due_at r.tick r.session q.live) r.tick ∙ sym (question_parts r q is).1)

-- the question that is kept
pub kept_is : (k : Kept) (r : Record) (q : Question) → StandsSession k r → question_of r ≡ Some q → k.asking.question ≡ Some (asked_of r.tick r.session q)
kept_is k r q st is = st.round.question ∙ ap (option_map (asked_of r.tick r.session)) is

pub kept_same : (k : Kept) (r : Record) (q : Question) (a : Asked) → StandsSession k r → question_of r ≡ Some q → k.asking.question ≡ Some a
    → a ≡ asked_of r.tick r.session q
kept_same k r q a st is kept =
    let x : Some a ≡ Some (asked_of r.tick r.session q) = sym kept ∙ kept_is k r q st is in cc

-- where none is kept none stands, and the one that is kept is the one that stands
pub none_stands : (k : Kept) (r : Record) (q : Question) → StandsSession k r → k.asking.question ≡ None → question_of r ≡ Some q → ⊥
none_stands k r q st none is = absurd (let x : None ≡ Some (asked_of r.tick r.session q) = sym none ∙ kept_is k r q st is in cc)

pub kept_stands : (k : Kept) (r : Record) (a : Asked) → StandsSession k r → k.asking.question ≡ Some a → option_map ask_in (question_of r) ≡ Some (ask_of a)
kept_stands k r a st kept = by_question (question_of r) refl
  where
    by_question : (o : Option Question) → question_of r ≡ o → option_map ask_in o ≡ Some (ask_of a)
    by_question None e =
        absurd (let x : Some a ≡ None = sym kept ∙ st.round.question ∙ ap (option_map (asked_of r.tick r.session)) e in cc)
    by_question (Some q) e = ap Some (sym (asked_is r q e) ∙ sym (ap ask_of (kept_same k r q a st e kept)))

-- a question that is asked of this slot is kept of it, and by whether it is due
pub kept_asked : (k : Kept) (r : Record) (v : LiveSlot) (d : Bool) (a : Asked) → StandsSession k r → question_of r ≡ Some (record { live = v; due = d })
    → k.asking.question ≡ Some a → ask_of a ≡ record { slot = ref_of v; due = d }
kept_asked k r v d a st is kept = ap ask_of (kept_same k r (record { live = v; due = d }) a st is kept) ∙ asked_is r (record { live = v; due = d }) is

-- a reply of a question that is kept is another's where it doesn't suit the question
pub other_unsuited : (k : Kept) (r : Record) (a : Asked) (reply : Reply) → StandsSession k r → k.asking.question ≡ Some a
    → IsOther r (ask_of a) reply → suits (is_now a.due) reply ≡ false
other_unsuited k r a reply st kept (inl other) = absurd (other (kept_stands k r a st kept))
other_unsuited k r a reply st kept (inr unsuited) = unsuited

-- the next slot is asked next
pub passed_stands : (k k' : Kept) (r : Record) → StandsSession k r → PassesOver k.asking k k' → StandsSession k' (passed_over r)
passed_stands k k' r st passes =
    subst (λ (x : Kept). StandsSession x (passed_over r)) (sym passes.rest)
    (subst (λ (a : Asking). StandsSession (record k { asking = a }) (passed_over r)) (sym passes.asking.rest)
    (record {
      number = st.number;
      lines = st.lines;
      round = record {
        slots = st.round.slots;
        tick = st.round.tick;
        above = st.round.above;
        most = st.round.most;
        next = passes.asking.next r.asked st.round.next;
        asks = refl;
        question = refl;
        wait = st.round.wait;
        left = λ q e. absurd (let x : None ≡ Some q = e in cc);
      };
      subs = st.subs;
      rate = st.rate;
      front = st.front;
    }))

pub waited_stands : (k k' : Kept) (r : Record) (v : LiveSlot) (tick : ℕ) → StandsSession k r → tick ≡ due_at r.tick r.session v
    → PassesOver (waiting tick k.asking) k k' → StandsSession k' (waited r v)
waited_stands k k' r v tick st is passes =
    subst (λ (x : Kept). StandsSession x (waited r v)) (sym passes.rest)
    (subst (λ (a : Asking). StandsSession (record k { asking = a }) (waited r v)) (sym passes.asking.rest)
    (record {
      number = st.number;
      lines = st.lines;
      round = record {
        slots = st.round.slots;
        tick = st.round.tick;
        above = st.round.above;
        most = st.round.most;
        next = passes.asking.next r.asked st.round.next;
        asks = refl;
        question = refl;
        wait = ap Some (ap (λ n. option_map_or (min n) k.asking.wait n) is
            ∙ ap (λ o. option_map_or (min (due_at r.tick r.session v)) o (due_at r.tick r.session v)) st.round.wait);
        left = λ q e. absurd (let x : None ≡ Some q = e in cc);
      };
      subs = st.subs;
      rate = st.rate;
      front = st.front;
    }))

-- a slot that isn't due is due at a tick
pub not_due_at : (a : Due) (tick now : ℕ) → a ≡ due_answer tick now → is_now a ≡ false → a ≡ due.At tick
not_due_at a tick now is not_now = by_test (nat_lt now tick) is
  where
    by_test : (b : Bool) → a ≡ cond b (due.At tick) due.Now → a ≡ due.At tick
    by_test true e = e
    by_test false e = absurd (let x : true ≡ false = sym (ap is_now e) ∙ not_now in cc)

pub due_now : (a : Due) → is_now a ≡ true → a ≡ due.Now
due_now due.Now is = refl
due_now (due.At tick) is = absurd (let x : false ≡ true = is in cc)

-- a slot that was moved past a cut keeps its name, also at the back
named_same : (n : ℕ) (t : Taken) (vs : List LiveSlot) → map ref_of (change n (passed_live t) vs) ≡ map ref_of vs
named_same n t [] = refl
named_same zero t (v ∷ vs) = refl
named_same (suc n) t (v ∷ vs) = ap (λ xs. ref_of v ∷ xs) (named_same n t vs)

named_back : (n : ℕ) (v : LiveSlot) (t : Taken) (vs : List LiveSlot)
    → map ref_of (passed_back n v t vs) ≡ (take n (map ref_of vs) ++ drop (n + 1) (map ref_of vs)) ++ ref_of v ∷ []
named_back n v t vs =
    map-append ref_of (take n vs ++ drop (n + 1) vs) (passed_live t v ∷ [])
    ∙ ap (λ xs. xs ++ ref_of v ∷ []) (map-append ref_of (take n vs) (drop (n + 1) vs))
    ∙ ap (λ xs. (xs ++ map ref_of (drop (n + 1) vs)) ++ ref_of v ∷ []) (sym (take-map ref_of n vs))
    ∙ ap (λ xs. (take n (map ref_of vs) ++ xs) ++ ref_of v ∷ []) (sym (drop-map ref_of (n + 1) vs))

-- the frequency of a slot that is due allows an update before that of the first ones does
allowed_early : (k : Kept) (r : Record) (v : LiveSlot) → is_due r.tick r.session v ≡ true → ForSome k.asking.front (λ f. r.tick < f.tick)
    → (f : Front) → k.asking.front ≡ Some f → tick_of r.session.board.lines v < f.tick
allowed_early k r v due later f e = omega (arith, due_early r.tick r.session v due, later f e)

-- a cut that makes no line
pub answered_silent : (k : Kept) (lines₁ : KeptLines) (subs' : Subs) (asking' : Asking) (r : Record) (v : LiveSlot) (t : Taken) (a : Appended) → StandsSession k r
    → IsRoomier k.lines lines₁ → asking' ≡ unasked k.asking → a.told ≡ tells.Nothing
    → slice_get r.session.board.round r.asked ≡ Some v → is_due r.tick r.session v ≡ true → ForSome k.asking.front (λ f. r.tick < f.tick)
    → AcceptedAs (what_of r.session.board.lines v t) subs' (asked_slot r v) t a
    → (false ≡ is_some (what_of r.session.board.lines v t))
    × StandsSession (record k { lines = lines₁; subs = subs'; asking = asking' }) (answered r v t)
answered_silent k lines₁ subs' asking' r v t a st room again silent here due later accepted =
    by_what (what_of r.session.board.lines v t) accepted
  where
    by_what : (o : Option What) → AcceptedAs o subs' (asked_slot r v) t a
        → (false ≡ is_some o) × StandsSession (record k { lines = lines₁; subs = subs'; asking = asking' }) (answered_by r v t o)
    by_what (Some what) d = absurd (speaks (is_update what) (sym d.0.0 ∙ silent))
      where
        speaks : (b : Bool) → cond b tells.Update tells.Other ≡ tells.Nothing → ⊥
        speaks true e = absurd (let x : tells.Update ≡ tells.Nothing = e in cc)
        speaks false e = absurd (let x : tells.Other ≡ tells.Nothing = e in cc)
    by_what None d = (
      refl,
      subst (λ (x : Asking). StandsSession (record k { lines = lines₁; subs = subs'; asking = x }) (answered_by r v t None)) (sym again)
          (record {
            number = st.number;
            lines = lines_round lines₁ r.session (passed_at r.asked t r.session.board.round)
                (lines_roomier k.lines lines₁ r.session st.lines room);
            round = record {
              slots = st.round.slots ∙ sym (named_same r.asked t r.session.board.round);
              tick = st.round.tick;
              above = st.round.above;
              most = st.round.most;
              next = st.round.next;
              asks = refl;
              question = refl;
              wait = st.round.wait;
              left = λ q e. absurd (let x : None ≡ Some q = e in cc);
            };
            subs = d.1;
            rate = st.rate;
            front = λ f e. front_silent k.asking.turns f r.session.board.lines r.session.board.round r.asked v t (st.front f e) here
                (allowed_early k r v due later f e);
          }),
    )

-- a cut that makes a line, which is numbered
pub answered_line : (k : Kept) (lines₁ lines' : KeptLines) (subs' : Subs) (asking' : Asking) (bandwidth' : KeptCredit) (r : Record) (v : LiveSlot) (t : Taken)
    (a : Appended) → StandsSession k r → IsRoomier k.lines lines₁ → NumbersLine lines₁ a.after lines' → a.before ≡ []
    → slice_get r.session.board.round r.asked ≡ Some v → is_due r.tick r.session v ≡ true → ForSome k.asking.front (λ f. r.tick < f.tick)
    → asking' ≡ with_gave (gave v.sub v.rank k.asking.turns) k.asking
    → (a.told ≡ tells.Nothing → ⊥)
    → ((what : What) → what_of r.session.board.lines v t ≡ Some what
    → IsShort (tells_text (last_row (came v.sub v.rank r.session.board.lines)) v.sub v.rank what))
    → ((what : What) → a.told ≡ told_by what → a.after ≡ line_text r.session.board.lines (Tells v.sub v.rank r.tick (came_by v.slot t what)) → IsShort a.after
    → StandsRate bandwidth' r.session.rate (Tells v.sub v.rank r.tick (came_by v.slot t what) ∷ r.session.board.lines) r.tick)
    → AcceptedAs (what_of r.session.board.lines v t) subs' (asked_slot r v) t a
    → (true ≡ is_some (what_of r.session.board.lines v t))
    × StandsSession (record k { lines = lines'; subs = subs'; asking = asking'; bandwidth = bandwidth' }) (answered r v t)
answered_line k lines₁ lines' subs' asking' bandwidth' r v t a st room numbers empty here due later gives speaks short rate accepted =
    by_what (what_of r.session.board.lines v t) refl accepted
  where
    by_what : (o : Option What) → what_of r.session.board.lines v t ≡ o → AcceptedAs o subs' (asked_slot r v) t a
        → (true ≡ is_some o)
        × StandsSession (record k { lines = lines'; subs = subs'; asking = asking'; bandwidth = bandwidth' }) (answered_by r v t o)
    by_what None e d = absurd (speaks d.0.0)
    by_what (Some what) e d =
        let lines : List Line = r.session.board.lines in
        let l : Line = Tells v.sub v.rank r.tick (came_by v.slot t what) in
        let text : a.after ≡ line_text lines l =
        d.0.1 ∙ ap (λ ts. ts ++ tells_text (last_row (came v.sub v.rank lines)) v.sub v.rank what) empty in
        let few : IsShort a.after = subst (λ (x : List ℕ). IsShort x) (sym text) (short what e) in (
          refl,
          numbered_stands k lines₁ lines' subs' asking' bandwidth' (gave v.sub v.rank k.asking.turns) k.asking.front r l (passed_back r.asked v t r.session.board.round)
              a.after r.tick
              st room numbers text few d.1 gives
              (gave_slots k.asking.turns r.session.board.round r.asked v st.subs.apart st.round.slots here
              ∙ sym (named_back r.asked v t r.session.board.round))
              (omega arith) (rate what d.0.0 text few)
              (λ f e. front_told k.asking.turns f lines r.session.board.round r.asked r.tick v t (came_by v.slot t what) (st.front f e)
              st.round.slots st.subs.apart here (allowed_early k r v due later f e)),
        )

-- what a light cut tells is short
pub tells_short : (k : Kept) (r : Record) (v : LiveSlot) (t : Taken) (what : What) → StandsSession k r → slice_get r.session.board.round r.asked ≡ Some v
    → IsLight v.wanted.places t → v.sub < 2 ^ 32 → v.rank < 2 ^ 32 → what_of r.session.board.lines v t ≡ Some what
    → IsShort (tells_text (last_row (came v.sub v.rank r.session.board.lines)) v.sub v.rank what)
tells_short k r v t what st here light sub rank is =
    let kept : StandsKeptAt (kept_at k.subs v.sub v.rank) r.session.board.lines (Some v) =
    subst (λ (o : Option LiveSlot). StandsKeptAt (kept_at k.subs v.sub v.rank) r.session.board.lines o)
    (found_live r.asked r.session.board.round v st.subs.apart here) (st.subs.at v.sub v.rank) in
    by_kept (kept_at k.subs v.sub v.rank) kept
  where
    by_kept : (o : Option PlanItem) → StandsKeptAt o r.session.board.lines (Some v)
        → IsShort (tells_text (last_row (came v.sub v.rank r.session.board.lines)) v.sub v.rank what)
    by_kept None e = absurd e
    by_kept (Some p) e =
        line_is_short v.wanted v.slot (came v.sub v.rank r.session.board.lines) t what v.sub v.rank e.narrow.few e.client.wide light sub rank is

-- the credit's tick isn't before the tick at which it is asked
credit_later : (limit : Option ℕ) (spends : List Spend) (now : ℕ) → now ≤ credit_tick limit spends now
credit_later None spends now = omega arith
credit_later (Some r) spends now = by_test (has_credit r spends now)
  where
    by_test : (b : Bool) → now ≤ cond b now (now + debt r spends now / r + 1)
    by_test true = omega arith
    by_test false = omega arith

-- a slot that is due has credit
pub credit_now : (r : Record) (v : LiveSlot) → is_due r.tick r.session v ≡ true
    → credit_tick r.session.rate.limit (spends_behind r.session.rate.behind r.session.board.lines) r.tick ≡ r.tick
credit_now r v is =
    omega (
      arith,
      leb-true (due_at r.tick r.session v) r.tick is,
      credit_later r.session.rate.limit (spends_behind r.session.rate.behind r.session.board.lines) r.tick,
    )

-- what an update takes
pub update_rate : (k : Kept) (bandwidth' : KeptCredit) (r : Record) (v : LiveSlot) (t : Taken) (what : What) (text : List ℕ) → StandsSession k r
    → is_due r.tick r.session v ≡ true → SpendsText text k.asking.tick k.bandwidth bandwidth' → tells.Update ≡ told_by what
    → text ≡ line_text r.session.board.lines (Tells v.sub v.rank r.tick (came_by v.slot t what)) → IsShort text
    → StandsRate bandwidth' r.session.rate (Tells v.sub v.rank r.tick (came_by v.slot t what) ∷ r.session.board.lines) r.tick
update_rate k bandwidth' r v t what text st is spends told text_is short =
    let spends' : SpendsText text r.tick k.bandwidth bandwidth' = subst (λ (n : ℕ). SpendsText text n k.bandwidth bandwidth') st.round.tick spends in
    let spent = spends' r.session.rate.limit (spends_behind r.session.rate.behind r.session.board.lines) st.rate.spends
    (omega (arith, st.rate.latest, st.round.above)) st.round.most
    (credit_now r v is) short in
    let l : Line = Tells v.sub v.rank r.tick (came_by v.slot t what) in
    let updates : is_update what ≡ true = by_told (is_update what) told in
    rate_spent k.bandwidth bandwidth' r.session.rate r.session.board.lines r.tick l (record { tick = r.tick; bytes = length text + 2 })
    (rate_later k.bandwidth r.session.rate r.session.board.lines r.floor r.tick st.rate st.round.above)
    (ap (λ (b : Bool). cond b (record { tick = r.tick; bytes = length (line_text r.session.board.lines l) + 2 } ∷ []) []) updates
    ∙ ap (λ (x : List ℕ). record { tick = r.tick; bytes = length x + 2 } ∷ []) (sym text_is))
    (omega (arith, spent.0)) spent.1
  where
    by_told : (b : Bool) → tells.Update ≡ cond b tells.Update tells.Other → b ≡ true
    by_told true e = refl
    by_told false e = absurd (let x : tells.Update ≡ tells.Other = e in cc)

-- and what another line takes
pub other_rate : (k : Kept) (r : Record) (v : LiveSlot) (t : Taken) (what : What) → StandsSession k r → tells.Other ≡ told_by what
    → StandsRate k.bandwidth r.session.rate (Tells v.sub v.rank r.tick (came_by v.slot t what) ∷ r.session.board.lines) r.tick
other_rate k r v t what st told =
    let l : Line = Tells v.sub v.rank r.tick (came_by v.slot t what) in
    rate_numbered k.bandwidth r.session.rate r.session.board.lines r.tick l
    (rate_later k.bandwidth r.session.rate r.session.board.lines r.floor r.tick st.rate st.round.above)
    (ap (λ (b : Bool). cond b (record { tick = r.tick; bytes = length (line_text r.session.board.lines l) + 2 } ∷ []) [])
    (by_told (is_update what) told))
  where
    by_told : (b : Bool) → tells.Other ≡ cond b tells.Update tells.Other → b ≡ false
    by_told false e = refl
    by_told true e = absurd (let x : tells.Other ≡ tells.Update = e in cc)

-- a call's answer, by what the call above makes of it
pub ok_then : {T E : Type 0} (P Q : T → Type 0) (r : Result T E) → ((t : T) → Q t → P t) → IfOk r Q → IfOk r P
ok_then P Q (Ok t) f q = f t q
ok_then P Q (Err e) f q = tt
