-- A line is numbered, and with it a subscription ends or has another frequency; and a session has another bandwidth.
use Rattle.std.proofs.Common.{◌≡◌, ◌==◌, ◌≤◌, ◌<◌, ◌+◌, ◌++◌, ℕ, Bool, Option, List, [], ◌∷◌, length, map, true, false, None, Some, refl, sym, ◌∙◌, ap, subst}
use Rattle.std.proofs.Common.{cond, arith, option_map, unwrap_or}
use Rattle.std.specs.Option.{ForSome, option_map_or}
use Rattle.std.proofs.lemmas.Bool.{le-ltb}
use Rattle.ls_budget.specs.Kept.{KeptCredit, StandsBandwidth}
use Rattle.ls_budget.specs.Budget.{Spend}
use Rattle.ls_value.specs.declared.limits.TheConstants.{GREATEST_TICK}
use Rattle.ls_event.specs.declared.event.Mode.{Mode}
use Rattle.ls_event.specs.declared.event.Mode.TheVariants as mode
use Rattle.ls_turns.specs.Round.{Round, slots_of, left}
use Rattle.ls_line.specs.Lines.{text_of_line}
use Rattle.ls_record.specs.Lines.{Line, Ends, Configures, Answers, MessageOutcome, outcome_line, line_text, spent_by, spends_behind}
use Rattle.ls_stream.proofs.Moving.{lines_roomier, lines_numbered, lines_owed, with_next}
use Rattle.ls_stream.specs.Standing.{NumbersLine, IsRoomier, IsShort}
use Rattle.ls_stream.specs.declared.lines.Lines.{Lines as KeptLines}
use Rattle.ls_record.specs.Records.{LiveSlot, Session, numbered, removed, without, constrained}
use Rattle.ls_record.specs.Records.{bandwidth_text, is_alive}
use Rattle.ls_record.specs.Records.{with_frequency, frequency_in, with_outcome}
use Rattle.ls_subs.specs.declared.subs.Subs.{Subs}
use Rattle.ls_subs.specs.Standing.{ref_of, StandsSubs}
use Rattle.ls_subs.proofs.Keeping.{answered_stands}
use Rattle.ls_session.specs.Asking.{Asking, asked_anew, with_turns}
use Rattle.ls_session.specs.Front.{IsFront}
use Rattle.ls_session.specs.declared.asking.Front.{Front}
use Rattle.ls_session.proofs.Fronts.{front_answers}
use Rattle.ls_session.specs.Record.{Record, rests, begun_again, begun_anew, unless_ended}
use Rattle.ls_session.specs.Record.{slots_of as slots_in}
use Rattle.ls_session.specs.Session.{StandsSession, StandsRound, StandsRate, refs_of, configured}
use Rattle.ls_session.specs.declared.session.Session.{Session as Kept}
use Rattle.ls_session.proofs.Moves.{round_anew, rate_numbered}
use Rattle.ls_session.proofs.Seats.{left_slots, named_limited, no_front}

-- the round begins anew with other slots, at the same tick
pub round_with : (k k' : Asking) (turns : Round) (front : Option Front) (number floor tick : ℕ) (s : Session) → floor ≤ tick → tick ≤ GREATEST_TICK
    → k.tick ≡ tick → k' ≡ asked_anew k.tick (record k { turns = turns; front = front }) → slots_of turns ≡ map ref_of s.board.round → StandsRound k' (rests number floor tick s)
round_with k k' turns front number floor tick s above most same is slots =
    subst (λ (x : Asking). StandsRound x (rests number floor tick s)) (sym is)
    (subst (λ (n : ℕ). StandsRound (asked_anew n (record k { turns = turns; front = front })) (rests number floor tick s)) (sym same)
    (round_anew (record k { turns = turns; front = front }) number floor tick s above most slots))

-- a line is numbered, and the round begins anew with other slots, and with another floor
pub numbered_stands : (k : Kept) (lines₁ lines' : KeptLines) (subs' : Subs) (asking' : Asking) (bandwidth' : KeptCredit) (turns : Round) (front : Option Front)
    (r : Record) (l : Line)
    (round : List LiveSlot) (text : List ℕ) (floor : ℕ) → StandsSession k r → IsRoomier k.lines lines₁ → NumbersLine lines₁ text lines'
    → text ≡ line_text r.session.board.lines l
    → IsShort text → StandsSubs subs' (l ∷ r.session.board.lines) round
    → asking' ≡ asked_anew k.asking.tick (record k.asking { turns = turns; front = front })
    → slots_of turns ≡ map ref_of round → floor ≤ r.tick → StandsRate bandwidth' r.session.rate (l ∷ r.session.board.lines) floor
    → ForSome front (λ f. IsFront turns f (l ∷ r.session.board.lines) round)
    → StandsSession (record k { lines = lines'; subs = subs'; asking = asking'; bandwidth = bandwidth' })
    (rests r.number floor r.tick (numbered (with_next l round) r.session))
numbered_stands k lines₁ lines' subs' asking' bandwidth' turns front r l round text floor st room numbers is short subs anew slots above rate known =
    record {
      number = st.number;
      lines = lines_numbered lines₁ lines' r.session l round text (lines_roomier k.lines lines₁ r.session st.lines room) numbers is short;
      round = round_with k.asking asking' turns front r.number floor r.tick (numbered (with_next l round) r.session) above st.round.most st.round.tick anew slots;
      subs = subs;
      rate = rate;
      front = subst (λ (a : Asking). ForSome a.front (λ f. IsFront a.turns f (l ∷ r.session.board.lines) round)) (sym anew) known;
    }

-- a subscription's slots by their names
pub named_of : (sub : ℕ) (vs : List LiveSlot) → refs_of sub (map ref_of vs) ≡ map ref_of (slots_in sub vs)
named_of sub [] = refl
named_of sub (v ∷ vs) = by_test (sub == v.sub) (named_of sub vs)
  where
    by_test : (b : Bool) → refs_of sub (map ref_of vs) ≡ map ref_of (slots_in sub vs)
        → cond b (ref_of v ∷ refs_of sub (map ref_of vs)) (refs_of sub (map ref_of vs)) ≡ map ref_of (cond b (v ∷ slots_in sub vs) (slots_in sub vs))
    by_test true more = ap (λ xs. ref_of v ∷ xs) more
    by_test false more = more

-- they leave, and UNSUB is numbered
pub deleted : (k : Kept) (lines₁ lines' : KeptLines) (subs' : Subs) (asking' : Asking) (r : Record) (sub : ℕ) (text : List ℕ) → StandsSession k r
    → IsRoomier k.lines lines₁ → NumbersLine lines₁ text lines' → text ≡ line_text [] (Ends sub) → IsShort text
    → StandsSubs subs' (Ends sub ∷ r.session.board.lines) (without sub r.session.board.round) → asking' ≡ with_turns (left sub k.asking.turns) k.asking
    → StandsSession (record k { lines = lines'; subs = subs'; asking = asking' }) (begun_again (numbered (removed sub) r.session) r)
deleted k lines₁ lines' subs' asking' r sub text st room numbers is short subs anew =
    numbered_stands k lines₁ lines' subs' asking' k.bandwidth (left sub k.asking.turns) None r (Ends sub) (without sub r.session.board.round) text r.floor st room
    numbers is short subs anew (left_slots sub k.asking.turns r.session.board.round st.round.slots) st.round.above
    (rate_numbered k.bandwidth r.session.rate r.session.board.lines r.floor (Ends sub) st.rate refl) (no_front _)

-- a subscription has another frequency, and CONF is numbered
pub limited : (k : Kept) (lines₁ lines' : KeptLines) (subs' : Subs) (asking' : Asking) (r : Record) (sub : ℕ) (frequency : Option ℕ) (filtered : Bool)
    (text : List ℕ) → StandsSession k r → IsRoomier k.lines lines₁ → NumbersLine lines₁ text lines' → text ≡ line_text [] (Configures sub frequency filtered)
    → IsShort text
    → StandsSubs subs' (Configures sub frequency filtered ∷ r.session.board.lines) (map (with_frequency sub frequency) r.session.board.round)
    → asking' ≡ with_turns k.asking.turns k.asking
    → StandsSession (record k { lines = lines'; subs = subs'; asking = asking' })
    (begun_again (numbered (configured sub frequency filtered) r.session) r)
limited k lines₁ lines' subs' asking' r sub frequency filtered text st room numbers is short subs anew =
    numbered_stands k lines₁ lines' subs' asking' k.bandwidth k.asking.turns None r (Configures sub frequency filtered)
    (map (with_frequency sub frequency) r.session.board.round) text r.floor st room numbers is short subs anew
    (st.round.slots ∙ sym (named_limited sub frequency r.session.board.round)) st.round.above
    (rate_numbered k.bandwidth r.session.rate r.session.board.lines r.floor (Configures sub frequency filtered) st.rate refl) (no_front _)

-- a client is told what became of its message
pub outcome_stands : (k : Kept) (lines' : KeptLines) (asking' : Asking) (r : Record) (outcome : MessageOutcome) (text : List ℕ) → StandsSession k r
    → NumbersLine k.lines text lines' → text ≡ text_of_line (outcome_line outcome) → IsShort text → asking' ≡ asked_anew k.asking.tick k.asking
    → StandsSession (record k { lines = lines'; asking = asking' }) (begun_again (numbered (with_outcome outcome) r.session) r)
outcome_stands k lines' asking' r outcome text st numbers is short anew =
    numbered_stands k k.lines lines' k.subs asking' k.bandwidth k.asking.turns k.asking.front r (Answers outcome) r.session.board.round text r.floor st refl numbers is short
    (answered_stands k.subs outcome r.session.board.lines r.session.board.round st.subs) anew st.round.slots st.round.above
    (rate_numbered k.bandwidth r.session.rate r.session.board.lines r.floor (Answers outcome) st.rate refl)
    (λ f e. front_answers k.asking.turns f r.session.board.lines r.session.board.round outcome (st.front f e))

-- a frequency in a mode is above 0, where there is one
pub some_in : (m : Mode) (frequency : Option ℕ) → ForSome frequency (λ f. 0 < f) → ForSome (frequency_in m frequency) (λ f. 0 < f)
some_in mode.Raw frequency some = λ f e. absurd (let x : None ≡ Some f = e in cc)
some_in mode.Merge frequency some = some
some_in mode.Distinct frequency some = some
some_in mode.Command frequency some = some

-- a request that isn't refused is on a session that hasn't ended
pub not_ended : (s : Session) (code : Option ℕ) → unless_ended s code ≡ None → is_alive s.life ≡ true
not_ended s code is = by_test (is_alive s.life) is
  where
    by_test : (b : Bool) → cond {A = Option ℕ} b code (Some 20) ≡ None → b ≡ true
    by_test true e = refl
    by_test false e = absurd (let x : Some 20 ≡ None = e in cc)

-- nothing was spent behind the last line
pub spends_none : (n : ℕ) (lines : List Line) → length lines ≤ n → spends_behind n lines ≡ []
spends_none n [] high = refl
spends_none n (l ∷ lines) high = ap (λ v. cond v (spent_by lines l ++ spends_behind n lines) []) (le-ltb n (length lines + 1) (omega (arith, high)))

-- a session has another bandwidth
pub constrained_stands : (k : Kept) (lines' : KeptLines) (asking' : Asking) (bandwidth' : KeptCredit) (r : Record) (limit : Option ℕ) (now : ℕ) (text : List ℕ)
    → StandsSession k r → is_alive r.session.life ≡ true → now ≤ GREATEST_TICK → lines'.owed.items ≡ k.lines.owed.items ++ text ∷ [] → lines'
    ≡ record k.lines { owed = lines'.owed }
    → text ≡ bandwidth_text limit → IsShort text → asking' ≡ asked_anew now k.asking → bandwidth'.latest ≡ now → StandsBandwidth bandwidth' limit []
    → StandsSession (record k { lines = lines'; asking = asking'; bandwidth = bandwidth' }) (begun_anew now (constrained limit r.session) r)
constrained_stands k lines' asking' bandwidth' r limit now text st alive most owed rest is short anew latest stands =
    record {
      number = st.number;
      lines = lines_owed k.lines lines' r.session limit text st.lines alive owed rest is short;
      round = subst (λ (x : Asking). StandsRound x (begun_anew now (constrained limit r.session) r)) (sym anew)
          (round_anew k.asking r.number now now (constrained limit r.session) (omega arith) most st.round.slots);
      subs = st.subs;
      rate = record {
        latest = omega (arith, latest);
        behind = omega arith;
        spends = subst (λ (spends : List Spend). StandsBandwidth bandwidth' limit spends)
            (sym (spends_none (length r.session.board.lines) r.session.board.lines (omega arith))) stands;
      };
      front = subst (λ (a : Asking). ForSome a.front (λ f. IsFront a.turns f r.session.board.lines r.session.board.round)) (sym anew) st.front;
    }

-- the mode of a subscription, by what is kept of it
pub mode_is : (o : Option LiveSlot)
    → unwrap_or (option_map (λ (v : LiveSlot). v.slot.plan.mode) o) mode.Merge ≡ option_map_or (λ (v : LiveSlot). v.slot.plan.mode) o mode.Merge
mode_is None = refl
mode_is (Some v) = refl
