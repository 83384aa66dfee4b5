-- A turn of a session in threads.
use Rattle.std.proofs.Common.{◌≡◌, ◌≤◌, ◌<◌, ℕ, ◌+◌, List, [], ◌∷◌, ◌++◌, length, refl, sym, ◌∙◌, ap, arith, subst, cond, inl, inr, ◌⊎◌, Bool, true}
use Rattle.std.proofs.Common.{false, not, ◌&&◌, Option, Some, None, is_some, slice_get, nat_lt, nat_le}
use Rattle.std.proofs.lemmas.Bool.{ltb-true, leb-true, leb-false}
use Rattle.ls_value.specs.Each.{Each}
use Rattle.ls_value.specs.declared.limits.TheConstants.{GREATEST_NUMBER, GREATEST_TICK}
use Rattle.ls_event.specs.declared.item.ItemDef.{ItemDef}
use Rattle.ls_record.proofs.Rules.{cond_rule}
use Rattle.ls_record.specs.Records.{LiveSlot, Board, Session, Life, Alive, Ending, Closed, is_alive, is_bound, is_due, is_unsent, is_to_loop}
use Rattle.ls_record.specs.Turning.{loop_text, end_text}
use Rattle.ls_register.specs.declared.told.Told.{Told}
use Rattle.ls_register.specs.declared.told.Told.TheVariants.{Gave}
use Rattle.ls_session.specs.declared.session.Session.{Session as Kept}
use Rattle.ls_session.specs.declared.session.Ask.{Ask}
use Rattle.ls_session.specs.declared.session.Turn.{Turn}
use Rattle.ls_session.specs.Record.{Record, Turned, Question, Gives, Send, Asks, Idle, NotDue, Spent, Superseded, Unbound, Ended, turned}
use Rattle.ls_session.specs.Record.{round_turned, round_asked, wait_from, from_place, waits_until, gives_unbound}
use Rattle.ls_session.specs.Session.{StandsSession, AnswersTurn, current_of}
use Rattle.ls_told.specs.Spoken.{Spoken, spoken_of, next_of, next_living, text_of_next, GivesNothing}
use Rattle.ls_told.specs.Heard.{heard, counts_as}
use Rattle.ls_told.specs.Seen.{Watched, items_seen}
use Rattle.ls_told.proofs.Texts.{length_texts, text_is}
use Rattle.ls_record.specs.Lines.{text_at}
use Rattle.ls_told.proofs.Turns.{turned_rule, next_ending, next_owed, next_loop, next_line, next_nothing}
use Rattle.ls_told.proofs.Answered.{turn_keeps, keeps_turned, keeps_unturned}
use Rattle.ls_session.specs.declared.session.Turn.TheVariants as turn
use Rattle.ls_taking.specs.Groups.{SubSeen}
use Rattle.ls_taking.specs.Lives.{LivesAs, HasSeat, FitsHistory}
use Rattle.ls_parts.specs.Giving.{StaysStill, given, speaks, Gives as GivesTo}
use Rattle.ls_parts.proofs.Bounds.{fits_gave, fits_end}
use Rattle.ls_parts.proofs.Living.{latest_at, at_latest}

-- the stream of an epoch is the newest one and bound
pub record OnStream (epoch : ℕ) (p : Spoken) : Type 0 where
  pub newest : nat_lt epoch (length p.streams) ≡ false
  pub bound : p.unbound ≡ None

-- and nothing waits to be given on it
pub record Rests (epoch : ℕ) (p : Spoken) : Type 0 where
  pub on : OnStream epoch p
  pub alive : p.life ≡ Alive
  pub none : next_of p ≡ GivesNothing

abbrev pub OverFor : ℕ → Spoken → Type 0
OverFor code p = (p.life ≡ Closed code) ⊎ ((p.life ≡ Ending code) × ((since : ℕ) × (p.unbound ≡ Some since)))

-- why a turn gives what it gives
abbrev pub Causes : ℕ → Spoken → Gives → Type 0
Causes epoch p (Send text) = OnStream epoch p × (text_of_next (next_of p) ≡ Some text)
Causes epoch p (Asks q) = Rests epoch p
Causes epoch p Idle = Rests epoch p
Causes epoch p (NotDue at) = Rests epoch p
Causes epoch p Spent = GREATEST_NUMBER ≤ length p.texts
Causes epoch p (Superseded newest) = (epoch < newest) × (newest ≡ length p.streams)
Causes epoch p Unbound = (since : ℕ) × (p.unbound ≡ Some since)
Causes epoch p (Ended code) = OverFor code p

bound_is : (s : Session) → is_bound s ≡ true → s.unbound ≡ None
bound_is s is = by_value s.unbound is
  where
    by_value : (o : Option ℕ) → not (is_some o) ≡ true → o ≡ None
    by_value None is = refl
    by_value (Some t) is = absurd (let x : false ≡ true = is in cc)

unbound_is : (s : Session) → is_bound s ≡ false → (since : ℕ) × (s.unbound ≡ Some since)
unbound_is s is = by_value s.unbound is
  where
    by_value : (o : Option ℕ) → not (is_some o) ≡ false → (since : ℕ) × (o ≡ Some since)
    by_value None is = absurd (let x : true ≡ false = is in cc)
    by_value (Some t) is = (t, refl)

on_stream : (epoch : ℕ) (s : Session) → nat_lt epoch (length s.streams) ≡ false → is_bound s ≡ true → OnStream epoch (spoken_of s)
on_stream epoch s own bound = record { newest = own; bound = bound_is s bound }

round_causes : (now epoch : ℕ) (r : Record) → Rests epoch (spoken_of r.session) → Causes epoch (spoken_of r.session) (round_turned now r).gives
round_causes now epoch r rests = by_slot (slice_get r.session.board.round (from_place now r))
  where
    by_wait : (wait : Option ℕ) → Causes epoch (spoken_of r.session) (waits_until wait)
    by_wait None = rests
    by_wait (Some tick) = rests

    full : (a b : Bool) → (a && b) ≡ true → b ≡ true
    full true b is = is
    full false b is = absurd (let x : false ≡ true = is in cc)

    by_slot : (o : Option LiveSlot)
        → Causes epoch (spoken_of r.session) (round_asked now (wait_from now r) r (from_place now r) o).gives
    by_slot None = by_wait (wait_from now r)
    by_slot (Some v) =
        cond_rule (λ (t : Turned). Causes epoch (spoken_of r.session) t.gives)
        (is_due now r.session v && nat_le GREATEST_NUMBER (length r.session.board.lines)) _ _
        (λ t. omega (
          arith,
          length_texts r.session.board.lines,
          leb-true GREATEST_NUMBER (length r.session.board.lines)
              (full (is_due now r.session v) (nat_le GREATEST_NUMBER (length r.session.board.lines)) t),
        )) (λ t. rests)

-- a turn has its cause
pub turned_causes : (now epoch : ℕ) (r : Record) → Causes epoch (spoken_of r.session) (turned now epoch r).gives
turned_causes now epoch r = turned_rule (λ (t : Turned). Causes epoch (spoken_of r.session) t.gives) now epoch r (record {
  superseded = λ newer. (ltb-true epoch (length r.session.streams) newer, refl);
  unbound = λ own none. by_life r.session.life refl (unbound_is r.session none);
  owes = λ text owed own bound alive is. (on_stream epoch r.session own bound, ap text_of_next (next_owed r.session text owed alive is));
  loops = λ own bound alive none over. (on_stream epoch r.session own bound, ap text_of_next (next_loop r.session alive none over));
  next = λ own bound alive none stays unsent. (on_stream epoch r.session own bound, (turn_given own bound alive none stays unsent));
  round = λ own bound alive none stays sent. round_causes now epoch r
      (record { on = on_stream epoch r.session own bound; alive = alive; none = next_nothing r.session alive none stays sent });
  ending = λ code own bound ends. (on_stream epoch r.session own bound, ap text_of_next (next_ending r.session code ends));
  over = λ code own bound closed. inl closed;
})
  where
    by_life : (life : Life) → r.session.life ≡ life → (since : ℕ) × (r.session.unbound ≡ Some since)
        → Causes epoch (spoken_of r.session) (gives_unbound life)
    by_life Alive is none = none
    by_life (Ending code) is none = inr (is, none)
    by_life (Closed code) is none = inl is

    turn_given : nat_lt epoch (length r.session.streams) ≡ false → is_bound r.session ≡ true → r.session.life ≡ Alive → r.session.owed ≡ []
        → is_to_loop r.session.streams ≡ false → is_unsent r.session ≡ true
        → text_of_next (next_of (spoken_of r.session)) ≡ Some (text_at r.session.board.lines (r.session.sent + 1))
    turn_given own bound alive none stays unsent =
        ap text_of_next (next_line r.session alive none stays unsent)
        ∙ ap (λ (t : List ℕ). Some t) (sym (text_is r.session.board.lines (r.session.sent + 1)))

-- the record after a turn
pub record AfterTurn (now : ℕ) (r : Record) (t : Turned) : Type 0 where
  pub number : t.after.number ≡ r.number
  pub sent : (text : List ℕ) → t.gives ≡ Send text → t.after.floor ≡ now
  pub silent : ((text : List ℕ) → t.gives ≡ Send text → ⊥) → t.after.floor ≡ r.floor

waits_silent : (wait : Option ℕ) (text : List ℕ) → waits_until wait ≡ Send text → ⊥
waits_silent None text is = let x : Idle ≡ Send text = is in cc
waits_silent (Some tick) text is = let x : NotDue tick ≡ Send text = is in cc

ended_silent : (life : Life) (text : List ℕ) → gives_unbound life ≡ Send text → ⊥
ended_silent Alive text is = let x : Unbound ≡ Send text = is in cc
ended_silent (Ending code) text is = let x : Ended code ≡ Send text = is in cc
ended_silent (Closed code) text is = let x : Ended code ≡ Send text = is in cc

after_round : (now : ℕ) (r : Record) → AfterTurn now r (round_turned now r)
after_round now r = by_slot (slice_get r.session.board.round (from_place now r))
  where
    by_slot : (o : Option LiveSlot) → AfterTurn now r (round_asked now (wait_from now r) r (from_place now r) o)
    by_slot None = record { number = refl; sent = λ text is. absurd (waits_silent (wait_from now r) text is); silent = λ none. refl }
    by_slot (Some v) =
        cond_rule (AfterTurn now r) (is_due now r.session v && nat_le GREATEST_NUMBER (length r.session.board.lines)) _ _
        (λ t. record { number = refl; sent = λ text is. absurd (let x : Spent ≡ Send text = is in cc); silent = λ none. refl })
        (λ t. record { number = refl; sent = λ text is. absurd (asks_silent _ text is); silent = λ none. refl })
      where
        asks_silent : (q : Question) (text : List ℕ) → Asks q ≡ Send text → ⊥
        asks_silent q text is = cc

pub after_turn : (now epoch : ℕ) (r : Record) → AfterTurn now r (turned now epoch r)
after_turn now epoch r = turned_rule (AfterTurn now r) now epoch r (record {
  superseded = λ newer. record {
    number = refl;
    sent = λ text is. absurd (let x : Superseded (length r.session.streams) ≡ Send text = is in cc);
    silent = λ none. refl;
  };
  unbound = λ own none. record { number = refl; sent = λ text is. absurd (ended_silent r.session.life text is); silent = λ none. refl };
  owes = λ text owed own bound alive is. record { number = refl; sent = λ t e. refl; silent = λ none. absurd (none text refl) };
  loops = λ own bound alive none over. record { number = refl; sent = λ t e. refl; silent = λ no_line. absurd (no_line loop_text refl) };
  next = λ own bound alive none stays unsent. record { number = refl; sent = λ t e. refl; silent = λ no_line. absurd (no_line _ refl) };
  round = λ own bound alive none stays sent. after_round now r;
  ending = λ code own bound ends. record { number = refl; sent = λ t e. refl; silent = λ none. absurd (none (end_text code) refl) };
  over = λ code own bound closed. record { number = refl; sent = λ text is. absurd (let x : Ended code ≡ Send text = is in cc); silent = λ none. refl };
})

-- what an answer says of what a turn gives
module _ (k : Kept) where
  send_by : (g : Gives) (t : Turn) → AnswersTurn g t k → t ≡ turn.Send → (text : List ℕ) × (g ≡ Send text) × (current_of k ≡ text)
  send_by (Send text) t a is = (text, refl, a.1)
  send_by (Asks q) t a is = absurd (let x : turn.Send ≡ turn.Ask _ = sym is ∙ a in cc)
  send_by Idle t a is = absurd (let x : turn.Send ≡ turn.Idle = sym is ∙ a in cc)
  send_by (NotDue at) t a is = absurd (let x : turn.Send ≡ turn.NotDue at = sym is ∙ a in cc)
  send_by Spent t a is = absurd (let x : turn.Send ≡ turn.Spent = sym is ∙ a in cc)
  send_by (Superseded n) t a is = absurd (let x : turn.Send ≡ turn.Superseded n = sym is ∙ a in cc)
  send_by Unbound t a is = absurd (let x : turn.Send ≡ turn.Unbound = sym is ∙ a in cc)
  send_by (Ended code) t a is = absurd (let x : turn.Send ≡ turn.Ended code = sym is ∙ a in cc)

  -- none gives a line but Send
  pub sends_line : (g : Gives) (t : Turn) (text : List ℕ) → AnswersTurn g t k → g ≡ Send text → t ≡ turn.Send
  sends_line (Send text) t x a is = a.0
  sends_line (Asks q) t x a is = absurd cc
  sends_line Idle t x a is = absurd cc
  sends_line (NotDue at) t x a is = absurd cc
  sends_line Spent t x a is = absurd cc
  sends_line (Superseded n) t x a is = absurd cc
  sends_line Unbound t x a is = absurd cc
  sends_line (Ended code) t x a is = absurd cc

module _ (k : Kept) (epoch : ℕ) (p : Spoken) where
  rest_by : (g : Gives) (t : Turn) → AnswersTurn g t k → Causes epoch p g
      → ((ask : Ask) → t ≡ turn.Ask ask → Rests epoch p) × (t ≡ turn.Idle → Rests epoch p) × ((at : ℕ) → t ≡ turn.NotDue at → Rests epoch p)
  rest_by (Send text) t a c = (
    λ ask is. absurd (let x : turn.Send ≡ turn.Ask ask = sym a.0 ∙ is in cc),
    λ is. absurd (let x : turn.Send ≡ turn.Idle = sym a.0 ∙ is in cc),
    λ at is. absurd (let x : turn.Send ≡ turn.NotDue at = sym a.0 ∙ is in cc),
  )
  rest_by (Asks q) t a c = (λ ask is. c, λ is. c, λ at is. c)
  rest_by Idle t a c = (λ ask is. c, λ is. c, λ at is. c)
  rest_by (NotDue tick) t a c = (λ ask is. c, λ is. c, λ at is. c)
  rest_by Spent t a c = (
    λ ask is. absurd (let x : turn.Spent ≡ turn.Ask ask = sym a ∙ is in cc),
    λ is. absurd (let x : turn.Spent ≡ turn.Idle = sym a ∙ is in cc),
    λ at is. absurd (let x : turn.Spent ≡ turn.NotDue at = sym a ∙ is in cc),
  )
  rest_by (Superseded n) t a c = (
    λ ask is. absurd (let x : turn.Superseded n ≡ turn.Ask ask = sym a ∙ is in cc),
    λ is. absurd (let x : turn.Superseded n ≡ turn.Idle = sym a ∙ is in cc),
    λ at is. absurd (let x : turn.Superseded n ≡ turn.NotDue at = sym a ∙ is in cc),
  )
  rest_by Unbound t a c = (
    λ ask is. absurd (let x : turn.Unbound ≡ turn.Ask ask = sym a ∙ is in cc),
    λ is. absurd (let x : turn.Unbound ≡ turn.Idle = sym a ∙ is in cc),
    λ at is. absurd (let x : turn.Unbound ≡ turn.NotDue at = sym a ∙ is in cc),
  )
  rest_by (Ended code) t a c = (
    λ ask is. absurd (let x : turn.Ended code ≡ turn.Ask ask = sym a ∙ is in cc),
    λ is. absurd (let x : turn.Ended code ≡ turn.Idle = sym a ∙ is in cc),
    λ at is. absurd (let x : turn.Ended code ≡ turn.NotDue at = sym a ∙ is in cc),
  )

  superseded_by : (g : Gives) (t : Turn) (n : ℕ) → AnswersTurn g t k → Causes epoch p g → t ≡ turn.Superseded n → (epoch < n) × (n ≡ length p.streams)
  superseded_by (Send text) t n a c is = absurd (let x : turn.Send ≡ turn.Superseded n = sym a.0 ∙ is in cc)
  superseded_by (Asks q) t n a c is = absurd (let x : turn.Ask _ ≡ turn.Superseded n = sym a ∙ is in cc)
  superseded_by Idle t n a c is = absurd (let x : turn.Idle ≡ turn.Superseded n = sym a ∙ is in cc)
  superseded_by (NotDue at) t n a c is = absurd (let x : turn.NotDue at ≡ turn.Superseded n = sym a ∙ is in cc)
  superseded_by Spent t n a c is = absurd (let x : turn.Spent ≡ turn.Superseded n = sym a ∙ is in cc)
  superseded_by (Superseded m) t n a c is =
      let x : turn.Superseded m ≡ turn.Superseded n = sym a ∙ is in
      let same : m ≡ n = cc in
      subst (λ (n : ℕ). (epoch < n) × (n ≡ length p.streams)) same c
  superseded_by Unbound t n a c is = absurd (let x : turn.Unbound ≡ turn.Superseded n = sym a ∙ is in cc)
  superseded_by (Ended code) t n a c is = absurd (let x : turn.Ended code ≡ turn.Superseded n = sym a ∙ is in cc)

  ended_by_turn : (g : Gives) (t : Turn) (n : ℕ) → AnswersTurn g t k → Causes epoch p g → t ≡ turn.Ended n → OverFor n p
  ended_by_turn (Send text) t n a c is = absurd (let x : turn.Send ≡ turn.Ended n = sym a.0 ∙ is in cc)
  ended_by_turn (Asks q) t n a c is = absurd (let x : turn.Ask _ ≡ turn.Ended n = sym a ∙ is in cc)
  ended_by_turn Idle t n a c is = absurd (let x : turn.Idle ≡ turn.Ended n = sym a ∙ is in cc)
  ended_by_turn (NotDue at) t n a c is = absurd (let x : turn.NotDue at ≡ turn.Ended n = sym a ∙ is in cc)
  ended_by_turn Spent t n a c is = absurd (let x : turn.Spent ≡ turn.Ended n = sym a ∙ is in cc)
  ended_by_turn (Superseded m) t n a c is = absurd (let x : turn.Superseded m ≡ turn.Ended n = sym a ∙ is in cc)
  ended_by_turn Unbound t n a c is = absurd (let x : turn.Unbound ≡ turn.Ended n = sym a ∙ is in cc)
  ended_by_turn (Ended code) t n a c is =
      let x : turn.Ended code ≡ turn.Ended n = sym a ∙ is in
      let same : code ≡ n = cc in
      subst (λ (n : ℕ). OverFor n p) same c

  unbound_by : (g : Gives) (t : Turn) → AnswersTurn g t k → Causes epoch p g → t ≡ turn.Unbound → (since : ℕ) × (p.unbound ≡ Some since)
  unbound_by (Send text) t a c is = absurd (let x : turn.Send ≡ turn.Unbound = sym a.0 ∙ is in cc)
  unbound_by (Asks q) t a c is = absurd (let x : turn.Ask _ ≡ turn.Unbound = sym a ∙ is in cc)
  unbound_by Idle t a c is = absurd (let x : turn.Idle ≡ turn.Unbound = sym a ∙ is in cc)
  unbound_by (NotDue at) t a c is = absurd (let x : turn.NotDue at ≡ turn.Unbound = sym a ∙ is in cc)
  unbound_by Spent t a c is = absurd (let x : turn.Spent ≡ turn.Unbound = sym a ∙ is in cc)
  unbound_by (Superseded m) t a c is = absurd (let x : turn.Superseded m ≡ turn.Unbound = sym a ∙ is in cc)
  unbound_by Unbound t a c is = c
  unbound_by (Ended code) t a c is = absurd (let x : turn.Ended code ≡ turn.Unbound = sym a ∙ is in cc)

  spent_by_turn : (g : Gives) (t : Turn) → AnswersTurn g t k → Causes epoch p g → t ≡ turn.Spent → GREATEST_NUMBER ≤ length p.texts
  spent_by_turn (Send text) t a c is = absurd (let x : turn.Send ≡ turn.Spent = sym a.0 ∙ is in cc)
  spent_by_turn (Asks q) t a c is = absurd (let x : turn.Ask _ ≡ turn.Spent = sym a ∙ is in cc)
  spent_by_turn Idle t a c is = absurd (let x : turn.Idle ≡ turn.Spent = sym a ∙ is in cc)
  spent_by_turn (NotDue at) t a c is = absurd (let x : turn.NotDue at ≡ turn.Spent = sym a ∙ is in cc)
  spent_by_turn Spent t a c is = c
  spent_by_turn (Superseded m) t a c is = absurd (let x : turn.Superseded m ≡ turn.Spent = sym a ∙ is in cc)
  spent_by_turn Unbound t a c is = absurd (let x : turn.Unbound ≡ turn.Spent = sym a ∙ is in cc)
  spent_by_turn (Ended code) t a c is = absurd (let x : turn.Ended code ≡ turn.Spent = sym a ∙ is in cc)

-- whether a turn gives a line
is_line : (g : Gives) → ((text : List ℕ) × (g ≡ Send text)) ⊎ ((text : List ℕ) → g ≡ Send text → ⊥)
is_line (Send text) = inl (text, refl)
is_line (Asks q) = inr (λ text is. cc)
is_line Idle = inr (λ text is. cc)
is_line (NotDue at) = inr (λ text is. cc)
is_line Spent = inr (λ text is. cc)
is_line (Superseded n) = inr (λ text is. cc)
is_line Unbound = inr (λ text is. cc)
is_line (Ended code) = inr (λ text is. cc)

-- where the history is spent and a session speaks, its turn isn't taken
both_false : (a b : Bool) → (a && b) ≡ false → (a ≡ true → ⊥) ⊎ (b ≡ false)
both_false true b is = inr is
both_false false b is = inl (λ t. let x : false ≡ true = t in cc)

speaks_true : (epoch : ℕ) (p : Spoken) → OnStream epoch p → p.life ≡ Alive → speaks epoch p ≡ true
speaks_true epoch p on alive =
    ap (λ b. not b && (not (is_some p.unbound) && is_alive p.life)) on.newest
    ∙ ap (λ (o : Option ℕ). not (is_some o) && is_alive p.life) on.bound
    ∙ ap is_alive alive

low_by : (n : ℕ) → (nat_le GREATEST_NUMBER n ≡ true → ⊥) → n < GREATEST_NUMBER
low_by n not_full = by_test (nat_le GREATEST_NUMBER n) refl
  where
    by_test : (b : Bool) → nat_le GREATEST_NUMBER n ≡ b → n < GREATEST_NUMBER
    by_test true is = absurd (not_full is)
    by_test false is = leb-false GREATEST_NUMBER n is

gate_open : (epoch : ℕ) (p : Spoken) (n : ℕ) → (nat_le GREATEST_NUMBER n && speaks epoch p) ≡ false → OnStream epoch p → p.life ≡ Alive → n < GREATEST_NUMBER
gate_open epoch p n gate on alive = by_either (both_false (nat_le GREATEST_NUMBER n) (speaks epoch p) gate)
  where
    by_either : (nat_le GREATEST_NUMBER n ≡ true → ⊥) ⊎ (speaks epoch p ≡ false) → n < GREATEST_NUMBER
    by_either (inl not_full) = low_by n not_full
    by_either (inr silent) = absurd (let x : true ≡ false = sym (speaks_true epoch p on alive) ∙ silent in cc)

-- after a line there are no more entries than there may be
fits_sent : (number : ℕ) (es : List Told) (epoch e : ℕ) (text : List ℕ) (tick : ℕ) → FitsHistory number es → OnStream epoch (heard number es)
    → text_of_next (next_of (heard number es)) ≡ Some text → (nat_le GREATEST_NUMBER (length es) && speaks epoch (heard number es)) ≡ false
    → FitsHistory number (es ++ Gave e text tick ∷ [])
fits_sent number es epoch e text tick f on what gate = by_life (heard number es).life refl
  where
    by_life : (l : Life) → (heard number es).life ≡ l → FitsHistory number (es ++ Gave e text tick ∷ [])
    by_life Alive is = fits_gave number es e text tick f (gate_open epoch (heard number es) (length es) gate on is)
    by_life (Ending code) is = fits_end number es e text tick code f is
    by_life (Closed code) is =
        let nothing : next_of (heard number es) ≡ GivesNothing = ap (next_living (heard number es)) is in
        let x : None ≡ Some text = sym (ap text_of_next nothing) ∙ what in
        absurd cc

-- what is kept is right after a turn
module _ (config : List ItemDef) (number : ℕ) (es : List Told) (ws : List Watched) (subs : List SubSeen) (k : Kept) (r : Record)
    (l : LivesAs config number es ws subs k r) (epoch tick : ℕ) (low : tick ≤ GREATEST_TICK) (k2 : Kept)
    (stands : StandsSession k2 (turned tick epoch r).after) where
  seated_after : Each (HasSeat config ws subs) (turned tick epoch r).after.session.board.round
  seated_after =
      subst (λ (b : Board). Each (HasSeat config ws subs) b.round)
      (sym (turn_keeps (items_seen config ws) tick epoch r l.told.alone).board) l.seated

  lives_sent : (text : List ℕ) → (turned tick epoch r).gives ≡ Send text
      → (nat_le GREATEST_NUMBER (length es) && speaks epoch (heard number es)) ≡ false
      → LivesAs config number (es ++ Gave epoch text tick ∷ []) ws subs k2 (turned tick epoch r).after
  lives_sent text sends gate =
      let after = after_turn tick epoch r in
      let cause : Causes epoch (heard number es) (Send text) =
      subst (λ (p : Spoken). Causes epoch p (Send text)) l.told.told
      (subst (Causes epoch (spoken_of r.session)) sends (turned_causes tick epoch r)) in
      record {
        stands = stands;
        number_is = after.number ∙ l.number_is;
        floor = omega (arith, after.sent text sends, at_latest es (Gave epoch text tick) tick refl);
        latest = latest_at es (Gave epoch text tick) tick GREATEST_TICK refl l.latest low;
        told = keeps_turned config number es ws tick epoch epoch r text sends l.told;
        seated = seated_after;
        fits = fits_sent number es epoch epoch text tick l.fits cause.0 cause.1 gate;
      }

  lives_silent : ((text : List ℕ) → (turned tick epoch r).gives ≡ Send text → ⊥) → LivesAs config number es ws subs k2 (turned tick epoch r).after
  lives_silent silent =
      let after = after_turn tick epoch r in
      record {
        stands = stands;
        number_is = after.number ∙ l.number_is;
        floor = omega (arith, after.silent silent, l.floor);
        latest = l.latest;
        told = keeps_unturned config number es ws tick epoch r silent l.told;
        seated = seated_after;
        fits = l.fits;
      }

-- a turn that was taken says what it gives
gives_at : (config : List ItemDef) (number : ℕ) (es : List Told) (ws : List Watched) (subs : List SubSeen) (k : Kept) (r : Record) (epoch now : ℕ)
    (k2 : Kept) (es2 : List Told) (answer : Turn) (text : List ℕ) → LivesAs config number es ws subs k r → counts_as now es ≤ GREATEST_TICK
    → (nat_le GREATEST_NUMBER (length es) && speaks epoch (spoken_of r.session)) ≡ false
    → AnswersTurn (turned (counts_as now es) epoch r).gives answer k2 → StandsSession k2 (turned (counts_as now es) epoch r).after
    → (answer ≡ turn.Send → (text ≡ current_of k2) × (es2 ≡ es ++ Gave epoch (current_of k2) (counts_as now es) ∷ []))
    → ((answer ≡ turn.Send → ⊥) → es2 ≡ es) → GivesTo config number epoch now es es2 ws subs k2 r answer text
gives_at config number es ws subs k r epoch now k2 es2 answer text l low gate answers stands sent stays =
    let tick : ℕ = counts_as now es in
    let told : spoken_of r.session ≡ heard number es = l.told.told in
    let heard_gate : (nat_le GREATEST_NUMBER (length es) && speaks epoch (heard number es)) ≡ false =
    subst (λ (p : Spoken). (nat_le GREATEST_NUMBER (length es) && speaks epoch p) ≡ false) told gate in
    let cause : Causes epoch (heard number es) (turned tick epoch r).gives =
    subst (λ (p : Spoken). Causes epoch p (turned tick epoch r).gives) told (turned_causes tick epoch r) in
    let rests = rest_by k2 epoch (heard number es) (turned tick epoch r).gives answer answers cause in
    let open_gate : given (length es) tick epoch r ≡ turned tick epoch r = ap (λ b. cond b (record { after = r; gives = Spent }) (turned tick epoch r)) gate in
    record {
      answers = subst (λ (t : Turned). AnswersTurn t.gives answer k2) (sym open_gate) answers;
      lives = subst (λ (t : Turned). LivesAs config number es2 ws subs k2 t.after) (sym open_gate) (by_line tick heard_gate (is_line (turned tick epoch r).gives));
      sent = λ is.
          let s = send_by k2 (turned tick epoch r).gives answer answers is in
          let c : Causes epoch (heard number es) (Send s.0) = subst (Causes epoch (heard number es)) s.1 cause in
          record {
            newest = c.0.newest;
            bound = c.0.bound;
            what = c.1 ∙ ap (λ (t : List ℕ). Some t) (sym s.2 ∙ sym (sent is).0);
            lines = (sent is).1 ∙ ap (λ (t : List ℕ). es ++ Gave epoch t tick ∷ []) (sym (sent is).0);
          };
      stays = stays;
      asks = λ ask is. still heard_gate (rests.0 ask is);
      idle = λ is. still heard_gate (rests.1 is);
      not_due = λ at is. still heard_gate (rests.2 at is);
      superseded = λ newest is. superseded_by k2 epoch (heard number es) (turned tick epoch r).gives answer newest answers cause is;
      ended = λ code is. record { ended = ended_by_turn k2 epoch (heard number es) (turned tick epoch r).gives answer code answers cause is };
      unbound = λ is. unbound_by k2 epoch (heard number es) (turned tick epoch r).gives answer answers cause is;
      spent = λ is. inl (spent_by_turn k2 epoch (heard number es) (turned tick epoch r).gives answer answers cause is);
    }
  where
    still : (nat_le GREATEST_NUMBER (length es) && speaks epoch (heard number es)) ≡ false → Rests epoch (heard number es) → StaysStill number epoch es
    still gate_is q =
        record {
          newest = q.on.newest;
          bound = q.on.bound;
          alive = q.alive;
          none = q.none;
          room = gate_open epoch (heard number es) (length es) gate_is q.on q.alive;
        }

    by_line : (tick : ℕ) → (nat_le GREATEST_NUMBER (length es) && speaks epoch (heard number es)) ≡ false
        → ((x : List ℕ) × ((turned (counts_as now es) epoch r).gives ≡ Send x))
        ⊎ ((x : List ℕ) → (turned (counts_as now es) epoch r).gives ≡ Send x → ⊥)
        → LivesAs config number es2 ws subs k2 (turned (counts_as now es) epoch r).after
    by_line tick gate_is (inl line) =
        let is : answer ≡ turn.Send = sends_line k2 (turned (counts_as now es) epoch r).gives answer line.0 answers line.1 in
        let s = send_by k2 (turned (counts_as now es) epoch r).gives answer answers is in
        let x : Send s.0 ≡ Send line.0 = sym s.1 ∙ line.1 in
        let same : s.0 ≡ line.0 = cc in
        subst (λ (h : List Told). LivesAs config number h ws subs k2 (turned (counts_as now es) epoch r).after)
        (sym ((sent is).1 ∙ ap (λ (t : List ℕ). es ++ Gave epoch t (counts_as now es) ∷ []) (s.2 ∙ same)))
        (lives_sent config number es ws subs k r l epoch (counts_as now es) low k2 stands line.0 line.1 gate_is)
    by_line tick gate_is (inr silent) =
        subst (λ (h : List Told). LivesAs config number h ws subs k2 (turned (counts_as now es) epoch r).after)
        (sym (stays (λ is. silent _ (send_by k2 (turned (counts_as now es) epoch r).gives answer answers is).1)))
        (lives_silent config number es ws subs k r l epoch (counts_as now es) low k2 stands silent)

pub gives_turned : (config : List ItemDef) (number : ℕ) (es : List Told) (ws : List Watched) (subs : List SubSeen) (k : Kept) (r : Record) (epoch now tick : ℕ)
    (k2 : Kept) (es2 : List Told) (answer : Turn) (text : List ℕ) → LivesAs config number es ws subs k r → tick ≡ counts_as now es → tick ≤ GREATEST_TICK
    → (nat_le GREATEST_NUMBER (length es) && speaks epoch (spoken_of r.session)) ≡ false
    → AnswersTurn (turned tick epoch r).gives answer k2 → StandsSession k2 (turned tick epoch r).after
    → (answer ≡ turn.Send → (text ≡ current_of k2) × (es2 ≡ es ++ Gave epoch (current_of k2) tick ∷ []))
    → ((answer ≡ turn.Send → ⊥) → es2 ≡ es) → GivesTo config number epoch now es es2 ws subs k2 r answer text
gives_turned config number es ws subs k r epoch now tick k2 es2 answer text l at low gate answers stands sent stays =
    gives_at config number es ws subs k r epoch now k2 es2 answer text l (omega (arith, at, low)) gate
    (subst (λ (n : ℕ). AnswersTurn (turned n epoch r).gives answer k2) at answers)
    (subst (λ (n : ℕ). StandsSession k2 (turned n epoch r).after) at stands)
    (subst (λ (n : ℕ). answer ≡ turn.Send → (text ≡ current_of k2) × (es2 ≡ es ++ Gave epoch (current_of k2) n ∷ [])) at sent) stays

and_both : (a b : Bool) → (a && b) ≡ true → (a ≡ true) × (b ≡ true)
and_both true b is = (refl, is)
and_both false b is = absurd (let x : false ≡ true = is in cc)

-- and one that wasn't, as the history is spent
pub gives_spent : (config : List ItemDef) (number : ℕ) (es : List Told) (ws : List Watched) (subs : List SubSeen) (k : Kept) (r : Record) (epoch now : ℕ)
    (text : List ℕ) → LivesAs config number es ws subs k r → (nat_le GREATEST_NUMBER (length es) && speaks epoch (spoken_of r.session)) ≡ true
    → GivesTo config number epoch now es es ws subs k r turn.Spent text
gives_spent config number es ws subs k r epoch now text l both =
    let full : nat_le GREATEST_NUMBER (length es) ≡ true = (and_both (nat_le GREATEST_NUMBER (length es)) (speaks epoch (spoken_of r.session)) both).0 in
    let shut : given (length es) (counts_as now es) epoch r ≡ record { after = r; gives = Spent } =
    ap (λ b. cond b (record { after = r; gives = Spent }) (turned (counts_as now es) epoch r)) both in
    record {
      answers = subst (λ (t : Turned). AnswersTurn t.gives turn.Spent k) (sym shut) refl;
      lives = subst (λ (t : Turned). LivesAs config number es ws subs k t.after) (sym shut) l;
      sent = λ is. absurd (let x : turn.Spent ≡ turn.Send = is in cc);
      stays = λ other. refl;
      asks = λ ask is. absurd (let x : turn.Spent ≡ turn.Ask ask = is in cc);
      idle = λ is. absurd (let x : turn.Spent ≡ turn.Idle = is in cc);
      not_due = λ at is. absurd (let x : turn.Spent ≡ turn.NotDue at = is in cc);
      superseded = λ newest is. absurd (let x : turn.Spent ≡ turn.Superseded newest = is in cc);
      ended = λ code is. absurd (let x : turn.Spent ≡ turn.Ended code = is in cc);
      unbound = λ is. absurd (let x : turn.Spent ≡ turn.Unbound = is in cc);
      spent = λ is. inr (leb-true GREATEST_NUMBER (length es) full);
    }
