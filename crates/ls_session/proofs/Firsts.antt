-- What a turn gives before its round is asked.
use Rattle.std.proofs.Common.{◌≡◌, ◌≤◌, ◌+◌, ℕ, Bool, List, [], ◌∷◌, length, true, false, refl, sym, ap, ◌∙◌, arith, subst, cond, nat_lt, Option, None, Some}
use Rattle.ls_value.specs.declared.limits.TheConstants.{GREATEST_TICK}
use Rattle.ls_stream.specs.Giving.{given_first, bound_first, owed_first}
use Rattle.ls_stream.specs.Standing.{GivesFirst, AnswersGives, current_text}
use Rattle.ls_stream.specs.declared.lines.Lines.{Lines as KeptLines}
use Rattle.ls_stream.specs.declared.lines.StreamTurn.{StreamTurn}
use Rattle.ls_stream.specs.declared.lines.StreamTurn.TheVariants as stream
use Rattle.ls_record.specs.Turning as steps
use Rattle.ls_record.specs.Turning.{SessionTurn, TurnGives, loop_text, next_given, end_text}
use Rattle.ls_record.specs.Records.{Life, Alive, Ending, Closed, Session, is_to_loop, is_unsent, is_bound, unbound_at}
use Rattle.ls_record.specs.Records.{trimmed, on_stream, with_line}
use Rattle.ls_record.specs.Lines.{text_at}
use Rattle.ls_session.specs.Asking.{asked_anew}
use Rattle.ls_session.specs.Record.{Record, Turned, Gives, Send, Idle, NotDue, Spent, Superseded, Unbound, Ended, begun_anew, begun_at, rests}
use Rattle.ls_session.specs.Record.{turned, bound_turned, owed_turned, next_turned, round_turned, gives_unbound}
use Rattle.ls_session.specs.Session.{StandsSession, AnswersTurn, turn_of}
use Rattle.ls_session.specs.declared.session.Session.{Session as Kept}
use Rattle.ls_session.proofs.Moves.{stands_anew}
use Rattle.ls_session.proofs.Turns.{Does}

-- what is given, as a record says it
abbrev gives_of : TurnGives → Gives
gives_of (steps.Send text) = Send text
gives_of steps.Idle = Idle
gives_of (steps.NotDue tick) = NotDue tick
gives_of steps.Spent = Spent
gives_of (steps.Superseded epoch) = Superseded epoch
gives_of steps.Unbound = Unbound
gives_of (steps.Ended code) = Ended code

-- a line raises the floor to its tick
abbrev floor_after : TurnGives → ℕ → ℕ → ℕ
floor_after (steps.Send text) now floor = now
floor_after steps.Idle now floor = floor
floor_after (steps.NotDue tick) now floor = floor
floor_after steps.Spent now floor = floor
floor_after (steps.Superseded epoch) now floor = floor
floor_after steps.Unbound now floor = floor
floor_after (steps.Ended code) now floor = floor

abbrev turned_first : ℕ → Record → Option SessionTurn → Turned
turned_first now r None = round_turned now r
turned_first now r (Some d) =
    record { after = rests r.number (floor_after d.gives now r.floor) now d.session; gives = gives_of d.gives }

floor_between : (g : TurnGives) (now floor : ℕ) → floor ≤ now → (floor ≤ floor_after g now floor) × (floor_after g now floor ≤ now)
floor_between (steps.Send text) now floor low = (low, omega arith)
floor_between steps.Idle now floor low = (omega arith, low)
floor_between (steps.NotDue tick) now floor low = (omega arith, low)
floor_between steps.Spent now floor low = (omega arith, low)
floor_between (steps.Superseded epoch) now floor low = (omega arith, low)
floor_between steps.Unbound now floor low = (omega arith, low)
floor_between (steps.Ended code) now floor low = (omega arith, low)

-- a turn is the one by what it gives first
owed_is : (now : ℕ) (r : Record) (owed : List (List ℕ)) → owed_turned now r owed ≡ turned_first now r (owed_first now r.session owed)
owed_is now r (text ∷ owed) = refl
owed_is now r [] = by_tests (is_to_loop r.session.streams) (is_unsent r.session)
  where
    by_tests : (over more : Bool)
        → cond over (record { after = begun_anew now (unbound_at now r.session) r; gives = Send loop_text })
        (cond more (next_turned now r) (round_turned now r))
        ≡ turned_first now r
        (cond over (Some (record { session = unbound_at now r.session; gives = steps.Send loop_text })) (cond more (Some (next_given r.session)) None))
    by_tests true more = refl
    by_tests false true = refl
    by_tests false false = refl

bound_is : (now : ℕ) (r : Record) (l : Life) → bound_turned now r l ≡ turned_first now r (bound_first now r.session l)
bound_is now r Alive = owed_is now r r.session.owed
bound_is now r (Ending code) = refl
bound_is now r (Closed code) = refl

unbound_is : (l : Life) → gives_unbound l ≡ gives_of (steps.gives_unbound l)
unbound_is Alive = refl
unbound_is (Ending code) = refl
unbound_is (Closed code) = refl

unbound_floor : (l : Life) (now floor : ℕ) → floor ≡ floor_after (steps.gives_unbound l) now floor
unbound_floor Alive now floor = refl
unbound_floor (Ending code) now floor = refl
unbound_floor (Closed code) now floor = refl

turned_is : (now epoch : ℕ) (r : Record) → turned now epoch r ≡ turned_first now r (given_first now epoch r.session)
turned_is now epoch r = by_tests (nat_lt epoch (length r.session.streams)) (is_bound r.session)
  where
    by_tests : (older bound : Bool)
        → cond older (record { after = begun_at now r.session r; gives = Superseded (length r.session.streams) })
        (cond bound (bound_turned now r r.session.life) (record { after = begun_at now r.session r; gives = gives_unbound r.session.life }))
        ≡ turned_first now r
        (cond older (Some (record { session = r.session; gives = steps.Superseded (length r.session.streams) }))
        (cond bound (bound_first now r.session r.session.life) (Some (record { session = r.session; gives = steps.gives_unbound r.session.life }))))
    by_tests true bound = refl
    by_tests false true = bound_is now r r.session.life
    by_tests false false =
        ap (λ g. record { after = begun_at now r.session r; gives = g }) (unbound_is r.session.life)
        ∙ ap (λ n. record { after = rests r.number n now r.session; gives = gives_of (steps.gives_unbound r.session.life) }) (unbound_floor r.session.life now r.floor)

-- what is given first changes neither the board nor the bandwidth
abbrev IsSame : Session → Option SessionTurn → Type 0
IsSame s None = Unit {0}
IsSame s (Some d) = (d.session.board ≡ s.board) × (d.session.rate ≡ s.rate)

owed_same : (now : ℕ) (s : Session) (owed : List (List ℕ)) → IsSame s (owed_first now s owed)
owed_same now s (text ∷ owed) = (refl, refl)
owed_same now s [] = by_tests (is_to_loop s.streams) (is_unsent s) (is_unsent s)
  where
    by_tests : (over more more' : Bool)
        → IsSame s (cond over (Some (record { session = unbound_at now s; gives = steps.Send loop_text }))
        (cond more (Some (record {
          session = cond more' (trimmed (on_stream (with_line (s.sent + 1) (text_at s.board.lines (s.sent + 1))) (record s { sent = s.sent + 1 }))) s;
          gives = steps.Send (text_at s.board.lines (s.sent + 1));
        })) None))
    by_tests true more more' = (refl, refl)
    by_tests false true true = (refl, refl)
    by_tests false true false = (refl, refl)
    by_tests false false more' = tt

first_same : (now epoch : ℕ) (s : Session) → IsSame s (given_first now epoch s)
first_same now epoch s = by_tests (nat_lt epoch (length s.streams)) (is_bound s)
  where
    by_life : (l : Life) → IsSame s (bound_first now s l)
    by_life Alive = owed_same now s s.owed
    by_life (Ending code) = (refl, refl)
    by_life (Closed code) = (refl, refl)

    by_tests : (older bound : Bool)
        → IsSame s (cond older (Some (record { session = s; gives = steps.Superseded (length s.streams) }))
        (cond bound (bound_first now s s.life) (Some (record { session = s; gives = steps.gives_unbound s.life }))))
    by_tests true bound = (refl, refl)
    by_tests false true = by_life s.life
    by_tests false false = (refl, refl)

answers : (g : TurnGives) (t : StreamTurn) (lines' : KeptLines) (k' : Kept) → AnswersGives g t lines' → k'.lines ≡ lines'
    → AnswersTurn (gives_of g) (turn_of t) k'
answers (steps.Send text) t lines' k' is same =
    (ap turn_of is.0, subst (λ (x : KeptLines). current_text x ≡ text) (sym same) is.1)
answers steps.Idle t lines' k' is same = absurd is
answers (steps.NotDue tick) t lines' k' is same = absurd is
answers steps.Spent t lines' k' is same = absurd is
answers (steps.Superseded epoch) t lines' k' is same = ap turn_of is
answers steps.Unbound t lines' k' is same = ap turn_of is
answers (steps.Ended code) t lines' k' is same = ap turn_of is

-- something is given first
pub first_given : (k k' : Kept) (lines' : KeptLines) (r : Record) (now epoch : ℕ) (t : StreamTurn) → StandsSession k r → r.floor ≤ now → now ≤ GREATEST_TICK
    → GivesFirst (given_first now epoch r.session) r.session t lines' → (t ≡ stream.Nothing → ⊥)
    → k' ≡ record k { lines = lines'; asking = asked_anew now k.asking } → Does (turned now epoch r) (turn_of t) k'
first_given k k' lines' r now epoch t st later most gives some is =
    subst (λ (d : Turned). Does d (turn_of t) k') (sym (turned_is now epoch r))
    (by_first (given_first now epoch r.session) gives (first_same now epoch r.session))
  where
    by_first : (o : Option SessionTurn) → GivesFirst o r.session t lines' → IsSame r.session o → Does (turned_first now r o) (turn_of t) k'
    by_first None given same = absurd (some given.0)
    by_first (Some d) given same = (
      answers d.gives t lines' k' given.0 (ap (λ (x : Kept). x.lines) is),
      subst (λ (x : Kept). StandsSession x (rests r.number (floor_after d.gives now r.floor) now d.session)) (sym is)
          (stands_anew k lines' r d.session (floor_after d.gives now r.floor) now st (floor_between d.gives now r.floor later).0
          (floor_between d.gives now r.floor later).1 most given.1 same.0 same.1),
    )

-- or nothing, and the round is asked
none_given : (g : TurnGives) (lines' : KeptLines) → AnswersGives g stream.Nothing lines' → ⊥
none_given (steps.Send text) lines' is = absurd (let x : stream.Nothing ≡ stream.Line = is.0 in cc)
none_given steps.Idle lines' is = is
none_given (steps.NotDue tick) lines' is = is
none_given steps.Spent lines' is = is
none_given (steps.Superseded epoch) lines' is = absurd (let x : stream.Nothing ≡ stream.Superseded epoch = is in cc)
none_given steps.Unbound lines' is = absurd (let x : stream.Nothing ≡ stream.Unbound = is in cc)
none_given (steps.Ended code) lines' is = absurd (let x : stream.Nothing ≡ stream.Ended code = is in cc)

pub nothing_first : (k : Kept) (lines' : KeptLines) (r : Record) (now epoch : ℕ) → StandsSession k r
    → GivesFirst (given_first now epoch r.session) r.session stream.Nothing lines'
    → StandsSession (record k { lines = lines' }) r × (turned now epoch r ≡ round_turned now r)
nothing_first k lines' r now epoch st gives =
    by_first (given_first now epoch r.session) gives (turned_is now epoch r)
  where
    by_first : (o : Option SessionTurn) → GivesFirst o r.session stream.Nothing lines' → turned now epoch r ≡ turned_first now r o
        → StandsSession (record k { lines = lines' }) r × (turned now epoch r ≡ round_turned now r)
    by_first (Some d) given is = absurd (none_given d.gives lines' given.0)
    by_first None given is = (record { number = st.number; lines = given.1; round = st.round; subs = st.subs; rate = st.rate; front = st.front }, is)
