-- A hub's turns on a connection's session are those of the world.
use Rattle.std.proofs.Common.{◌≡◌, ℕ, zero, suc, ◌+◌, ◌<◌, ◌≤◌, List, [], ◌∷◌, ◌++◌, length, map, get_or, set, refl, sym, ◌∙◌, ap, subst, cond}
use Rattle.std.proofs.Common.{Bool, true, false, append_assoc, arith, nat_lt, nat_le, ◌&&◌, slice_get, Option, Some, None}
use Rattle.std.specs.List.{list_any}
use Rattle.ls_value.specs.declared.limits.TheConstants.{GREATEST_TICK}
use Rattle.ls_value.specs.declared.limits.TheConstants.{GREATEST_NUMBER}
pub use Rattle.ls_words.proofs.Decimals.{on_failed}
use Rattle.ls_step.specs.declared.out.Out.TheVariants as out
use Rattle.ls_step.specs.Notes.{text_of_out}
use Rattle.ls_record.specs.Cases.{with_found}
use Rattle.ls_record.specs.Lines.{text_at}
use Rattle.ls_world.specs.World.{World}
use Rattle.ls_record.specs.Records.{Item, LiveSlot, Session, Life, Alive, Ending, Closed, RoundLine, change, is_alive}
use Rattle.ls_record.specs.Records.{round_of, taken_in, on_board}
use Rattle.ls_record.specs.Records.{numbered, trimmed, on_stream, with_line, is_unsent, is_to_loop, is_bound}
use Rattle.ls_record.specs.Records.{unbound_at, is_due, least_wait}
use Rattle.ls_world.specs.Steps.{Once, session_of}
use Rattle.ls_record.specs.Turning.{SessionTurn, TurnGives, Send, Idle, NotDue, Spent, Superseded, Unbound, Ended}
use Rattle.ls_record.specs.Turning.{waits_until}
use Rattle.ls_world.specs.Steps.{epoch_of, name_of, took, take_once}
use Rattle.ls_record.specs.Turning.{next_given, round_turn, turn_owing, turn_bound, session_turn, loop_text}
use Rattle.ls_record.specs.Turning.{gives_unbound}
use Rattle.ls_world.specs.Steps.{with_session, ends}
use Rattle.ls_session.specs.Record.{Record}
use Rattle.ls_session.specs.declared.session.Session.{Session as Kept}
use Rattle.ls_hub.specs.declared.hub.Hub.{Hub}
use Rattle.ls_cells.specs.Cells.{AllCells, StandsCells}
use Rattle.ls_session.specs.Session.{StandsSession, current_of}
use Rattle.ls_session.specs.declared.session.Turn.{Turn}
use Rattle.ls_hub.specs.Hub.{StandsHub, DidOnce, IsSession, AreSessions, seen, session_at, place_in, name_at, AreNumbered}
use Rattle.ls_hub.specs.Quiet.{StandsQuiet}
use Rattle.ls_hub.specs.Turning.{turn_from, EndsAs, TurnEnded, TurnFailed, out_of_turn, gave_line}
use Rattle.ls_hub.proofs.Quieted.{quiet_all, quiet_at}
use Rattle.ls_session.specs.declared.session.Turn.TheVariants as turn
use Rattle.ls_hub.proofs.Telling.{turn_begun}
use Rattle.ls_cells.proofs.Lives.{SessionAt, session_at as session_at_place}
use Rattle.ls_hub.proofs.Alive.{living_changed}
use Rattle.ls_hub.proofs.Connected.{session_is, name_is}
use Rattle.ls_hub.proofs.Sessions.{as_many, none_kept, kept_read, kept_changed, number_read, numbers_set}
use Rattle.ls_hub.proofs.KeptSessions.{change_same}

-- a connection has no session, or the one of a place
pub none_at : {A : Type 0} (h : Hub) (w : World) (connection : ℕ) (none : A) (f : ℕ → Session → A) → StandsHub h w
    → session_at h.connections.items connection ≡ None → with_session w.sessions (session_of w connection) none f ≡ none
none_at h w connection none f st is =
    ap (λ o. with_session w.sessions o none f) (sym (session_is h.connections.items w connection st.connections) ∙ is)

pub past_at : {A : Type 0} (h : Hub) (w : World) (connection place : ℕ) (none : A) (f : ℕ → Session → A) → StandsHub h w
    → session_at h.connections.items connection ≡ Some place → length h.sessions.items ≤ place
    → with_session w.sessions (session_of w connection) none f ≡ none
past_at h w connection place none f st is past =
    ap (λ o. with_session w.sessions o none f) (sym (session_is h.connections.items w connection st.connections) ∙ is)
    ∙ ap (λ o. with_found o none (f place)) (none_kept w.tick h.sessions.items w.sessions place st.sessions past)

pub some_at : {A : Type 0} (h : Hub) (w : World) (connection place : ℕ) (s : Session) (none : A) (f : ℕ → Session → A) → StandsHub h w
    → session_at h.connections.items connection ≡ Some place → slice_get w.sessions place ≡ Some s
    → with_session w.sessions (session_of w connection) none f ≡ f place s
some_at h w connection place s none f st is found =
    ap (λ o. with_session w.sessions o none f) (sym (session_is h.connections.items w connection st.connections) ∙ is)
    ∙ ap (λ o. with_found o none (f place)) found

-- the place of a connection's session, if it is there
below : (sessions : List Session) (n : ℕ) → n < length sessions → (s : Session) × (slice_get sessions n ≡ Some s)
below [] n low = absurd (omega (arith, low))
below (s ∷ sessions) zero low = (s, refl)
below (s ∷ sessions) (suc n) low = below sessions n (omega (arith, low))

pub place_there : (h : Hub) (w : World) (connection place : ℕ) → StandsHub h w → session_at h.connections.items connection ≡ Some place
    → place < length h.sessions.items → Some place ≡ place_in w.sessions (session_of w connection)
place_there h w connection place st is low =
    let at = below w.sessions place (omega (arith, low, as_many w.tick h.sessions.items w.sessions st.sessions)) in
    sym (some_at h w connection place at.0 None (λ n s. Some n) st is at.1)

-- what is done with the session of a place, where none is there, and where one is
pub not_there : {A : Type 0} (sessions : List Session) (o : Option ℕ) (none : A) (f : ℕ → Session → A) → None ≡ place_in sessions o
    → with_session sessions o none f ≡ none
not_there sessions None none f is = refl
not_there sessions (Some n) none f is = by_found (slice_get sessions n) is
  where
    by_found : (o : Option Session) → None ≡ with_found o None (λ (s : Session). Some n) → with_found o none (f n) ≡ none
    by_found None e = refl
    by_found (Some s) e = absurd (let x : None ≡ Some n = e in cc)

pub record There {A : Type 0} (sessions : List Session) (o : Option ℕ) (n : ℕ) (none : A) (f : ℕ → Session → A) : Type 0 where
  pub session : Session
  pub found : slice_get sessions n ≡ Some session
  pub is : with_session sessions o none f ≡ f n session

pub is_there : {A : Type 0} (sessions : List Session) (o : Option ℕ) (n : ℕ) (none : A) (f : ℕ → Session → A) → Some n ≡ place_in sessions o
    → There sessions o n none f
is_there sessions None n none f is = absurd (let x : Some n ≡ None = is in cc)
is_there sessions (Some m) n none f is = by_found (slice_get sessions m) refl is
  where
    by_found : (o : Option Session) → slice_get sessions m ≡ o → Some n ≡ with_found o None (λ (s : Session). Some m) → There sessions (Some m) n none f
    by_found None at e = absurd (let x : Some n ≡ None = e in cc)
    by_found (Some s) at e =
        let same : m ≡ n = cc in
        subst (λ (k : ℕ). There sessions (Some m) k none f) same
        (record { session = s; found = at; is = ap (λ o. with_found o none (f m)) at })

-- a hub of which one session changed, and the slots with it
pub record ChangedAt (h h' : Hub) (place : ℕ) (k : Kept) : Type 0 where
  pub config : h'.config ≡ h.config
  pub tick : h'.tick ≡ h.tick
  pub connections : h'.connections ≡ h.connections
  pub living : h'.living ≡ h.living
  pub sessions : h'.sessions.items ≡ set h.sessions.items place k

pub changed_at : (h h' : Hub) (w : World) (place : ℕ) (k : Kept) (s s' : Session) (at : SessionAt w.sessions place s) → StandsHub h w
    → slice_get w.sessions place ≡ Some s
    → ChangedAt h h' place k → IsSession w.tick k s' → k.number ≡ place + 1 → is_alive s'.life ≡ is_alive s.life
    → StandsCells h'.cells w.items (at.before ++ s'.board.round ++ at.after)
    → StandsHub h' (record w { sessions = change place (λ x. s') w.sessions })
changed_at h h' w place k s s' at st found same is number lives cells =
    record {
      set = ap (λ c. c.set) same.config ∙ st.set;
      tick = same.tick ∙ st.tick;
      in_range = st.in_range;
      definitions = ap (λ c. c.items) same.config ∙ st.definitions;
      cells = subst (StandsCells h'.cells w.items) (append_assoc at.before s'.board.round at.after ∙ sym (at.changed (λ x. s'))) cells;
      sessions = subst (λ ks. AreSessions w.tick ks (change place (λ x. s') w.sessions)) (sym same.sessions)
          (kept_changed w.tick h.sessions.items w.sessions place k s (λ x. s') st.sessions found is);
      numbers = subst (AreNumbered 0) (sym same.sessions) (numbers_set 0 h.sessions.items place k st.numbers (omega (arith, number)));
      living = ap (λ x. x.items) same.living ∙ st.living ∙ sym (living_changed 0 w.sessions place s (λ x. s') found lives);
      connections = ap (λ cs. map seen cs.items) same.connections ∙ st.connections;
    }

-- a turn leaves a session alive or ended
next_alive : (s : Session) → is_alive (next_given s).session.life ≡ is_alive s.life
next_alive s = by_test (is_unsent s)
  where
    by_test : (b : Bool)
        → is_alive (cond b (trimmed (on_stream (with_line (s.sent + 1) (text_at s.board.lines (s.sent + 1))) (record s { sent = s.sent + 1 }))) s).life
        ≡ is_alive s.life
    by_test true = refl
    by_test false = refl

-- by what came in the round
came_alive : (s waiting told : Session) (wait : Option ℕ) (o : Option RoundLine) → is_alive waiting.life ≡ is_alive s.life
    → is_alive told.life ≡ is_alive s.life
    → is_alive (with_found o (record { session = waiting; gives = waits_until wait }) (λ t. next_given told)).session.life ≡ is_alive s.life
came_alive s waiting told wait None same after = same
came_alive s waiting told wait (Some t) same after = next_alive told ∙ after

abbrev waiting_on : ℕ → List Item → Session → Session
waiting_on now items s = on_board (taken_in (is_due now s) now items) s

abbrev told_in : ℕ → List Item → Session → Session
told_in now items s = numbered (taken_in (is_due now s) now items) s

abbrev came_in : ℕ → List Item → Session → SessionTurn
came_in now items s =
    with_found (round_of (is_due now s) items s.board.lines s.board.round).came
    (record { session = waiting_on now items s; gives = waits_until (least_wait now items s) }) (λ t. next_given (told_in now items s))

round_alive : (now : ℕ) (items : List Item) (s : Session) → is_alive (round_turn now items s).session.life ≡ is_alive s.life
round_alive now items s = by_left (list_any (is_due now s) s.board.round && nat_le GREATEST_NUMBER (length s.board.lines))
  where
    by_left : (b : Bool) → is_alive (cond b (record { session = s; gives = Spent }) (came_in now items s)).session.life ≡ is_alive s.life
    by_left true = refl
    by_left false =
        came_alive s (waiting_on now items s) (told_in now items s) (least_wait now items s)
        (round_of (is_due now s) items s.board.lines s.board.round).came refl refl

abbrev looped : ℕ → Session → SessionTurn
looped now s = record { session = unbound_at now s; gives = Send loop_text }

owing_alive : (now : ℕ) (items : List Item) (s : Session) (owed : List (List ℕ))
    → is_alive (turn_owing now items s owed).session.life ≡ is_alive s.life
owing_alive now items s (text ∷ owed) = refl
owing_alive now items s [] = by_over (is_to_loop s.streams)
  where
    by_unsent : (b : Bool) → is_alive (cond b (next_given s) (round_turn now items s)).session.life ≡ is_alive s.life
    by_unsent true = next_alive s
    by_unsent false = round_alive now items s

    by_over : (b : Bool) → is_alive (cond b (looped now s) (cond (is_unsent s) (next_given s) (round_turn now items s))).session.life ≡ is_alive s.life
    by_over true = refl
    by_over false = by_unsent (is_unsent s)

abbrev superseded : Session → SessionTurn
superseded s = record { session = s; gives = Superseded (length s.streams) }

abbrev unbound : Session → SessionTurn
unbound s = record { session = s; gives = gives_unbound s.life }

pub turn_alive : (now : ℕ) (items : List Item) (epoch : ℕ) (s : Session) → is_alive (session_turn now items epoch s).session.life ≡ is_alive s.life
turn_alive now items epoch s = by_newer (nat_lt epoch (length s.streams))
  where
    by_life : (l : Life) → s.life ≡ l → is_alive (turn_bound now items s l).session.life ≡ is_alive s.life
    by_life Alive is = owing_alive now items s s.owed
    by_life (Ending code) is = ap is_alive (sym is)
    by_life (Closed code) is = refl

    by_bound : (b : Bool) → is_alive (cond b (turn_bound now items s s.life) (unbound s)).session.life ≡ is_alive s.life
    by_bound true = by_life s.life refl
    by_bound false = refl

    by_newer : (b : Bool)
        → is_alive (cond b (superseded s) (cond (is_bound s) (turn_bound now items s s.life) (unbound s))).session.life ≡ is_alive s.life
    by_newer true = refl
    by_newer false = by_bound (is_bound s)

-- where no number is left, it has a newer stream, none is bound, or it had ended before, it stays as it is
abbrev Stays : Session → SessionTurn → TurnGives → Type 0
Stays s st (Send text) = Unit {0}
Stays s st Idle = Unit {0}
Stays s st (NotDue tick) = Unit {0}
Stays s st Spent = st.session ≡ s
Stays s st (Superseded epoch) = st.session ≡ s
Stays s st Unbound = st.session ≡ s
Stays s st (Ended code) = st.session ≡ s

waits_stay : (s board : Session) (wait : Option ℕ) → Stays s (record { session = board; gives = waits_until wait }) (waits_until wait)
waits_stay s board None = tt
waits_stay s board (Some tick) = tt

came_stays : (s waiting told : Session) (wait : Option ℕ) (o : Option RoundLine) (st : SessionTurn)
    → st ≡ with_found o (record { session = waiting; gives = waits_until wait }) (λ t. next_given told) → Stays s st st.gives
came_stays s waiting told wait None st is = subst (λ (x : SessionTurn). Stays s x x.gives) (sym is) (waits_stay s waiting wait)
came_stays s waiting told wait (Some t) st is = subst (λ (x : SessionTurn). Stays s x x.gives) (sym is) tt

round_stays : (now : ℕ) (items : List Item) (s : Session) → Stays s (round_turn now items s) (round_turn now items s).gives
round_stays now items s = by_left (list_any (is_due now s) s.board.round && nat_le GREATEST_NUMBER (length s.board.lines))
  where
    by_left : (b : Bool) → Stays s (cond b (record { session = s; gives = Spent }) (came_in now items s))
        (cond b (record { session = s; gives = Spent }) (came_in now items s)).gives
    by_left true = refl
    by_left false =
        came_stays s (waiting_on now items s) (told_in now items s) (least_wait now items s)
        (round_of (is_due now s) items s.board.lines s.board.round).came (came_in now items s) refl

owing_stays : (now : ℕ) (items : List Item) (s : Session) (owed : List (List ℕ))
    → Stays s (turn_owing now items s owed) (turn_owing now items s owed).gives
owing_stays now items s (text ∷ owed) = tt
owing_stays now items s [] = by_over (is_to_loop s.streams)
  where
    by_unsent : (b : Bool) → Stays s (cond b (next_given s) (round_turn now items s)) (cond b (next_given s) (round_turn now items s)).gives
    by_unsent true = tt
    by_unsent false = round_stays now items s

    by_over : (b : Bool) → Stays s (cond b (looped now s) (cond (is_unsent s) (next_given s) (round_turn now items s)))
        (cond b (looped now s) (cond (is_unsent s) (next_given s) (round_turn now items s))).gives
    by_over true = tt
    by_over false = by_unsent (is_unsent s)

unbound_stays : (s : Session) (l : Life) → Stays s (record { session = s; gives = gives_unbound l }) (gives_unbound l)
unbound_stays s Alive = refl
unbound_stays s (Ending code) = refl
unbound_stays s (Closed code) = refl

turn_stays : (now : ℕ) (items : List Item) (epoch : ℕ) (s : Session)
    → Stays s (session_turn now items epoch s) (session_turn now items epoch s).gives
turn_stays now items epoch s = by_newer (nat_lt epoch (length s.streams))
  where
    by_life : (l : Life) → Stays s (turn_bound now items s l) (turn_bound now items s l).gives
    by_life Alive = owing_stays now items s s.owed
    by_life (Ending code) = tt
    by_life (Closed code) = refl

    by_bound : (b : Bool) → Stays s (cond b (turn_bound now items s s.life) (unbound s)) (cond b (turn_bound now items s s.life) (unbound s)).gives
    by_bound true = by_life s.life
    by_bound false = unbound_stays s s.life

    by_newer : (b : Bool) → Stays s (cond b (superseded s) (cond (is_bound s) (turn_bound now items s s.life) (unbound s)))
        (cond b (superseded s) (cond (is_bound s) (turn_bound now items s s.life) (unbound s))).gives
    by_newer true = refl
    by_newer false = by_bound (is_bound s)

-- a session that is as it was
pub stayed : (h : Hub) (w : World) (place : ℕ) (s s' : Session) → slice_get w.sessions place ≡ Some s → s' ≡ s
    → StandsHub h (record w { sessions = change place (λ x. s') w.sessions }) → StandsHub h w
stayed h w place s s' found same st =
    subst (λ ss. StandsHub h (record w { sessions = ss })) (ap (λ x. change place (λ y. x) w.sessions) same ∙ change_same place w.sessions s found) st

-- what a turn prints is what the world's gives
took_did : (h : Hub) (w : World) (connection place : ℕ) (s s' : Session) (gives : TurnGives) (name current : List ℕ) (t : Turn) (before after : List ℕ)
    → slice_get w.sessions place ≡ Some s → Stays s (record { session = s'; gives = gives }) gives → EndsAs gives t current → name ≡ name_of w connection
    → after ≡ before ++ text_of_out (out_of_turn name current t) → StandsHub h (record w { sessions = change place (λ x. s') w.sessions })
    → DidOnce (took w connection place s' gives) (gave_line t) before after h
took_did h w connection place s s' (Send said) name current t before after found same e is text st =
    record {
      more = ap gave_line (sym e.0);
      text = text ∙ ap (λ u. before ++ text_of_out (out_of_turn name current u)) e.0
          ∙ ap (λ n. before ++ text_of_out (out.Line n current)) is ∙ ap (λ c. before ++ text_of_out (out.Line (name_of w connection) c)) e.1;
      stands = st;
    }
took_did h w connection place s s' Idle name current t before after found same e is text st =
    record { more = ap gave_line (sym e); text = text ∙ ap (λ u. before ++ text_of_out (out_of_turn name current u)) e; stands = st }
took_did h w connection place s s' (NotDue tick) name current t before after found same e is text st =
    record { more = ap gave_line (sym e); text = text ∙ ap (λ u. before ++ text_of_out (out_of_turn name current u)) e; stands = st }
took_did h w connection place s s' Spent name current t before after found same e is text st =
    record {
      more = ap gave_line (sym e);
      text = text ∙ ap (λ u. before ++ text_of_out (out_of_turn name current u)) e;
      stands = stayed h w place s s' found same st;
    }
took_did h w connection place s s' (Superseded epoch) name current t before after found same e is text st =
    record {
      more = ap gave_line (sym e);
      text = text ∙ ap (λ u. before ++ text_of_out (out_of_turn name current u)) e;
      stands = stayed h w place s s' found same st;
    }
took_did h w connection place s s' Unbound name current t before after found same e is text st =
    record {
      more = ap gave_line (sym e);
      text = text ∙ ap (λ u. before ++ text_of_out (out_of_turn name current u)) e;
      stands = stayed h w place s s' found same st;
    }
took_did h w connection place s s' (Ended code) name current t before after found same e is text st =
    record {
      more = ap gave_line (sym e);
      text = text ∙ ap (λ u. before ++ text_of_out (out_of_turn name current u)) e;
      stands = stayed h w place s s' found same st;
    }

-- a turn of the session of a place
pub record TurnThere (w : World) (epoch place : ℕ) (t : Turn) (k : Kept) (c : AllCells) : Type 0 where
  pub session : Session
  pub found : slice_get w.sessions place ≡ Some session
  pub at : SessionAt w.sessions place session
  pub ended : TurnEnded w.tick w.items at.before at.after (place + 1) session (session_turn w.tick w.items epoch session) t k c

-- what is kept of it, and the slots of all sessions around those of its round
record RoundThere (h : Hub) (w : World) (place : ℕ) (k : Kept) : Type 0 where
  session : Session
  found : slice_get w.sessions place ≡ Some session
  at : SessionAt w.sessions place session
  kept : IsSession w.tick k session
  number : kept.asking.number ≡ place + 1
  early : kept.asking.floor ≤ h.tick
  in_range : h.tick ≤ GREATEST_TICK
  cells : StandsCells h.cells w.items (at.before ++ kept.asking.session.board.round ++ at.after)

round_there : (h : Hub) (w : World) (place : ℕ) (k : Kept) → StandsHub h w → place < length h.sessions.items → k ≡ get_or h.sessions.items place k
    → RoundThere h w place k
round_there h w place k st low is =
    let kept = kept_read w.tick h.sessions.items w.sessions place k st.sessions low is in
    let at : SessionAt w.sessions place kept.session = session_at_place w.sessions place kept.session kept.found in
    record {
      session = kept.session;
      found = kept.found;
      at = at;
      kept = kept.stands;
      number = omega (arith, kept.stands.stands.number, number_read 0 h.sessions.items place k st.numbers low is);
      early = omega (arith, kept.stands.early, st.tick);
      in_range = omega (arith, st.tick, st.in_range);
      cells = subst (StandsCells h.cells w.items) (at.all ∙ sym (append_assoc at.before kept.session.board.round at.after)
          ∙ ap (λ (x : Session). at.before ++ x.board.round ++ at.after) (sym kept.stands.session)) st.cells;
    }

pub turn_there : (h : Hub) (w : World) (epoch place : ℕ) (k k' : Kept) (t : Turn) (c : AllCells) → StandsHub h w → place < length h.sessions.items
    → k ≡ get_or h.sessions.items place k
    → ((items : List Item) (first others : List LiveSlot) (r : Record) → StandsSession k r → r.floor ≤ h.tick → h.tick ≤ GREATEST_TICK
    → StandsCells h.cells items (first ++ r.session.board.round ++ others)
    → TurnEnded h.tick items first others r.number r.session (turn_from h.tick items epoch r) t k' c)
    → TurnThere w epoch place t k' c
turn_there h w epoch place k k' t c st low is turned =
    let x : RoundThere h w place k = round_there h w place k st low is in
    let s : Session = x.session in
    let r : Record = x.kept.asking in
    record {
      session = s;
      found = x.found;
      at = x.at;
      ended = subst (λ (n : ℕ). TurnEnded w.tick w.items x.at.before x.at.after n s (session_turn w.tick w.items epoch s) t k' c) x.number
          (subst (λ (y : Session). TurnEnded w.tick w.items x.at.before x.at.after r.number y (session_turn w.tick w.items epoch s) t k' c)
          x.kept.session
          (subst (λ (y : SessionTurn). TurnEnded w.tick w.items x.at.before x.at.after r.number r.session y t k' c)
          (turn_begun w.tick w.items epoch r s x.kept.session x.kept.first)
          (subst (λ n. TurnEnded n w.items x.at.before x.at.after r.number r.session (turn_from n w.items epoch r) t k' c) st.tick
          (turned w.items x.at.before x.at.after r x.kept.stands x.early x.in_range x.cells))));
    }

pub kept_there : (w : World) (epoch place : ℕ) (t : Turn) (k : Kept) (c : AllCells) → (x : TurnThere w epoch place t k c) → (k' : Kept) → k' ≡ k
    → StandsSession k' x.ended.session.asking
kept_there w epoch place t k c x k' same =
    subst (λ (y : Kept). StandsSession y x.ended.session.asking) (sym same) x.ended.session.stands

-- the hub after it
pub turned_stands : (h h' : Hub) (w : World) (epoch place : ℕ) (k' : Kept) (t : Turn) → StandsHub h w → ChangedAt h h' place k'
    → (x : TurnThere w epoch place t k' h'.cells)
    → StandsHub h' (record w { sessions = change place (λ y. (session_turn w.tick w.items epoch x.session).session) w.sessions })
turned_stands h h' w epoch place k' t st same x =
    let s' : Session = (session_turn w.tick w.items epoch x.session).session in
    changed_at h h' w place k' x.session s' x.at st x.found same x.ended.session x.ended.numbered
    (turn_alive w.tick w.items epoch x.session) x.ended.cells

-- a turn on a connection
abbrev turn_on : World → ℕ → ℕ → ℕ → Session → Once
turn_on w connection epoch n s = took w connection n (session_turn w.tick w.items epoch s).session (session_turn w.tick w.items epoch s).gives

pub take_did : (h h' : Hub) (w : World) (connection epoch place : ℕ) (k' : Kept) (name : List ℕ) (t : Turn) (text last : List ℕ) → StandsHub h w
    → Some place ≡ place_in w.sessions (session_of w connection) → epoch ≡ epoch_of w connection → ChangedAt h h' place k'
    → name ≡ name_at h.connections.items connection
    → TurnThere w epoch place t k' h'.cells → last ≡ text ++ text_of_out (out_of_turn name (current_of k') t)
    → DidOnce (take_once connection w) (gave_line t) text last h'
take_did h h' w connection epoch place k' name t text last st linked newest same named x said =
    let s : Session = x.session in
    let there : There w.sessions (session_of w connection) place (ends w out.NoSession) (turn_on w connection epoch) =
    is_there w.sessions (session_of w connection) place (ends w out.NoSession) (turn_on w connection epoch) linked in
    let e : Some there.session ≡ Some s = sym there.found ∙ x.found in
    let is : there.session ≡ s = cc in
    subst (λ (o : Once). DidOnce o (gave_line t) text last h')
    (sym (ap (λ (n : ℕ). with_session w.sessions (session_of w connection) (ends w out.NoSession) (turn_on w connection n)) (sym newest) ∙ there.is
    ∙ ap (turn_on w connection epoch place) is))
    (took_did h' w connection place s (session_turn w.tick w.items epoch s).session (session_turn w.tick w.items epoch s).gives name (current_of k') t text
    last x.found (turn_stays w.tick w.items epoch s) x.ended.ends (named ∙ name_is h.connections.items w connection st.connections) said
    (turned_stands h h' w epoch place k' t st same x))

-- one that failed: no line was numbered or given. Nothing was done; or its line found no room; or the session or the slot
-- wanted memory
pub nothing_failed : (h : Hub) (w : World) → StandsHub h w → StandsQuiet w h
nothing_failed h w st = record { after = w; passed = record { rest = refl; sessions = quiet_all w.items w.sessions }; stands = st }

pub text_failed : (h h' : Hub) (w : World) (epoch place : ℕ) (k' : Kept) (t : Turn) → StandsHub h w → ChangedAt h h' place k'
    → (x : TurnThere w epoch place t k' h'.cells) → (t ≡ turn.Send → ⊥) → StandsQuiet w h'
text_failed h h' w epoch place k' t st same x none =
    record {
      after = record w { sessions = change place (λ y. (session_turn w.tick w.items epoch x.session).session) w.sessions };
      passed = record {
        rest = refl;
        sessions = quiet_at w.items w.sessions place x.session (session_turn w.tick w.items epoch x.session).session x.found (x.ended.quiet none);
      };
      stands = turned_stands h h' w epoch place k' t st same x;
    }

pub turn_failed : (h h' : Hub) (w : World) (place : ℕ) (k k' : Kept) → StandsHub h w → place < length h.sessions.items
    → k ≡ get_or h.sessions.items place k → ChangedAt h h' place k'
    → ((items : List Item) (first others : List LiveSlot) (r : Record) → StandsSession k r → r.floor ≤ h.tick → h.tick ≤ GREATEST_TICK
    → StandsCells h.cells items (first ++ r.session.board.round ++ others) → TurnFailed h.tick items first others r.number r.session k' h'.cells)
    → StandsQuiet w h'
turn_failed h h' w place k k' st low is same failed =
    let x : RoundThere h w place k = round_there h w place k st low is in
    let f : TurnFailed w.tick w.items x.at.before x.at.after x.kept.asking.number x.session k' h'.cells =
    subst (λ (y : Session). TurnFailed w.tick w.items x.at.before x.at.after x.kept.asking.number y k' h'.cells) x.kept.session
    (subst (λ n. TurnFailed n w.items x.at.before x.at.after x.kept.asking.number x.kept.asking.session k' h'.cells) st.tick
    (failed w.items x.at.before x.at.after x.kept.asking x.kept.stands x.early x.in_range x.cells)) in
    record {
      after = record w { sessions = change place (λ y. f.asking.session) w.sessions };
      passed = record { rest = refl; sessions = quiet_at w.items w.sessions place x.session f.asking.session x.found f.quiet };
      stands = changed_at h h' w place k' x.session f.asking.session x.at st x.found same
          (record { asking = f.asking; session = refl; early = f.early; first = f.first; stands = f.session })
          (f.session.number ∙ f.numbered ∙ x.number) (ap (λ (y : Session). is_alive y.life) f.quiet.rest) f.cells;
    }

-- a turn without a session
pub no_session : (h : Hub) (w : World) (connection : ℕ) (text last : List ℕ) → StandsHub h w → None ≡ place_in w.sessions (session_of w connection)
    → last ≡ text ++ text_of_out out.NoSession → DidOnce (take_once connection w) false text last h
no_session h w connection text last st none said =
    subst (λ (o : Once). DidOnce o false text last h)
    (sym (not_there w.sessions (session_of w connection) (ends w out.NoSession) (turn_on w connection (epoch_of w connection)) none))
    (record { more = refl; text = said; stands = st })
