-- What a session's calls make of its turn at a tick: a question, its answer, and how the turn ends.
use Rattle.std.proofs.Common.{◌≡◌, ℕ, zero, suc, ◌+◌, ◌≤◌, List, [], ◌∷◌, ◌++◌, length, take, drop, refl, sym, ◌∙◌, ap, arith, subst, cond, Bool, true, false}
use Rattle.std.proofs.Common.{append_assoc, not, ◌&&◌, nat_lt, min, slice_get, option_map, Option, Some, None}
use Rattle.std.specs.Option.{option_map_or}
use Rattle.std.proofs.lemmas.Bool.{eq-eqb}
use Rattle.std.proofs.lemmas.Bool.Decides.{nat_tests}
use Rattle.std.proofs.lemmas.List.{take-append-drop}
use Rattle.ls_event.specs.declared.event.Taken.{Taken}
use Rattle.ls_event.specs.Cuts.{cut, is_pending}
use Rattle.ls_mirror.specs.Client.{What}
use Rattle.ls_record.specs.Records.{Item, LiveSlot, Session, Life, Alive, Ending, Closed, history_of, change, on_board}
use Rattle.ls_record.specs.Records.{is_unsent, given_next, trimmed}
use Rattle.ls_record.specs.Records.{is_due, due_at, is_alive, is_bound, is_to_loop, unbound_at, on_stream, with_line}
use Rattle.ls_record.specs.Lines.{text_at}
use Rattle.ls_record.specs.Turning.{SessionTurn, TurnGives, Send as IsSend, Idle as IsIdle, NotDue as IsNotDue, Spent as IsSpent, Superseded as IsSuperseded}
use Rattle.ls_record.specs.Turning.{Unbound as IsUnbound, Ended as IsEnded}
use Rattle.ls_record.specs.Turning.{waits_until as turn_waits, next_given, session_turn, loop_text}
use Rattle.ls_record.specs.Turning.{gives_unbound as unbound_gives}
use Rattle.ls_stream.proofs.Reading.{lines_numbered_first}
use Rattle.ls_subs.specs.Standing.{ref_of, what_of, passed_live}
use Rattle.ls_session.specs.declared.session.Ask.{Ask}
use Rattle.ls_session.specs.declared.session.Turn.{Turn}
use Rattle.ls_session.specs.declared.session.Turn.TheVariants as turn
use Rattle.ls_session.specs.Record.{Record, Question, Gives, Send, Asks, Idle, NotDue, Spent, Superseded, Unbound, Ended, waits_until}
use Rattle.ls_session.specs.Record.{Turned, rests, begun_at, begun_anew, from_place, wait_from, round_asked, round_turned, next_turned, owed_turned, bound_turned}
use Rattle.ls_session.specs.Record.{turned, gives_unbound, question_of, passed_over, waited, answered_by, answered}
use Rattle.ls_session.specs.declared.session.Reply.{Reply}
use Rattle.ls_session.specs.declared.session.Reply.TheVariants as reply
use Rattle.ls_acts.specs.Telling.{reply_to, moved_by, replied_by}
use Rattle.ls_acts.proofs.Told.{nothing_replied, waiting_replied, taken_replied}
use Rattle.ls_hub.specs.Hub.{BeginsAnew}
use Rattle.ls_hub.proofs.Sessions.{asks_begins, anew_begins}
use Rattle.ls_hub.proofs.Quieted.{quiet_self, quiet_then, quiet_past}
use Rattle.ls_record.specs.Quiet.{IsQuiet}
use Rattle.ls_hub.specs.Quiet.{is_open, has_line}
use Rattle.ls_hub.specs.Turning.{rest_of_round, owing_from, bound_from, epoch_from, turn_from}
use Rattle.ls_hub.specs.Turning.{HasAsked, GoesOn, Unasked, EndsAs, HasTurned, TurnEnded, TurnFailed}
use Rattle.ls_hub.proofs.RoundTurns.{is_full, drop_at, take_changed, drop_behind, from_first, at_end, nothing_told, quiet_told, waiting_told, spent_told}
use Rattle.ls_hub.proofs.RoundTurns.{silent_told, line_told}
use Rattle.ls_session.specs.declared.session.Session.{Session as Kept}
use Rattle.ls_cells.proofs.Items.{cells_moved}
use Rattle.ls_cells.specs.Cells.{AllCells, StandsCells}
use Rattle.ls_session.specs.Session.{StandsSession, AnswersTurn, current_of}

-- a turn from the first slot is the session's
pub turn_begun : (now : ℕ) (items : List Item) (epoch : ℕ) (r : Record) (s : Session) → r.session ≡ s → BeginsAnew r
    → turn_from now items epoch r ≡ session_turn now items epoch s
turn_begun now items epoch r s is first =
    ap (λ n. epoch_from now items epoch r.session n (wait_from now r)) (first now).0
    ∙ ap (epoch_from now items epoch r.session 0) (first now).1
    ∙ from_first now items epoch r.session ∙ ap (session_turn now items epoch) is

-- a turn at the tick of a record of which no question stands
pub here_from : (now : ℕ) (items : List Item) (epoch : ℕ) (r : Record) (s : Session) (n : ℕ) (wait : Option ℕ)
    → turn_from now items epoch (record r { session = s; tick = now; asked = n; asks = false; wait = wait }) ≡ epoch_from now items epoch s n wait
here_from now items epoch r s n wait = ap (λ b. epoch_from now items epoch s (cond b n 0) (cond b wait None)) (eq-eqb now now refl)

-- a session may be asked on the stream of an epoch: it has no newer one, and this one is bound and not over, and the session
-- is alive
pub record IsOpen (epoch : ℕ) (s : Session) : Type 0 where
  pub newest : nat_lt epoch (length s.streams) ≡ false
  pub bound : is_bound s ≡ true
  pub alive : s.life ≡ Alive
  pub not_over : is_to_loop s.streams ≡ false

open_is : (epoch : ℕ) (s : Session) → IsOpen epoch s → is_open epoch s ≡ true
open_is epoch s o =
    ap (λ b. not b && is_bound s && is_alive s.life && not (is_to_loop s.streams)) o.newest
    ∙ ap (λ b. b && is_alive s.life && not (is_to_loop s.streams)) o.bound
    ∙ ap (λ l. is_alive l && not (is_to_loop s.streams)) o.alive ∙ ap not o.not_over

-- a session that isn't has no line to give
shut_none : (epoch : ℕ) (s : Session) → is_open epoch s ≡ false → has_line epoch s ≡ false
shut_none epoch s shut = ap (λ b. b && is_unsent s) shut

newer_none : (epoch : ℕ) (s : Session) → nat_lt epoch (length s.streams) ≡ true → has_line epoch s ≡ false
newer_none epoch s newer = shut_none epoch s (ap (λ b. not b && is_bound s && is_alive s.life && not (is_to_loop s.streams)) newer)

unbound_none : (epoch : ℕ) (s : Session) → is_bound s ≡ false → has_line epoch s ≡ false
unbound_none epoch s unbound = shut_none epoch s (by_newer (nat_lt epoch (length s.streams)))
  where
    by_newer : (b : Bool) → (not b && is_bound s && is_alive s.life && not (is_to_loop s.streams)) ≡ false
    by_newer true = refl
    by_newer false = ap (λ b. b && is_alive s.life && not (is_to_loop s.streams)) unbound

ended_none : (epoch : ℕ) (s : Session) (code : ℕ) → s.life ≡ Closed code → has_line epoch s ≡ false
ended_none epoch s code ended = shut_none epoch s (by_bound (not (nat_lt epoch (length s.streams)) && is_bound s))
  where
    by_bound : (b : Bool) → (b && is_alive s.life && not (is_to_loop s.streams)) ≡ false
    by_bound true = ap (λ l. is_alive l && not (is_to_loop s.streams)) ended
    by_bound false = refl

-- and neither has one without an unsent line
unsent_none : (epoch : ℕ) (s : Session) → is_unsent s ≡ false → has_line epoch s ≡ false
unsent_none epoch s sent = ap (λ b. is_open epoch s && b) sent ∙ by_open (is_open epoch s)
  where
    by_open : (b : Bool) → (b && false) ≡ false
    by_open true = refl
    by_open false = refl

-- the question of a record's place stands: the session may be asked, nothing is owed or unsent, and where the slot is due a number
-- is left
abbrev pub asking_at : ℕ → Record → Record
asking_at now r = record r { tick = now; asked = from_place now r; asks = true; wait = wait_from now r }

pub record IsAsking (now epoch : ℕ) (r : Record) (q : Question) (r' : Record) : Type 0 where
  pub opened : IsOpen epoch r.session
  pub owed : r.session.owed ≡ []
  pub unsent : is_unsent r.session ≡ false
  pub due : is_due now r.session q.live ≡ q.due
  pub left : q.due ≡ true → is_full r.session ≡ false
  pub found : slice_get r.session.board.round (from_place now r) ≡ Some q.live
  pub after : r' ≡ asking_at now r

-- a turn ended, and the next one begins anew
pub record HasEnded (now : ℕ) (r : Record) (st : SessionTurn) (after : Record) (gives : TurnGives) : Type 0 where
  pub turn : st ≡ record { session = after.session; gives = gives }
  pub anew : after ≡ rests after.number after.floor now after.session
  pub number : after.number ≡ r.number
  pub early : r.floor ≤ now → after.floor ≤ now
  pub round : after.session.board.round ≡ r.session.board.round

-- the session is as it was, and has no numbered line to give next
pub record IsStill (epoch : ℕ) (r after : Record) : Type 0 where
  pub same : after.session ≡ r.session
  pub none : has_line epoch r.session ≡ false

-- it gave a question, or it ended
abbrev pub Went : ℕ → ℕ → Record → SessionTurn → Record → Gives → Type 0
Went now epoch r turn after (Asks q) = IsAsking now epoch r q after
Went now epoch r turn after (Send text) = HasEnded now r turn after (IsSend text)
Went now epoch r turn after Idle = HasEnded now r turn after IsIdle × IsStill epoch r after
Went now epoch r turn after (NotDue tick) = HasEnded now r turn after (IsNotDue tick) × IsStill epoch r after
Went now epoch r turn after Spent = HasEnded now r turn after IsSpent × IsStill epoch r after
Went now epoch r turn after (Superseded newest) = HasEnded now r turn after (IsSuperseded newest) × IsStill epoch r after
Went now epoch r turn after Unbound = HasEnded now r turn after IsUnbound × IsStill epoch r after
Went now epoch r turn after (Ended code) = HasEnded now r turn after (IsEnded code) × IsStill epoch r after

-- behind the last slot
end_went : (now epoch : ℕ) (r : Record) (st : SessionTurn) (wait : Option ℕ) → st ≡ record { session = r.session; gives = turn_waits wait }
    → has_line epoch r.session ≡ false → Went now epoch r st (begun_at now r.session r) (waits_until wait)
end_went now epoch r st None is none = (record { turn = is; anew = refl; number = refl; early = λ e. e; round = refl }, record { same = refl; none = none })
end_went now epoch r st (Some tick) is none = (record { turn = is; anew = refl; number = refl; early = λ e. e; round = refl }, record { same = refl; none = none })

-- a slot is asked, or it is due and no number is left
asked_went : (now : ℕ) (items : List Item) (epoch : ℕ) (r : Record) (v : LiveSlot) → IsOpen epoch r.session → r.session.owed ≡ []
    → is_unsent r.session ≡ false → slice_get r.session.board.round (from_place now r) ≡ Some v
    → Went now epoch r (rest_of_round now items r.session (from_place now r) (wait_from now r))
    (round_asked now (wait_from now r) r (from_place now r) (Some v)).after
    (round_asked now (wait_from now r) r (from_place now r) (Some v)).gives
asked_went now items epoch r v opened owed sent found = by_test (is_due now r.session v) (is_full r.session) refl refl
  where
    after_test : Bool → Bool → Turned
    after_test d b = cond (d && b) (record { after = begun_at now r.session r; gives = Spent })
        (record { after = asking_at now r; gives = Asks (record { live = v; due = is_due now r.session v }) })

    by_test : (d b : Bool) → is_due now r.session v ≡ d → is_full r.session ≡ b
        → Went now epoch r (rest_of_round now items r.session (from_place now r) (wait_from now r)) (after_test d b).after (after_test d b).gives
    by_test true true due full = (
      record { turn = spent_told now items r.session (from_place now r) (wait_from now r) v due full found; anew = refl; number = refl; early = λ e. e; round = refl },
      record { same = refl; none = unsent_none epoch r.session sent },
    )
    by_test true false due full =
        record { opened = opened; owed = owed; unsent = sent; due = refl; left = λ e. full; found = found; after = refl }
    by_test false b due full =
        record {
          opened = opened;
          owed = owed;
          unsent = sent;
          due = refl;
          left = λ e. absurd (let x : false ≡ true = sym due ∙ e in cc);
          found = found;
          after = refl;
        }

round_went : (now : ℕ) (items : List Item) (epoch : ℕ) (r : Record) → IsOpen epoch r.session → r.session.owed ≡ [] → is_unsent r.session ≡ false
    → Went now epoch r (rest_of_round now items r.session (from_place now r) (wait_from now r)) (round_turned now r).after (round_turned now r).gives
round_went now items epoch r opened owed sent = by_slot (slice_get r.session.board.round (from_place now r)) refl
  where
    by_slot : (o : Option LiveSlot) → slice_get r.session.board.round (from_place now r) ≡ o
        → Went now epoch r (rest_of_round now items r.session (from_place now r) (wait_from now r))
        (round_asked now (wait_from now r) r (from_place now r) o).after (round_asked now (wait_from now r) r (from_place now r) o).gives
    by_slot None found = end_went now epoch r _ (wait_from now r) (at_end now items r.session (from_place now r) (wait_from now r) found)
        (unsent_none epoch r.session sent)
    by_slot (Some v) found = asked_went now items epoch r v opened owed sent found

next_board : (s : Session) → (given_next s).board ≡ s.board
next_board s = by_test (is_unsent s)
  where
    by_test : (b : Bool)
        → (cond b (trimmed (on_stream (with_line (s.sent + 1) (text_at s.board.lines (s.sent + 1))) (record s { sent = s.sent + 1 }))) s).board ≡ s.board
    by_test true = refl
    by_test false = refl

owed_went : (now : ℕ) (items : List Item) (epoch : ℕ) (r : Record) (owed : List (List ℕ)) → nat_lt epoch (length r.session.streams) ≡ false
    → is_bound r.session ≡ true → r.session.life ≡ Alive → r.session.owed ≡ owed
    → Went now epoch r (owing_from now items r.session (from_place now r) (wait_from now r) owed) (owed_turned now r owed).after
    (owed_turned now r owed).gives
owed_went now items epoch r (text ∷ owed) newest bound alive is =
    record { turn = refl; anew = refl; number = refl; early = λ e. omega arith; round = refl }
owed_went now items epoch r [] newest bound alive is = by_over (is_to_loop r.session.streams) refl
  where
    ended : SessionTurn
    ended = rest_of_round now items r.session (from_place now r) (wait_from now r)

    by_unsent : (b : Bool) → is_unsent r.session ≡ b → is_to_loop r.session.streams ≡ false
        → Went now epoch r (cond b (next_given r.session) ended) (cond b (next_turned now r) (round_turned now r)).after
        (cond b (next_turned now r) (round_turned now r)).gives
    by_unsent true sent lasts =
        record { turn = refl; anew = refl; number = refl; early = λ e. omega arith; round = ap (λ b. b.round) (next_board r.session) }
    by_unsent false sent lasts =
        round_went now items epoch r (record { newest = newest; bound = bound; alive = alive; not_over = lasts }) is sent

    looped : Turned
    looped = record { after = begun_anew now (unbound_at now r.session) r; gives = Send loop_text }

    by_over : (b : Bool) → is_to_loop r.session.streams ≡ b
        → Went now epoch r
        (cond b (record { session = unbound_at now r.session; gives = IsSend loop_text }) (cond (is_unsent r.session) (next_given r.session) ended))
        (cond b looped (cond (is_unsent r.session) (next_turned now r) (round_turned now r))).after
        (cond b looped (cond (is_unsent r.session) (next_turned now r) (round_turned now r))).gives
    by_over true over = record { turn = refl; anew = refl; number = refl; early = λ e. omega arith; round = refl }
    by_over false over = by_unsent (is_unsent r.session) refl over

bound_went : (now : ℕ) (items : List Item) (epoch : ℕ) (r : Record) (l : Life) → nat_lt epoch (length r.session.streams) ≡ false
    → is_bound r.session ≡ true → r.session.life ≡ l
    → Went now epoch r (bound_from now items r.session (from_place now r) (wait_from now r) l) (bound_turned now r l).after (bound_turned now r l).gives
bound_went now items epoch r Alive newest bound is = owed_went now items epoch r r.session.owed newest bound is refl
bound_went now items epoch r (Ending code) newest bound is =
    record { turn = refl; anew = refl; number = refl; early = λ e. omega arith; round = refl }
bound_went now items epoch r (Closed code) newest bound is =
    (record { turn = refl; anew = refl; number = refl; early = λ e. e; round = refl }, record { same = refl; none = ended_none epoch r.session code is })

unbound_went : (now epoch : ℕ) (r : Record) (l : Life) → is_bound r.session ≡ false
    → Went now epoch r (record { session = r.session; gives = unbound_gives l }) (begun_at now r.session r) (gives_unbound l)
unbound_went now epoch r Alive unbound =
    (record { turn = refl; anew = refl; number = refl; early = λ e. e; round = refl }, record { same = refl; none = unbound_none epoch r.session unbound })
unbound_went now epoch r (Ending code) unbound =
    (record { turn = refl; anew = refl; number = refl; early = λ e. e; round = refl }, record { same = refl; none = unbound_none epoch r.session unbound })
unbound_went now epoch r (Closed code) unbound =
    (record { turn = refl; anew = refl; number = refl; early = λ e. e; round = refl }, record { same = refl; none = unbound_none epoch r.session unbound })

pub turn_went : (now : ℕ) (items : List Item) (epoch : ℕ) (r : Record)
    → Went now epoch r (turn_from now items epoch r) (turned now epoch r).after (turned now epoch r).gives
turn_went now items epoch r = by_newer (nat_lt epoch (length r.session.streams)) refl
  where
    ended : SessionTurn
    ended = bound_from now items r.session (from_place now r) (wait_from now r) r.session.life

    unbound : SessionTurn
    unbound = record { session = r.session; gives = unbound_gives r.session.life }

    none : Turned
    none = record { after = begun_at now r.session r; gives = gives_unbound r.session.life }

    by_bound : (b : Bool) → is_bound r.session ≡ b → nat_lt epoch (length r.session.streams) ≡ false
        → Went now epoch r (cond b ended unbound) (cond b (bound_turned now r r.session.life) none).after
        (cond b (bound_turned now r r.session.life) none).gives
    by_bound true bound newest = bound_went now items epoch r r.session.life newest bound refl
    by_bound false bound newest = unbound_went now epoch r r.session.life bound

    newer : Turned
    newer = record { after = begun_at now r.session r; gives = Superseded (length r.session.streams) }

    by_newer : (b : Bool) → nat_lt epoch (length r.session.streams) ≡ b
        → Went now epoch r
        (cond b (record { session = r.session; gives = IsSuperseded (length r.session.streams) }) (cond (is_bound r.session) ended unbound))
        (cond b newer (cond (is_bound r.session) (bound_turned now r r.session.life) none)).after
        (cond b newer (cond (is_bound r.session) (bound_turned now r r.session.life) none)).gives
    by_newer true is = (record { turn = refl; anew = refl; number = refl; early = λ e. e; round = refl }, record { same = refl; none = newer_none epoch r.session is })
    by_newer false is = by_bound (is_bound r.session) refl is

-- the turn of a session that may be asked, of which nothing is owed
open_from : (now : ℕ) (items : List Item) (epoch : ℕ) (s : Session) (n : ℕ) (wait : Option ℕ) → IsOpen epoch s → s.owed ≡ []
    → epoch_from now items epoch s n wait ≡ cond (is_unsent s) (next_given s) (rest_of_round now items s n wait)
open_from now items epoch s n wait o owed =
    ap (λ b. cond b (record { session = s; gives = IsSuperseded (length s.streams) })
    (cond (is_bound s) (bound_from now items s n wait s.life) (record { session = s; gives = unbound_gives s.life }))) o.newest
    ∙ ap (λ b. cond b (bound_from now items s n wait s.life) (record { session = s; gives = unbound_gives s.life })) o.bound
    ∙ ap (bound_from now items s n wait) o.alive ∙ ap (owing_from now items s n wait) owed
    ∙ ap (λ b. cond b (record { session = unbound_at now s; gives = IsSend loop_text })
    (cond (is_unsent s) (next_given s) (rest_of_round now items s n wait))) o.not_over

-- and nothing is unsent
alive_from : (now : ℕ) (items : List Item) (epoch : ℕ) (s : Session) (n : ℕ) (wait : Option ℕ) → IsOpen epoch s → s.owed ≡ []
    → is_unsent s ≡ false → epoch_from now items epoch s n wait ≡ rest_of_round now items s n wait
alive_from now items epoch s n wait o owed sent =
    open_from now items epoch s n wait o owed ∙ ap (λ b. cond b (next_given s) (rest_of_round now items s n wait)) sent

module _ (now : ℕ) (items : List Item) (epoch : ℕ) (r : Record) (q : Question) (after : Record) (a : IsAsking now epoch r q after) where
  abbrev place : ℕ
  place = from_place now r

  abbrev wait : Option ℕ
  wait = wait_from now r

  -- the slot that is asked, behind which the turn is the rest of its round
  asked_rest : turn_from now items epoch r ≡ rest_of_round now items r.session place wait
  asked_rest = alive_from now items epoch r.session place wait a.opened a.owed a.unsent

  -- the turn behind an answer by which nothing is numbered
  next_from : (n : ℕ) (next : Option ℕ)
      → turn_from now items epoch (record r { tick = now; asked = n; asks = false; wait = next })
      ≡ rest_of_round now items r.session n next
  next_from n next = here_from now items epoch r r.session n next ∙ alive_from now items epoch r.session n next a.opened a.owed a.unsent

  -- the slot has nothing: it is due and has no cut, or it isn't, and nothing is pending
  pub turn_nothing : (q.due ≡ true → cut (history_of items q.live.item) q.live.slot ≡ None)
      → (q.due ≡ false → is_pending (history_of items q.live.item) q.live.slot ≡ false)
      → turn_from now items epoch (passed_over after) ≡ turn_from now items epoch r
  turn_nothing none quiet =
      ap (λ x. turn_from now items epoch (passed_over x)) a.after ∙ next_from (place + 1) wait ∙ sym (by_due q.due refl) ∙ sym asked_rest
    where
      by_due : (b : Bool) → q.due ≡ b → rest_of_round now items r.session place wait ≡ rest_of_round now items r.session (place + 1) wait
      by_due true is = nothing_told now items r.session place wait q.live (a.due ∙ is) (a.left is) a.found (none is)
      by_due false is = quiet_told now items r.session place wait q.live (a.due ∙ is) a.found (quiet is)

  -- it waits: it isn't due, and something is pending
  pub turn_waiting : q.due ≡ false → is_pending (history_of items q.live.item) q.live.slot ≡ true
      → turn_from now items epoch (waited after q.live) ≡ turn_from now items epoch r
  turn_waiting undue pends =
      ap (λ x. turn_from now items epoch (waited x q.live)) a.after
      ∙ next_from (place + 1) (Some (option_map_or (min (due_at now r.session q.live)) wait (due_at now r.session q.live)))
      ∙ sym (waiting_told now items r.session place wait q.live (a.due ∙ undue) a.found pends) ∙ sym asked_rest

get_changed : {A : Type 0} (f : A → A) (xs : List A) (n : ℕ) (x : A) → slice_get xs n ≡ Some x → slice_get (change n f xs) n ≡ Some (f x)
get_changed f [] n x is = absurd (let y : None ≡ Some x = is in cc)
get_changed f (y ∷ xs) zero x is = let same : y ≡ x = cc in ap (λ z. Some (f z)) same
get_changed f (y ∷ xs) (suc n) x is = get_changed f xs n x is

module _ (now : ℕ) (items : List Item) (epoch : ℕ) (r : Record) (q : Question) (after : Record) (a : IsAsking now epoch r q after) (t : Taken)
    (due : q.due ≡ true) (is : cut (history_of items q.live.item) q.live.slot ≡ Some t) where
  -- its cut makes no line
  silent_turn : what_of r.session.board.lines q.live t ≡ None
      → turn_from now items epoch (answered_by (asking_at now r) q.live t None) ≡ turn_from now items epoch r
  silent_turn none =
      let s : Session = on_board (λ b. record b { round = change (from_place now r) (passed_live t) b.round }) r.session in
      here_from now items epoch r s (from_place now r) (wait_from now r)
      ∙ alive_from now items epoch s (from_place now r) (wait_from now r)
      (record { newest = a.opened.newest; bound = a.opened.bound; alive = a.opened.alive; not_over = a.opened.not_over }) a.owed a.unsent
      ∙ sym (silent_told now items r.session (from_place now r) (wait_from now r) q.live t (a.due ∙ due) (a.left due) a.found is none)
      ∙ sym (asked_rest now items epoch r q after a)

  -- its cut makes one
  told_unsent : (what : What) → r.session.sent ≤ length r.session.board.lines
      → is_unsent (answered_by (asking_at now r) q.live t (Some what)).session ≡ true
  told_unsent what sent = grind (arith, nat_tests, sent)

  told_open : (what : What) → IsOpen epoch (answered_by (asking_at now r) q.live t (Some what)).session
  told_open what = record { newest = a.opened.newest; bound = a.opened.bound; alive = a.opened.alive; not_over = a.opened.not_over }

  told_turn : (what : What) → r.session.sent ≤ length r.session.board.lines → what_of r.session.board.lines q.live t ≡ Some what
      → turn_from now items epoch (answered_by (asking_at now r) q.live t (Some what)) ≡ turn_from now items epoch r
  told_turn what sent some =
      let s : Session = (answered_by (asking_at now r) q.live t (Some what)).session in
      let x : Record = begun_anew now s r in
      open_from now items epoch s (from_place now x) (wait_from now x) (told_open what) a.owed
      ∙ ap (λ b. cond b (next_given s) (rest_of_round now items s (from_place now x) (wait_from now x))) (told_unsent what sent)
      ∙ sym (line_told now items r.session (from_place now r) (wait_from now r) q.live t (a.due ∙ due) (a.left due) a.found is what some)
      ∙ sym (asked_rest now items epoch r q after a)

  -- a line was numbered only where it is given next
  pub quiet_answered : r.session.sent ≤ length r.session.board.lines → has_line epoch (answered after q.live t).session ≡ false
      → IsQuiet items r.session (answered after q.live t).session
  quiet_answered sent none =
      subst (λ x. IsQuiet items r.session (answered x q.live t).session) (sym a.after)
      (by_what (what_of r.session.board.lines q.live t) refl (subst (λ x. has_line epoch (answered x q.live t).session ≡ false) a.after none))
    where
      by_what : (o : Option What) → what_of r.session.board.lines q.live t ≡ o
          → has_line epoch (answered_by (asking_at now r) q.live t o).session ≡ false
          → IsQuiet items r.session (answered_by (asking_at now r) q.live t o).session
      by_what None none line = quiet_past items r.session (from_place now r) q.live t a.found is none
      by_what (Some what) some line =
          let s : Session = (answered_by (asking_at now r) q.live t (Some what)).session in
          absurd (let e : true ≡ false = sym (ap (λ b. b && is_unsent s) (open_is epoch s (told_open what)) ∙ told_unsent what sent) ∙ line in cc)

  pub turn_answered : r.session.sent ≤ length r.session.board.lines → turn_from now items epoch (answered after q.live t) ≡ turn_from now items epoch r
  turn_answered sent = ap (λ x. turn_from now items epoch (answered x q.live t)) a.after ∙ by_what (what_of r.session.board.lines q.live t) refl
    where
      by_what : (o : Option What) → what_of r.session.board.lines q.live t ≡ o
          → turn_from now items epoch (answered_by (asking_at now r) q.live t o) ≡ turn_from now items epoch r
      by_what None none = silent_turn none
      by_what (Some what) some = told_turn what sent some

-- the slot of a place, among the slots of all sessions
pub live_split : (first round others : List LiveSlot) (n : ℕ) (v : LiveSlot) → slice_get round n ≡ Some v
    → first ++ round ++ others ≡ (first ++ take n round) ++ v ∷ (drop (suc n) round ++ others)
live_split first round others n v at =
    let cut_there : round ≡ take n round ++ v ∷ drop (suc n) round =
    sym (take-append-drop n round) ∙ ap (λ vs. take n round ++ vs) (drop_at round n v at) in
    ap (λ vs. first ++ vs ++ others) cut_there
    ∙ ap (λ vs. vs ++ others) (sym (append_assoc first (take n round) (v ∷ drop (suc n) round)))
    ∙ append_assoc (first ++ take n round) (v ∷ drop (suc n) round) others

-- it changes at its place
pub live_put : (first round others : List LiveSlot) (n : ℕ) (v : LiveSlot) (f : LiveSlot → LiveSlot) → slice_get round n ≡ Some v
    → (first ++ take n round) ++ f v ∷ (drop (suc n) round ++ others) ≡ first ++ change n f round ++ others
live_put first round others n v f at =
    ap (λ vs. (first ++ vs) ++ f v ∷ (drop (suc n) round ++ others)) (sym (take_changed f round n))
    ∙ ap (λ vs. (first ++ take n (change n f round)) ++ f v ∷ (vs ++ others)) (sym (drop_behind f round n))
    ∙ sym (live_split first (change n f round) others n (f v) (get_changed f round n v at))

-- or goes to the back, where the others stay
pub live_back : (first round others : List LiveSlot) (n : ℕ)
    → (first ++ take n round) ++ (drop (suc n) round ++ others) ≡ (first ++ (take n round ++ drop (n + 1) round)) ++ others
live_back first round others n =
    sym (append_assoc (first ++ take n round) (drop (suc n) round) others)
    ∙ ap (λ vs. vs ++ others) (append_assoc first (take n round) (drop (suc n) round))
    ∙ ap (λ m. (first ++ (take n round ++ drop m round)) ++ others) {x = suc n} {y = n + 1} (omega arith)

pub back_is : (first rest others : List LiveSlot) (v : LiveSlot) → (first ++ rest) ++ v ∷ others ≡ first ++ (rest ++ v ∷ []) ++ others
back_is first rest others v =
    sym (append_assoc (first ++ rest) (v ∷ []) others) ∙ ap (λ vs. vs ++ others) (append_assoc first rest (v ∷ []))

-- the question that stands is that of the turn
pub asked_is : (now epoch : ℕ) (r : Record) (q : Question) (after : Record) → IsAsking now epoch r q after → question_of after ≡ Some q
asked_is now epoch r q after a =
    ap question_of a.after ∙ ap (option_map (λ v. record { live = v; due = is_due now r.session v })) a.found
    ∙ ap (λ b. Some (record { live = q.live; due = b })) a.due

-- a turn gave a question
module _ (now : ℕ) (items : List Item) (epoch : ℕ) (first others : List LiveSlot) (r : Record) (q : Question) (k : Kept) (c : AllCells)
    (h : HasAsked now items epoch first others r q k c) where
  abbrev at : ℕ
  at = from_place now r

  pub told_asking : IsAsking now epoch r q (turned now epoch r).after
  told_asking = subst (Went now epoch r (turn_from now items epoch r) (turned now epoch r).after) h.gives (turn_went now items epoch r)

  told_early : (turned now epoch r).after.floor ≡ r.floor
  told_early = ap (λ (x : Record). x.floor) told_asking.after

  told_number : (turned now epoch r).after.number ≡ r.number
  told_number = ap (λ (x : Record). x.number) told_asking.after

  -- its slot, among those of all
  pub told_slot : StandsCells c items ((first ++ take at r.session.board.round) ++ q.live ∷ (drop (suc at) r.session.board.round ++ others))
  told_slot = subst (StandsCells c items) (live_split first r.session.board.round others at q.live told_asking.found) h.cells

  -- the cells stand for the slots of a record whose round is as it was
  same_cells : (f : Record → Record) → (f (asking_at now r)).session.board.round ≡ r.session.board.round
      → StandsCells c items (first ++ (f (turned now epoch r).after).session.board.round ++ others)
  same_cells f same =
      subst (λ (vs : List LiveSlot). StandsCells c items (first ++ vs ++ others))
      (sym (ap (λ x. (f x).session.board.round) told_asking.after ∙ same)) h.cells

  same_quiet : (f : Record → Record) → (f (asking_at now r)).session ≡ r.session → IsQuiet items r.session (f (turned now epoch r).after).session
  same_quiet f same =
      subst (λ (x : Session). IsQuiet items r.session x) (sym (ap (λ x. (f x).session) told_asking.after ∙ same)) (quiet_self items r.session)

  -- its answer failed, or wasn't given
  pub told_failed : (s : Session) → IsQuiet items s r.session → TurnFailed now items first others r.number s k c
  told_failed s quiet =
      record {
        asking = (turned now epoch r).after;
        numbered = told_number;
        early = omega (arith, told_early, h.early);
        first = asks_begins (turned now epoch r).after (ap (λ x. x.asks) told_asking.after);
        quiet = quiet_then items s r.session (turned now epoch r).after.session quiet (same_quiet (λ x. x) refl);
        session = h.session;
        cells = same_cells (λ x. x) refl;
      }

  pub told_unasked : (k' : Kept) → (q.due ≡ true → cut (history_of items q.live.item) q.live.slot ≡ None)
      → (q.due ≡ false → is_pending (history_of items q.live.item) q.live.slot ≡ false) → StandsSession k' (passed_over (turned now epoch r).after)
      → Unasked now items epoch first others r k' c
  told_unasked k' none quiet st =
      record {
        on = record {
          asking = passed_over (turned now epoch r).after;
          number = told_number;
          early = omega (arith, told_early, h.early);
          session = st;
          cells = same_cells passed_over refl;
          turn = turn_nothing now items epoch r q (turned now epoch r).after told_asking none quiet;
          quiet = λ line. same_quiet passed_over refl;
        };
        unasked = refl;
      }

  pub told_waiting : (k' : Kept) → q.due ≡ false → is_pending (history_of items q.live.item) q.live.slot ≡ true
      → StandsSession k' (waited (turned now epoch r).after q.live) → GoesOn now items epoch first others r k' c
  told_waiting k' undue pends st =
      record {
        asking = waited (turned now epoch r).after q.live;
        number = told_number;
        early = omega (arith, told_early, h.early);
        session = st;
        cells = same_cells (λ x. waited x q.live) refl;
        turn = turn_waiting now items epoch r q (turned now epoch r).after told_asking undue pends;
        quiet = λ line. same_quiet (λ x. waited x q.live) refl;
      }

  pub told_held : (k' : Kept) → q.due ≡ false → is_pending (history_of items q.live.item) q.live.slot ≡ true
      → StandsSession k' (waited (turned now epoch r).after q.live) → Unasked now items epoch first others r k' c
  unfolding told_waiting
  told_held k' undue pends st = record { on = told_waiting k' undue pends st; unasked = refl }

  pub told_cells : StandsCells c items (first ++ (turned now epoch r).after.session.board.round ++ others)
  told_cells = same_cells (λ x. x) refl

  told_sent : r.session.sent ≤ length r.session.board.lines
  told_sent =
      subst (λ (x : Record). x.session.sent ≤ length x.session.board.lines) told_asking.after
      (lines_numbered_first k.lines (turned now epoch r).after.session h.session.lines)

  -- the cells behind a cut that was passed
  passed_cells : (c' : AllCells) (t : Taken) (o : Option What)
      → StandsCells c' items ((first ++ take at r.session.board.round) ++ passed_live t q.live ∷ (drop (suc at) r.session.board.round ++ others))
      → StandsCells c' items (first ++ (answered_by (asking_at now r) q.live t o).session.board.round ++ others)
  passed_cells c' t None cells =
      subst (StandsCells c' items) (live_put first r.session.board.round others at q.live (passed_live t) told_asking.found) cells
  passed_cells c' t (Some what) cells =
      subst (StandsCells c' items) (back_is first (take at r.session.board.round ++ drop (at + 1) r.session.board.round) others (passed_live t q.live))
      (cells_moved c' items _ _ _ _ (passed_live t q.live) (live_back first r.session.board.round others at) cells)

  answered_early : (t : Taken) (o : Option What) → (answered_by (asking_at now r) q.live t o).floor ≤ now
  answered_early t None = h.early
  answered_early t (Some what) = omega arith

  answered_number : (t : Taken) (o : Option What) → (answered_by (asking_at now r) q.live t o).number ≡ r.number
  answered_number t None = refl
  answered_number t (Some what) = refl

  pub told_taken : (k' : Kept) (c' : AllCells) (t : Taken) → q.due ≡ true → cut (history_of items q.live.item) q.live.slot ≡ Some t
      → StandsSession k' (answered (turned now epoch r).after q.live t)
      → StandsCells c' items ((first ++ take at r.session.board.round) ++ passed_live t q.live ∷ (drop (suc at) r.session.board.round ++ others))
      → GoesOn now items epoch first others r k' c'
  told_taken k' c' t due is st cells =
      record {
        asking = answered (turned now epoch r).after q.live t;
        number = ap (λ (x : Record). (answered x q.live t).number) told_asking.after ∙ answered_number t (what_of r.session.board.lines q.live t);
        early = subst (λ (x : Record). (answered x q.live t).floor ≤ now) (sym told_asking.after)
            (answered_early t (what_of r.session.board.lines q.live t));
        session = st;
        cells = subst (λ (x : Record). StandsCells c' items (first ++ (answered x q.live t).session.board.round ++ others)) (sym told_asking.after)
            (passed_cells c' t (what_of r.session.board.lines q.live t) cells);
        turn = turn_answered now items epoch r q (turned now epoch r).after told_asking t due is told_sent;
        quiet = quiet_answered now items epoch r q (turned now epoch r).after told_asking t due is told_sent;
      }

-- the reply to it was told
pub told_then : (now : ℕ) (items : List Item) (epoch : ℕ) (first others : List LiveSlot) (r : Record) (q : Question) (k k' : Kept) (c c' : AllCells)
    (h : HasAsked now items epoch first others r q k c) (p : Reply) → reply_to (history_of items q.live.item) q ≡ p
    → StandsCells c' items ((first ++ take (from_place now r) r.session.board.round) ++ moved_by p q.live
    ∷ (drop (suc (from_place now r)) r.session.board.round ++ others))
    → StandsSession k' (replied_by p q.live (turned now epoch r).after)
    → GoesOn now items epoch first others r k' c' × (p ≡ reply.Nothing → Unasked now items epoch first others r k' c')
told_then now items epoch first others r q k k' c c' h reply.Nothing is cells st =
    let n = nothing_replied (history_of items q.live.item) q is in
    let u = told_unasked now items epoch first others r q k c' (record {
      early = h.early;
      gives = h.gives;
      session = h.session;
      cells = subst (StandsCells c' items)
          (sym (live_split first r.session.board.round others (from_place now r) q.live (told_asking now items epoch first others r q k c h).found)) cells;
    }) k' n.0 n.1 st in
    (u.on, λ e. u)
told_then now items epoch first others r q k k' c c' h reply.Waiting is cells st =
    let w = waiting_replied (history_of items q.live.item) q is in (
      told_waiting now items epoch first others r q k c' (record {
        early = h.early;
        gives = h.gives;
        session = h.session;
        cells = subst (StandsCells c' items)
            (sym (live_split first r.session.board.round others (from_place now r) q.live (told_asking now items epoch first others r q k c h).found)) cells;
      }) k' w.0 w.1 st,
      λ e. absurd (let x : reply.Waiting ≡ reply.Nothing = e in cc),
    )
told_then now items epoch first others r q k k' c c' h (reply.Taken t) is cells st =
    let x = taken_replied (history_of items q.live.item) q t is in (
      told_taken now items epoch first others r q k c h k' c' t x.0 x.1 st cells,
      λ e. absurd (let y : reply.Taken t ≡ reply.Nothing = e in cc),
    )

-- the question that a turn answers with
pub record IsQuestion (g : Gives) (a : Ask) : Type 0 where
  pub asked : Question
  pub gives : g ≡ Asks asked
  pub ask : a ≡ record { slot = ref_of asked.live; due = asked.due }

pub question : (g : Gives) (ask : Ask) (k : Kept) → AnswersTurn g (turn.Ask ask) k → IsQuestion g ask
question (Send text) ask k a = absurd (let x : turn.Ask ask ≡ turn.Send = a.0 in cc)
question (Asks q) ask k a =
    let same : ask ≡ record { slot = ref_of q.live; due = q.due } = cc in
    record { asked = q; gives = refl; ask = same }
question Idle ask k a = absurd (let x : turn.Ask ask ≡ turn.Idle = a in cc)
question (NotDue tick) ask k a = absurd (let x : turn.Ask ask ≡ turn.NotDue tick = a in cc)
question Spent ask k a = absurd (let x : turn.Ask ask ≡ turn.Spent = a in cc)
question (Superseded epoch) ask k a = absurd (let x : turn.Ask ask ≡ turn.Superseded epoch = a in cc)
question Unbound ask k a = absurd (let x : turn.Ask ask ≡ turn.Unbound = a in cc)
question (Ended code) ask k a = absurd (let x : turn.Ask ask ≡ turn.Ended code = a in cc)

-- a turn that gave no question
ended_as : (now : ℕ) (items : List Item) (first others : List LiveSlot) (s : Session) (r : Record) (st : SessionTurn) (after : Record) (gives : TurnGives)
    (t : Turn) (k : Kept) (c : AllCells)
    → HasEnded now r st after gives → EndsAs gives t (current_of k) → StandsSession k after → r.floor ≤ now
    → StandsCells c items (first ++ r.session.board.round ++ others) → ((t ≡ turn.Send → ⊥) → IsQuiet items s after.session)
    → TurnEnded now items first others r.number s st t k c
ended_as now items first others s r st after gives t k c e ends session early cells quiet =
    subst (λ (x : SessionTurn). TurnEnded now items first others r.number s x t k c) (sym e.turn)
    (record {
      ends = ends;
      numbered = session.number ∙ e.number;
      session = record {
        asking = after;
        session = refl;
        early = e.early early;
        first = subst BeginsAnew (sym e.anew) (anew_begins after.number after.floor now after.session);
        stands = session;
      };
      cells = subst (λ vs. StandsCells c items (first ++ vs ++ others)) (sym e.round) cells;
      quiet = quiet;
    })

module _ (now : ℕ) (items : List Item) (epoch : ℕ) (first others : List LiveSlot) (s : Session) (r : Record) (st : SessionTurn) (after : Record) (t : Turn)
    (k : Kept) (c : AllCells) (session : StandsSession k after) (early : r.floor ≤ now) (cells : StandsCells c items (first ++ r.session.board.round ++ others))
    (quiet : has_line epoch r.session ≡ false → IsQuiet items s r.session) where
  still_as : (gives : TurnGives) → HasEnded now r st after gives × IsStill epoch r after → EndsAs gives t (current_of k)
      → TurnEnded now items first others r.number s st t k c
  still_as gives w ends =
      ended_as now items first others s r st after gives t k c w.0 ends session early cells
      (λ none. subst (λ (x : Session). IsQuiet items s x) (sym w.1.same) (quiet w.1.none))

  ended_by : (g : Gives) → Went now epoch r st after g → AnswersTurn g t k → ((a : Ask) → t ≡ turn.Ask a → ⊥)
      → TurnEnded now items first others r.number s st t k c
  ended_by (Send text) w a not =
      ended_as now items first others s r st after (IsSend text) t k c w a session early cells (λ none. absurd (none a.0))
  ended_by (Asks q) w a not = absurd (not (record { slot = ref_of q.live; due = q.due }) a)
  ended_by Idle w a not = still_as IsIdle w a
  ended_by (NotDue tick) w a not = still_as (IsNotDue tick) w a
  ended_by Spent w a not = still_as IsSpent w a
  ended_by (Superseded newest) w a not = still_as (IsSuperseded newest) w a
  ended_by Unbound w a not = still_as IsUnbound w a
  ended_by (Ended code) w a not = still_as (IsEnded code) w a

module _ (now : ℕ) (items : List Item) (epoch : ℕ) (first others : List LiveSlot) (r : Record) (t : Turn) (k : Kept) (c : AllCells)
    (h : HasTurned now items epoch first others r t k c) where
  pub no_question : ((a : Ask) → t ≡ turn.Ask a → ⊥) → TurnEnded now items first others r.number r.session (turn_from now items epoch r) t k c
  no_question not =
      subst (λ (n : ℕ). TurnEnded now items first others n r.session (turn_from now items epoch r) t k c) h.number
      (subst (λ (x : SessionTurn). TurnEnded now items first others h.asking.number r.session x t k c) h.turn
      (ended_by now items epoch first others r.session h.asking (turn_from now items epoch h.asking) (turned now epoch h.asking).after t k c h.session
      h.early h.cells h.quiet (turned now epoch h.asking).gives (turn_went now items epoch h.asking) h.answers not))

  -- one that did
  pub record Asking (ask : Ask) : Type 0 where
    pub question : Question
    pub is : ask ≡ record { slot = ref_of question.live; due = question.due }
    pub asked : HasAsked now items epoch first others h.asking question k c
    pub quiet : IsQuiet items r.session h.asking.session

  pub asks_this : (ask : Ask) → t ≡ turn.Ask ask → Asking ask
  asks_this ask is =
      let q = question (turned now epoch h.asking).gives ask k (subst (λ x. AnswersTurn (turned now epoch h.asking).gives x k) is h.answers) in
      let asked : HasAsked now items epoch first others h.asking q.asked k c =
      record { early = h.early; gives = q.gives; session = h.session; cells = h.cells } in
      record {
        question = q.asked;
        is = q.ask;
        asked = asked;
        quiet = h.quiet (unsent_none epoch h.asking.session (told_asking now items epoch first others h.asking q.asked k c asked).unsent);
      }

  -- the answer is still to come, or failed
  pub ask_failed : (ask : Ask) (a : Asking ask) (k' : Kept) (c' : AllCells) → HasAsked now items epoch first others h.asking a.question k' c'
      → TurnFailed now items first others r.number r.session k' c'
  ask_failed ask a k' c' x =
      subst (λ (n : ℕ). TurnFailed now items first others n r.session k' c') h.number
      (told_failed now items epoch first others h.asking a.question k' c' x r.session a.quiet)

  -- it was given
  pub goes_then : (ask : Ask) (a : Asking ask) (k' : Kept) (c' : AllCells) → GoesOn now items epoch first others h.asking k' c'
      → GoesOn now items epoch first others r k' c'
  goes_then ask a k' c' g =
      record {
        asking = g.asking;
        number = g.number ∙ h.number;
        early = g.early;
        session = g.session;
        cells = g.cells;
        turn = g.turn ∙ h.turn;
        quiet = λ none. quiet_then items r.session h.asking.session g.asking.session a.quiet (g.quiet none);
      }

-- a turn goes on, and one begins
pub turns_on : (now : ℕ) (items : List Item) (epoch : ℕ) (first others : List LiveSlot) (r : Record) (t : Turn) (k k' : Kept) (c : AllCells)
    → (g : GoesOn now items epoch first others r k c) → AnswersTurn (turned now epoch g.asking).gives t k' × StandsSession k' (turned now epoch g.asking).after
    → HasTurned now items epoch first others r t k' c
turns_on now items epoch first others r t k k' c g x =
    record { asking = g.asking; number = g.number; early = g.early; answers = x.0; session = x.1; cells = g.cells; turn = g.turn; quiet = g.quiet }

pub goes_from : (now : ℕ) (items : List Item) (epoch : ℕ) (first others : List LiveSlot) (r : Record) (k : Kept) (c : AllCells) → r.floor ≤ now → StandsSession k r
    → StandsCells c items (first ++ r.session.board.round ++ others) → GoesOn now items epoch first others r k c
goes_from now items epoch first others r k c early st cells =
    record { asking = r; number = refl; early = early; session = st; cells = cells; turn = refl; quiet = λ none. quiet_self items r.session }
