-- A session's turn at a tick, from where the asking of its round stands.
use Rattle.std.specs.Prelude.{◌≡◌, ◌≤◌, ◌<◌, ℕ, List, [], ◌∷◌, ◌++◌, length, take, drop, Bool, true, false, ◌&&◌}
use Rattle.std.specs.Prelude.{Option, None, Some, nat_lt, nat_le, slice_get, if◌then◌else◌}
use Rattle.ls_event.specs.Cuts.{is_pending}
use Rattle.std.specs.List.{list_any}
use Rattle.ls_step.specs.declared.out.Out.{Out}
use Rattle.ls_value.specs.declared.limits.TheConstants.{GREATEST_NUMBER}
use Rattle.ls_record.specs.Cases.{with_found}
use Rattle.ls_record.specs.Lines.{Tells}
use Rattle.ls_record.specs.Records.{Item, LiveSlot, Session, Life, Alive, Ending, Closed, Round, round_of, on_board}
use Rattle.ls_record.specs.Records.{is_unsent, history_of, is_due, waits_of, least_of, numbered, is_to_loop, is_bound}
use Rattle.ls_record.specs.Records.{unbound_at}
use Rattle.ls_record.specs.Turning.{SessionTurn, TurnGives, Send, Idle, NotDue, Spent, Superseded, Unbound, Ended}
use Rattle.ls_record.specs.Turning.{waits_until, next_given, turn_owing, turn_bound, loop_text, gives_unbound}
use Rattle.ls_session.specs.Record.{Record, Question, Asks, from_place, wait_from, waited, turned}
use Rattle.ls_session.specs.declared.session.Ask.{Ask}
use Rattle.ls_session.specs.declared.session.Session.{Session as Kept}
use Rattle.ls_subs.specs.Standing.{ref_of}
use Rattle.ls_cells.specs.Cells.{AllCells, StandsCells}
use Rattle.ls_session.specs.Session.{StandsSession, AnswersTurn, current_of}
use Rattle.ls_session.specs.declared.session.Turn.{Turn}
use Rattle.ls_hub.specs.Hub.{BeginsAnew, IsSession}
use Rattle.ls_record.specs.Quiet.{IsQuiet}
use Rattle.ls_hub.specs.Quiet.{has_line}
use Rattle.ls_record.specs.Quiet.{IsQuiet}
use Rattle.ls_step.specs.declared.out.Out.TheVariants as out
use Rattle.ls_session.specs.declared.session.Turn.TheVariants as turn

-- a tick, if there is one, before others
abbrev pub before_ticks : Option ℕ → List ℕ → List ℕ
before_ticks None ticks = ticks
before_ticks (Some tick) ticks = tick ∷ ticks

-- what a session's turn is by its round, whose first slots had nothing or wait, and whose others had their turns: the
-- line that came is numbered and given, and its slot goes to the back; without one there is nothing before a tick
abbrev pub given_behind : ℕ → Session → List LiveSlot → Option ℕ → Round → SessionTurn
given_behind now s first wait r =
    with_found r.came
    (record { session = on_board (λ b. record b { round = first ++ r.kept }) s; gives = waits_until wait })
    (λ t. next_given (numbered (λ b. record {
      lines = Tells t.live.sub t.live.rank now t.came ∷ b.lines;
      round = (first ++ r.kept) ++ t.live ∷ [];
    }) s))

-- what a session's turn is by the slots behind the first ones, of which those that wait are due at the earliest at a
-- tick, if any does: no number, where one behind is due and none is left; else what comes by their turns
abbrev pub round_behind : ℕ → List Item → Session → List LiveSlot → Option ℕ → List LiveSlot → SessionTurn
round_behind now items s first wait behind =
    if list_any (is_due now s) behind && nat_le GREATEST_NUMBER (length s.board.lines)
    then record { session = s; gives = Spent }
    else given_behind now s first (least_of (before_ticks wait (waits_of now items s behind)))
    (round_of (is_due now s) items s.board.lines behind)

-- the same where the first n slots of its round had nothing or wait
abbrev pub rest_of_round : ℕ → List Item → Session → ℕ → Option ℕ → SessionTurn
rest_of_round now items s n wait =
    round_behind now items s (take n s.board.round) wait (drop n s.board.round)

-- by what is owed, whether the stream is over, and what is unsent
abbrev pub owing_from : ℕ → List Item → Session → ℕ → Option ℕ → List (List ℕ) → SessionTurn
owing_from now items s n wait (text ∷ owed) = turn_owing now items s (text ∷ owed)
owing_from now items s n wait [] =
    if is_to_loop s.streams then record { session = unbound_at now s; gives = Send loop_text }
    else if is_unsent s then next_given s
    else rest_of_round now items s n wait

-- how the turn of a session ends on the stream that is bound, where the first n slots of its round were asked
abbrev pub bound_from : ℕ → List Item → Session → ℕ → Option ℕ → Life → SessionTurn
bound_from now items s n wait Alive = owing_from now items s n wait s.owed
bound_from now items s n wait (Ending code) = turn_bound now items s (Ending code)
bound_from now items s n wait (Closed code) = turn_bound now items s (Closed code)

-- on the stream of an epoch
abbrev pub epoch_from : ℕ → List Item → ℕ → Session → ℕ → Option ℕ → SessionTurn
epoch_from now items epoch s n wait =
    if nat_lt epoch (length s.streams) then record { session = s; gives = Superseded (length s.streams) }
    else if is_bound s then bound_from now items s n wait s.life
    else record { session = s; gives = gives_unbound s.life }

-- how the turn ends, at a tick, that a record stands in
abbrev pub turn_from : ℕ → List Item → ℕ → Record → SessionTurn
turn_from now items epoch r = epoch_from now items epoch r.session (from_place now r) (wait_from now r)

-- how a session's turn ended, by what it gives; a line is the one that the session has as its current one
abbrev pub EndsAs : TurnGives → Turn → List ℕ → Type 0
EndsAs (Send text) t current = (t ≡ turn.Send) × (current ≡ text)
EndsAs Idle t current = t ≡ turn.Idle
EndsAs (NotDue tick) t current = t ≡ turn.NotDue tick
EndsAs Spent t current = t ≡ turn.Spent
EndsAs (Superseded epoch) t current = t ≡ turn.Superseded epoch
EndsAs Unbound t current = t ≡ turn.Unbound
EndsAs (Ended code) t current = t ≡ turn.Ended code

-- a session gave a question in its turn at a tick on the stream of an epoch, where the slots of other sessions stand
-- before and behind those of its round
pub record HasAsked (now : ℕ) (items : List Item) (epoch : ℕ) (before behind : List LiveSlot) (r : Record) (q : Question)
    (k : Kept) (c : AllCells) : Type 0 where
  pub early : r.floor ≤ now
  pub gives : (turned now epoch r).gives ≡ Asks q
  pub session : StandsSession k (turned now epoch r).after
  pub cells : StandsCells c items (before ++ r.session.board.round ++ behind)

-- after the answer its turn is as it was to be from a record on; a line was numbered only where it gives one next
pub record GoesOn (now : ℕ) (items : List Item) (epoch : ℕ) (before behind : List LiveSlot) (r : Record) (k : Kept)
    (c : AllCells) : Type 0 where
  pub asking : Record
  pub number : asking.number ≡ r.number
  pub early : asking.floor ≤ now
  pub session : StandsSession k asking
  pub cells : StandsCells c items (before ++ asking.session.board.round ++ behind)
  pub turn : turn_from now items epoch asking ≡ turn_from now items epoch r
  pub quiet : has_line epoch asking.session ≡ false → IsQuiet items r.session asking.session

-- an answer to what a session asks was taken, and its turn goes on
abbrev pub TakesAnswer : Ask → Kept → AllCells → Kept → AllCells → Type 0
TakesAnswer ask k c k' c' =
    (now : ℕ) (items : List Item) (epoch : ℕ) (before behind : List LiveSlot) (r : Record) (q : Question)
    → HasAsked now items epoch before behind r q k c → ask ≡ record { slot = ref_of q.live; due = q.due }
    → GoesOn now items epoch before behind r k' c'

-- whatever it asked it still asks
abbrev pub KeepsQuestion : Kept → AllCells → Kept → AllCells → Type 0
KeepsQuestion k c k' c' =
    (now : ℕ) (items : List Item) (epoch : ℕ) (before behind : List LiveSlot) (r : Record) (q : Question)
    → HasAsked now items epoch before behind r q k c → HasAsked now items epoch before behind r q k' c'

-- it goes on so, and no question stands
pub record Unasked (now : ℕ) (items : List Item) (epoch : ℕ) (before behind : List LiveSlot) (r : Record) (k : Kept)
    (c : AllCells) : Type 0 where
  pub on : GoesOn now items epoch before behind r k c
  pub unasked : on.asking.asks ≡ false

-- and a number is left for a line: a slot of which nothing is pending may be passed over, as if it was asked
pub record MaySkip (now : ℕ) (items : List Item) (epoch : ℕ) (before behind : List LiveSlot) (r : Record) (k : Kept)
    (c : AllCells) : Type 0 where
  pub rests : Unasked now items epoch before behind r k c
  pub left : length rests.on.asking.session.board.lines < GREATEST_NUMBER

-- nothing is pending of the slot that is to be asked next
pub record IsNextSettled (items : List Item) (r : Record) : Type 0 where
  pub live : LiveSlot
  pub found : slice_get r.session.board.round r.asked ≡ Some live
  pub settled : is_pending (history_of items live.item) live.slot ≡ false

-- something is
pub record IsNextPending (items : List Item) (r : Record) : Type 0 where
  pub live : LiveSlot
  pub found : slice_get r.session.board.round r.asked ≡ Some live
  pub pending : is_pending (history_of items live.item) live.slot ≡ true

-- the slot that was to be asked next isn't due at the round's tick, something of it is pending, and it was passed over
pub record HoldsNext (items : List Item) (r : Record) (k : Kept) : Type 0 where
  pub next : IsNextPending items r
  pub early : is_due r.tick r.session next.live ≡ false
  pub session : StandsSession k (waited r next.live)

-- a session gave this in its turn at a tick, which is as it was to be from a record on
pub record HasTurned (now : ℕ) (items : List Item) (epoch : ℕ) (before behind : List LiveSlot) (r : Record) (t : Turn)
    (k : Kept) (c : AllCells) : Type 0 where
  pub asking : Record
  pub number : asking.number ≡ r.number
  pub early : asking.floor ≤ now
  pub answers : AnswersTurn (turned now epoch asking).gives t k
  pub session : StandsSession k (turned now epoch asking).after
  pub cells : StandsCells c items (before ++ asking.session.board.round ++ behind)
  pub turn : turn_from now items epoch asking ≡ turn_from now items epoch r
  pub quiet : has_line epoch asking.session ≡ false → IsQuiet items r.session asking.session

-- the turn of the session of a number ended at a tick, and the next one begins at its round's first slot; without a
-- line no other was numbered either
pub record TurnEnded (now : ℕ) (items : List Item) (before behind : List LiveSlot) (number : ℕ) (s : Session)
    (st : SessionTurn) (t : Turn) (k : Kept) (c : AllCells) : Type 0 where
  pub ends : EndsAs st.gives t (current_of k)
  pub numbered : k.number ≡ number
  pub session : IsSession now k st.session
  pub cells : StandsCells c items (before ++ st.session.board.round ++ behind)
  pub quiet : (t ≡ turn.Send → ⊥) → IsQuiet items s st.session

-- the turn of the session of a number failed at a tick for want of memory: no line was numbered or given, and the next
-- turn begins at its round's first slot
pub record TurnFailed (now : ℕ) (items : List Item) (before behind : List LiveSlot) (number : ℕ) (s : Session)
    (k : Kept) (c : AllCells) : Type 0 where
  pub asking : Record
  pub numbered : asking.number ≡ number
  pub early : asking.floor ≤ now
  pub first : BeginsAnew asking
  pub quiet : IsQuiet items s asking.session
  pub session : StandsSession k asking
  pub cells : StandsCells c items (before ++ asking.session.board.round ++ behind)

-- what a turn prints, and whether another one follows
abbrev pub out_of_turn : List ℕ → List ℕ → Turn → Out
out_of_turn name current turn.Send = out.Line name current
out_of_turn name current (turn.Ask a) = out.Idle
out_of_turn name current turn.Idle = out.Idle
out_of_turn name current (turn.NotDue tick) = out.NotDue tick
out_of_turn name current (turn.Ended code) = out.Ended code
out_of_turn name current (turn.Superseded epoch) = out.Superseded epoch
out_of_turn name current turn.Unbound = out.Unbound
out_of_turn name current turn.Spent = out.Spent

abbrev pub gave_line : Turn → Bool
gave_line turn.Send = true
gave_line (turn.Ask a) = false
gave_line turn.Idle = false
gave_line (turn.NotDue tick) = false
gave_line (turn.Ended code) = false
gave_line (turn.Superseded epoch) = false
gave_line turn.Unbound = false
gave_line turn.Spent = false
