-- A session's record: the session of the world, and where it stands in asking its round; and what each call makes of it
-- (TLCP 2.1, streams and notifications; this project's profile).
use Rattle.std.specs.Prelude.{ℕ, ◌+◌, List, [], ◌∷◌, ◌++◌, length, Bool, true, false, Option, None, Some}
use Rattle.std.specs.Prelude.{nat_le, nat_lt, nat_eq, min, ◌&&◌, slice_get, option_map, if◌then◌else◌}
use Rattle.std.specs.Option.{option_map_or}
use Rattle.ls_value.specs.declared.limits.TheConstants.{GREATEST_NUMBER}
use Rattle.ls_event.specs.declared.event.Taken.{Taken}
use Rattle.ls_event.specs.declared.item.ItemDef.{ItemDef}
use Rattle.ls_request.specs.declared.request.Add.{Add}
use Rattle.ls_request.specs.declared.request.Bind.{Bind}
use Rattle.ls_mirror.specs.Client.{What}
use Rattle.ls_record.specs.Cases.{first_code}
use Rattle.ls_record.specs.Lines.{Begins, Configures, text_at}
use Rattle.ls_record.specs.Records.{LiveSlot, Board, Life, Alive, Ending, Closed, Session, on_board, is_unsent, given_next}
use Rattle.ls_record.specs.Records.{is_alive, is_of, are_filtered, frequency_of, is_due, due_at, numbered, on_stream}
use Rattle.ls_record.specs.Records.{with_text, is_to_loop, is_bound, unbound_at}
use Rattle.ls_record.specs.Acting.{asks_of, add_refusals, change_code, constrain_code, bind_code, are_too_many}
use Rattle.ls_record.specs.Acting.{are_spent}
use Rattle.ls_record.specs.Turning.{loop_text, end_text}
use Rattle.ls_session.specs.declared.session.Lost.{Lost}
use Rattle.ls_session.specs.declared.session.Lost.TheVariants as lost
use Rattle.ls_subs.specs.Plans.{keys_of_asks}
use Rattle.ls_subs.specs.Standing.{what_of, told_of, passed_at, passed_back}

-- a session and its number; the floor, below which no later tick may be: the tick of its creation, or of the last line
-- that was numbered or given at a tick, of its bandwidth, or of the loss of a stream; the tick at which its round is
-- asked, how many of its slots were asked in vain at that tick, whether the next one is asked, and the least tick at
-- which one of those that wait is due
pub record Record : Type 0 where
  pub number : ℕ
  pub session : Session
  pub floor : ℕ
  pub tick : ℕ
  pub asked : ℕ
  pub asks : Bool
  pub wait : Option ℕ

-- no slot is asked, and the round begins anew, of the session of a number, with a floor and a tick
abbrev pub rests : ℕ → ℕ → ℕ → Session → Record
rests number floor tick s =
    record { number = number; session = s; floor = floor; tick = tick; asked = 0; asks = false; wait = None }

-- a session that is created at a tick
abbrev pub created : ℕ → ℕ → Session → Record
created number now s = rests number now now s

-- a session that was changed by a call without a tick
abbrev pub begun_again : Session → Record → Record
begun_again s r = rests r.number r.floor r.tick s

-- by one at a tick that numbers and gives no line, sets no bandwidth and loses no stream: the floor stays
abbrev pub begun_at : ℕ → Session → Record → Record
begun_at now s r = rests r.number r.floor now s

-- and by one at a tick that does: the tick is the floor from then on
abbrev pub begun_anew : ℕ → Session → Record → Record
begun_anew now s r = rests r.number now now s

-- the question what a slot has to tell, and whether the slot is due
pub record Question : Type 0 where
  pub live : LiveSlot
  pub due : Bool

-- what a turn gives: a line, a question, nothing, nothing before a tick, no number for a line, that the session has a
-- newer stream, of this epoch, that no stream is bound, or that the session has ended
pub data Gives : Type 0 where
  Send : List ℕ → Gives
  Asks : Question → Gives
  Idle : Gives
  NotDue : ℕ → Gives
  Spent : Gives
  Superseded : ℕ → Gives
  Unbound : Gives
  Ended : ℕ → Gives

-- a record after a turn, and what the turn gives
pub record Turned : Type 0 where
  pub after : Record
  pub gives : Gives

-- whether the round goes on at this tick behind the slots that were asked: it begins anew where a question wasn't
-- answered, and at another tick
abbrev pub goes_on : ℕ → Record → Bool
goes_on now r = if r.asks then false else nat_eq r.tick now

abbrev pub from_place : ℕ → Record → ℕ
from_place now r = if goes_on now r then r.asked else 0

abbrev pub wait_from : ℕ → Record → Option ℕ
wait_from now r = if goes_on now r then r.wait else None

-- behind the last slot there is nothing, before the least tick at which one that waits is due
abbrev pub waits_until : Option ℕ → Gives
waits_until None = Idle
waits_until (Some tick) = NotDue tick

-- the slot of a place is asked; a due one only where a number is left for its line
abbrev pub round_asked : ℕ → Option ℕ → Record → ℕ → Option LiveSlot → Turned
round_asked now wait r n None = record { after = begun_at now r.session r; gives = waits_until wait }
round_asked now wait r n (Some v) =
    if is_due now r.session v && nat_le GREATEST_NUMBER (length r.session.board.lines)
    then record { after = begun_at now r.session r; gives = Spent }
    else record {
      after = record r { tick = now; asked = n; asks = true; wait = wait };
      gives = Asks (record { live = v; due = is_due now r.session v });
    }

-- the next unsent line is given
abbrev pub next_turned : ℕ → Record → Turned
next_turned now r =
    record {
      after = begun_anew now (given_next r.session) r;
      gives = Send (text_at r.session.board.lines (r.session.sent + 1));
    }

-- the next slot of the round is asked
abbrev pub round_turned : ℕ → Record → Turned
round_turned now r =
    round_asked now (wait_from now r) r (from_place now r)
    (slice_get r.session.board.round (from_place now r))

-- by what is owed: the first line that is; else LOOP, where the stream is over, and then none is bound; else the next
-- unsent line; else the round
abbrev pub owed_turned : ℕ → Record → List (List ℕ) → Turned
owed_turned now r (text ∷ owed) =
    record {
      after = begun_anew now (on_stream (with_text text) (record r.session { owed = owed })) r;
      gives = Send text;
    }
owed_turned now r [] =
    if is_to_loop r.session.streams
    then record { after = begun_anew now (unbound_at now r.session) r; gives = Send loop_text }
    else if is_unsent r.session then next_turned now r
    else round_turned now r

-- a turn on the stream that is bound: a session that has ended gives END once, and nothing else
abbrev pub bound_turned : ℕ → Record → Life → Turned
bound_turned now r Alive = owed_turned now r r.session.owed
bound_turned now r (Ending code) =
    record {
      after = begun_anew now (on_stream (with_text (end_text code)) (record r.session { life = Closed code })) r;
      gives = Send (end_text code);
    }
bound_turned now r (Closed code) = record { after = begun_at now r.session r; gives = Ended code }

-- what a turn gives where no stream is bound
abbrev pub gives_unbound : Life → Gives
gives_unbound Alive = Unbound
gives_unbound (Ending code) = Ended code
gives_unbound (Closed code) = Ended code

-- a turn at a tick, for the stream of an epoch: nothing where the session has a newer one
abbrev pub turned : ℕ → ℕ → Record → Turned
turned now epoch r =
    if nat_lt epoch (length r.session.streams)
    then record { after = begun_at now r.session r; gives = Superseded (length r.session.streams) }
    else if is_bound r.session then bound_turned now r r.session.life
    else record { after = begun_at now r.session r; gives = gives_unbound r.session.life }

-- the question that stands
abbrev pub question_of : Record → Option Question
question_of r =
    if r.asks
    then option_map (λ v. record { live = v; due = is_due r.tick r.session v })
    (slice_get r.session.board.round r.asked)
    else None

-- the answer that a slot has nothing: the next one is to be asked
abbrev pub passed_over : Record → Record
passed_over r = record r { asked = r.asked + 1; asks = false }

-- the answer that a slot waits until it is due: the next one is to be asked
abbrev pub waited : Record → LiveSlot → Record
waited r v =
    record (passed_over r) {
      wait = Some (option_map_or (min (due_at r.tick r.session v)) r.wait (due_at r.tick r.session v));
    }

-- the answer of a due slot's cut: it makes no line, and the slot is to be asked again; or its line is numbered, and the
-- slot goes to the back
abbrev pub answered_by : Record → LiveSlot → Taken → Option What → Record
answered_by r v t None =
    record r {
      session = on_board (λ b. record b { round = passed_at r.asked t b.round }) r.session;
      asks = false;
    }
answered_by r v t (Some what) =
    begun_anew r.tick
    (numbered (λ b. record { lines = told_of v r.tick t what b.lines; round = passed_back r.asked v t b.round })
    r.session) r

abbrev pub answered : Record → LiveSlot → Taken → Record
answered r v t = answered_by r v t (what_of r.session.board.lines v t)

-- a request on a session that has ended is refused as on an unknown one, and else by its own causes
abbrev pub unless_ended : Session → Option ℕ → Option ℕ
unless_ended s code = if is_alive s.life then code else Some 20

-- why an add is refused; why a delete or another frequency is; and why another bandwidth is
abbrev pub adding_code : List ItemDef → ℕ → Session → Add → Option ℕ
adding_code defs free s a = unless_ended s (first_code (add_refusals defs free s a))

abbrev pub changing_code : Session → ℕ → Option ℕ
changing_code s sub = unless_ended s (change_code s sub)

abbrev pub constraining_code : Session → Option ℕ
constraining_code s = unless_ended s (constrain_code s)

-- why a new stream of the session of a number is refused: a bind that names another is refused as on an unknown one
abbrev pub binding_code : ℕ → Session → Bind → Option ℕ
binding_code number s b = if nat_eq number b.session then unless_ended s (bind_code s b) else Some 20

-- and why one line more can't be numbered
abbrev pub numbering_code : Session → Option ℕ
numbering_code s = unless_ended s (first_code ((70, are_too_many s 1) ∷ (74, are_spent s 1) ∷ []))

-- a subscription begins: its two lines are numbered, and these slots join the round's end
abbrev pub with_plan : List ItemDef → Add → List LiveSlot → Board → Board
with_plan defs a vs b =
    record {
      lines = Configures a.sub (frequency_of (asks_of defs a)) (are_filtered (asks_of defs a))
          ∷ Begins a.sub (length (asks_of defs a)) (length a.schema) (keys_of_asks defs (asks_of defs a)) ∷ b.lines;
      round = b.round ++ vs;
    }

-- the slots of a subscription in a round
abbrev pub slots_of : ℕ → List LiveSlot → List LiveSlot
slots_of sub [] = []
slots_of sub (v ∷ vs) = if is_of sub v then v ∷ slots_of sub vs else slots_of sub vs

-- the code for which a session has ended, if it has
abbrev pub ended_by : Life → Option ℕ
ended_by Alive = None
ended_by (Ending code) = Some code
ended_by (Closed code) = Some code

-- what is answered to the loss of the stream of an epoch: the session has a newer one, the stream was bound and is no
-- longer, or none was
abbrev pub loss_of : ℕ → Session → Lost
loss_of epoch s =
    if nat_lt epoch (length s.streams) then lost.Superseded (length s.streams)
    else if is_bound s then lost.Unbound
    else lost.NotBound

-- and the record then
abbrev pub after_loss : ℕ → Lost → Record → Record
after_loss now lost.Unbound r = begun_anew now (unbound_at now r.session) r
after_loss now (lost.Superseded epoch) r = r
after_loss now lost.NotBound r = r
