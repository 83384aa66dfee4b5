-- A session's turn: which line it gives next, or why it gives none (TLCP 2.1, session life; this project's profile).
use Rattle.std.specs.Prelude.{ℕ, ◌+◌, List, [], ◌∷◌, length, Option, None, Some, ◌&&◌, nat_lt, nat_le, if◌then◌else◌}
use Rattle.std.specs.List.{list_any}
use Rattle.ls_line.specs.Lines.{text_of_line}
use Rattle.ls_record.specs.Cases.{with_found}
use Rattle.ls_record.specs.Lines.{text_at}
use Rattle.ls_record.specs.Records.{Item, Life, Alive, Ending, Closed, Session, round_of, taken_in, on_board}
use Rattle.ls_record.specs.Records.{is_unsent, given_next, numbered, on_stream, with_text, is_to_loop, is_bound}
use Rattle.ls_record.specs.Records.{unbound_at, is_due, least_wait}
use Rattle.ls_record.specs.Acting.{message_of}
use Rattle.ls_value.specs.declared.limits.TheConstants.{GREATEST_NUMBER}
use Rattle.ls_line.specs.declared.line.Line.TheVariants as line

-- what a session's turn gives: a line, nothing, nothing before a tick, no number for a line, that the session has a
-- newer stream, of this epoch, that no stream is bound, or that it has ended for the cause of a code
pub data TurnGives : Type 0 where
  Send : List ℕ → TurnGives
  Idle : TurnGives
  NotDue : ℕ → TurnGives
  Spent : TurnGives
  Superseded : ℕ → TurnGives
  Unbound : TurnGives
  Ended : ℕ → TurnGives

-- a session after its turn, and what the turn gives
pub record SessionTurn : Type 0 where
  pub session : Session
  pub gives : TurnGives

-- the next unsent line
abbrev pub next_given : Session → SessionTurn
next_given s = record { session = given_next s; gives = Send (text_at s.board.lines (s.sent + 1)) }

-- nothing, where no slot waits; else nothing before the least tick at which one that waits is due
abbrev pub waits_until : Option ℕ → TurnGives
waits_until None = Idle
waits_until (Some tick) = NotDue tick

-- where nothing is owed and nothing is unsent: no number, where a slot is due and none is left; else the round's line,
-- which is then the next unsent one, or nothing
abbrev pub round_turn : ℕ → List Item → Session → SessionTurn
round_turn now items s =
    if list_any (is_due now s) s.board.round && nat_le GREATEST_NUMBER (length s.board.lines)
    then record { session = s; gives = Spent }
    else with_found (round_of (is_due now s) items s.board.lines s.board.round).came
    (record {
      session = on_board (taken_in (is_due now s) now items) s;
      gives = waits_until (least_wait now items s);
    })
    (λ t. next_given (numbered (taken_in (is_due now s) now items) s))

-- what tells a client that its stream is over, and that its session has ended (TLCP 2.1, LOOP and END)
abbrev pub loop_text : List ℕ
loop_text = text_of_line line.Loop

abbrev pub end_text : ℕ → List ℕ
end_text code = text_of_line (line.End code (message_of code))

-- a line was given that isn't numbered
abbrev pub gives_text : List ℕ → Session → SessionTurn
gives_text text s = record { session = on_stream (with_text text) s; gives = Send text }

-- a session's turn, by what is owed: the first line that is owed; else LOOP, where the stream is over, and then none is
-- bound; else the next unsent line; else what its round gives
abbrev pub turn_owing : ℕ → List Item → Session → List (List ℕ) → SessionTurn
turn_owing now items s (text ∷ owed) = gives_text text (record s { owed = owed })
turn_owing now items s [] =
    if is_to_loop s.streams then record { session = unbound_at now s; gives = Send loop_text }
    else if is_unsent s then next_given s
    else round_turn now items s

-- a session's turn on the stream that is bound: one that has ended gives END once, and nothing else
abbrev pub turn_bound : ℕ → List Item → Session → Life → SessionTurn
turn_bound now items s Alive = turn_owing now items s s.owed
turn_bound now items s (Ending code) = gives_text (end_text code) (record s { life = Closed code })
turn_bound now items s (Closed code) = record { session = s; gives = Ended code }

-- what a turn gives where no stream is bound
abbrev pub gives_unbound : Life → TurnGives
gives_unbound Alive = Unbound
gives_unbound (Ending code) = Ended code
gives_unbound (Closed code) = Ended code

-- at a tick, for the stream of an epoch: nothing where the session has a newer one
abbrev pub session_turn : ℕ → List Item → ℕ → Session → SessionTurn
session_turn now items epoch s =
    if nat_lt epoch (length s.streams) then record { session = s; gives = Superseded (length s.streams) }
    else if is_bound s then turn_bound now items s s.life
    else record { session = s; gives = gives_unbound s.life }
