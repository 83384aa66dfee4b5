-- A step of a session keeps it lawful.
use Rattle.std.proofs.Common.{◌≡◌, ℕ, ◌+◌, ◌≤◌, ◌&&◌, List, [], ◌∷◌, length, refl, arith, Bool, true, Option, Some}
use Rattle.std.proofs.Common.{None, nat_lt, nat_le}
use Rattle.std.specs.List.{list_any}
use Rattle.ls_value.specs.declared.limits.TheConstants.{GREATEST_NUMBER}
use Rattle.ls_request.specs.declared.request.Bind.{Bind}
use Rattle.ls_record.specs.Lines.{MessageOutcome, text_at}
use Rattle.ls_record.specs.Records.{Item, LiveSlot, Board, Life, Alive, Ending, Closed, Session, RoundLine, round_of}
use Rattle.ls_record.specs.Records.{taken_in, on_board, is_unsent, trimmed, numbered, on_stream, with_text, with_line}
use Rattle.ls_record.specs.Records.{given_next, is_to_loop, is_bound, unbound_at, opened, rebound, forced, ended}
use Rattle.ls_record.specs.Records.{timed_out, is_timed_out, unless_timed_out, is_due, least_wait, constrained}
use Rattle.ls_record.specs.Records.{with_outcome}
use Rattle.ls_record.specs.Acting.{bind_code}
use Rattle.ls_record.specs.Turning.{SessionTurn, Send, Spent, Superseded, Unbound, Ended, waits_until, next_given}
use Rattle.ls_record.specs.Turning.{round_turn, loop_text, end_text, gives_text, turn_owing, turn_bound}
use Rattle.ls_record.specs.Turning.{gives_unbound, session_turn}
use Rattle.ls_record.proofs.Rules.{found_rule, cond_rule}
use Rattle.ls_record.proofs.Parts.{given_by}
use Rattle.ls_lawful.specs.Lawful.{LawfulBoard, LawfulSession}
use Rattle.ls_lawful.proofs.Counting.{Counted, opened_counted, board_counted, trimmed_counted, stream_counted}
use Rattle.ls_lawful.proofs.Counting.{with_next, next_counted, rebound_counted}
use Rattle.ls_lawful.proofs.Frame.{Later, board_later, take_keeps, answered_keeps}

pub session_later : (items items' : List Item) → Later items items' → (s : Session) → LawfulSession items s → LawfulSession items' s
session_later items items' later s l =
    record { board = board_later items items' later s.board l.board; sent = l.sent; given_up = l.given_up; streams = l.streams }

-- a session is lawful by its board and by what is counted of its lines
counts : (items : List Item) (s : Session) → LawfulSession items s → Counted s
counts items s l = record { sent = l.sent; given_up = l.given_up; streams = l.streams }

lawful : (items : List Item) (s : Session) → LawfulBoard items s.board → Counted s → LawfulSession items s
lawful items s b c = record { board = b; sent = c.sent; given_up = c.given_up; streams = c.streams }

pub opened_lawful : (items : List Item) (number keepalive : ℕ) (limit content : Option ℕ) → LawfulSession items (opened number keepalive limit content)
opened_lawful items number keepalive limit content =
    lawful items (opened number keepalive limit content) (record { apart = tt; slots = tt }) (opened_counted number keepalive limit content)

-- a step of the board that takes no line away
pub on_board_keeps : (items : List Item) (f : Board → Board) (s : Session) → (LawfulBoard items s.board → LawfulBoard items (f s.board))
    → length s.board.lines ≤ length (f s.board).lines → LawfulSession items s → LawfulSession items (on_board f s)
on_board_keeps items f s keep grow l = lawful items (on_board f s) (keep l.board) (board_counted s (f s.board) grow (counts items s l))

pub numbered_keeps : (items : List Item) (f : Board → Board) (s : Session) → (LawfulBoard items s.board → LawfulBoard items (f s.board))
    → length s.board.lines ≤ length (f s.board).lines → LawfulSession items s → LawfulSession items (numbered f s)
numbered_keeps items f s keep grow l =
    lawful items (numbered f s) (keep l.board) (trimmed_counted (on_board f s) (board_counted s (f s.board) grow (counts items s l)))

given_grows : (now : ℕ) (b : Board) (kept : List LiveSlot) (o : Option RoundLine) → length b.lines ≤ length (given_by now b kept o).lines
given_grows now b kept None = omega arith
given_grows now b kept (Some t) = omega arith

pub take_grows : (due : LiveSlot → Bool) (now : ℕ) (items : List Item) (b : Board) → length b.lines ≤ length (taken_in due now items b).lines
take_grows due now items b = given_grows now b (round_of due items b.lines b.round).kept (round_of due items b.lines b.round).came

pub next_keeps : (items : List Item) (s : Session) → LawfulSession items s → LawfulSession items (given_next s)
next_keeps items s l =
    cond_rule (LawfulSession items) (is_unsent s) _ s
    (λ t. lawful items _ l.board (trimmed_counted (with_next s) (next_counted s t (counts items s l)))) (λ t. l)

-- what is true of each end of a session's turn
pub record TurnEnds (P : SessionTurn → Type 0) (now : ℕ) (items : List Item) (s : Session) : Type 0 where
  pub superseded : P (record { session = s; gives = Superseded (length s.streams) })
  pub unbound : P (record { session = s; gives = Unbound })
  pub owes : (text : List ℕ) (owed : List (List ℕ)) → P (gives_text text (record s { owed = owed }))
  pub loops : P (record { session = unbound_at now s; gives = Send loop_text })
  pub next : P (next_given s)
  pub spent : P (record { session = s; gives = Spent })
  pub waits : (round_of (is_due now s) items s.board.lines s.board.round).came ≡ None
      → P (record { session = on_board (taken_in (is_due now s) now items) s; gives = waits_until (least_wait now items s) })
  pub tells : (t : RoundLine) → (round_of (is_due now s) items s.board.lines s.board.round).came ≡ Some t
      → P (next_given (numbered (taken_in (is_due now s) now items) s))
  pub ending : (code : ℕ) → P (gives_text (end_text code) (record s { life = Closed code }))
  pub over : (code : ℕ) → P (record { session = s; gives = Ended code })

pub turn_rule : (P : SessionTurn → Type 0) (now : ℕ) (items : List Item) (epoch : ℕ) (s : Session) → TurnEnds P now items s
    → P (session_turn now items epoch s)
turn_rule P now items epoch s e =
    cond_rule P (nat_lt epoch (length s.streams)) _ _ (λ t. e.superseded)
    (λ t. cond_rule P (is_bound s) _ _ (λ u. by_life s.life) (λ u. by_end s.life))
  where
    by_round : P (round_turn now items s)
    by_round = cond_rule P (list_any (is_due now s) s.board.round && nat_le GREATEST_NUMBER (length s.board.lines)) _ _ (λ t. e.spent)
        (λ t. found_rule P (round_of (is_due now s) items s.board.lines s.board.round).came _ _ e.waits e.tells)

    by_owed : (owed : List (List ℕ)) → P (turn_owing now items s owed)
    by_owed (text ∷ owed) = e.owes text owed
    by_owed [] = cond_rule P (is_to_loop s.streams) _ _ (λ t. e.loops) (λ t. cond_rule P (is_unsent s) _ _ (λ u. e.next) (λ u. by_round))

    by_life : (life : Life) → P (turn_bound now items s life)
    by_life Alive = by_owed s.owed
    by_life (Ending code) = e.ending code
    by_life (Closed code) = e.over code

    by_end : (life : Life) → P (record { session = s; gives = gives_unbound life })
    by_end Alive = e.unbound
    by_end (Ending code) = e.over code
    by_end (Closed code) = e.over code

-- the next unsent line changes what was sent and is kept, or nothing
pub next_rule : (P : Session → Type 0) (s : Session) → P s
    → P (trimmed (on_stream (with_line (s.sent + 1) (text_at s.board.lines (s.sent + 1))) (record s { sent = s.sent + 1 }))) → P (given_next s)
next_rule P s p q = cond_rule P (is_unsent s) _ _ (λ t. q) (λ t. p)

pub unbound_lawful : (items : List Item) (tick : ℕ) (s : Session) → LawfulSession items s → LawfulSession items (unbound_at tick s)
unbound_lawful items tick s l = record { board = l.board; sent = l.sent; given_up = l.given_up; streams = l.streams }

gives_lawful : (items : List Item) (text : List ℕ) (s : Session) → LawfulSession items s → LawfulSession items (gives_text text s).session
gives_lawful items text s l = lawful items (gives_text text s).session l.board (stream_counted (with_text text) s (λ t. refl) (λ t. refl) (counts items s l))

pub session_keeps : (now : ℕ) (items : List Item) (epoch : ℕ) (s : Session) → LawfulSession items s
    → LawfulSession items (session_turn now items epoch s).session
session_keeps now items epoch s l =
    turn_rule (λ (t : SessionTurn). LawfulSession items t.session) now items epoch s (record {
      superseded = l;
      unbound = l;
      owes = λ text owed. gives_lawful items text (record s { owed = owed })
          (record { board = l.board; sent = l.sent; given_up = l.given_up; streams = l.streams });
      loops = unbound_lawful items now s l;
      next = next_keeps items s l;
      spent = l;
      waits = λ none. on_board_keeps items (taken_in (is_due now s) now items) s (take_keeps (is_due now s) now items s.board)
          (take_grows (is_due now s) now items s.board) l;
      tells = λ t some. next_keeps items (numbered (taken_in (is_due now s) now items) s)
          (numbered_keeps items (taken_in (is_due now s) now items) s (take_keeps (is_due now s) now items s.board)
          (take_grows (is_due now s) now items s.board) l);
      ending = λ code. gives_lawful items (end_text code) (record s { life = Closed code })
          (record { board = l.board; sent = l.sent; given_up = l.given_up; streams = l.streams });
      over = λ code. l;
    })

-- a client is told what became of its message
pub answered_lawful : (items : List Item) (outcome : MessageOutcome) (s : Session) → LawfulSession items s
    → LawfulSession items (numbered (with_outcome outcome) s)
answered_lawful items outcome s l = numbered_keeps items (with_outcome outcome) s (answered_keeps items outcome s.board) (omega arith) l

-- another bandwidth changes no line
pub constrained_lawful : (items : List Item) (limit : Option ℕ) (s : Session) → LawfulSession items s → LawfulSession items (constrained limit s)
constrained_lawful items limit s l = record { board = l.board; sent = l.sent; given_up = l.given_up; streams = l.streams }

-- one that ends has no slot
pub ended_lawful : (items : List Item) (code : ℕ) (s : Session) → LawfulSession items s → LawfulSession items (ended code s)
ended_lawful items code s l =
    record { board = record { apart = tt; slots = tt }; sent = l.sent; given_up = l.given_up; streams = l.streams }

pub timed_out_lawful : (items : List Item) (now : ℕ) (s : Session) → LawfulSession items s → LawfulSession items (unless_timed_out now s)
timed_out_lawful items now s l = cond_rule (LawfulSession items) (is_timed_out now s) _ _ (λ t. ended_lawful items timed_out s l) (λ t. l)

-- another stream of it, where the client may go on, and one that is forced to be over
pub rebound_lawful : (items : List Item) (number : ℕ) (s : Session) (b : Bind) → bind_code s b ≡ None → LawfulSession items s
    → LawfulSession items (rebound number b s)
rebound_lawful items number s b none l = lawful items (rebound number b s) l.board (rebound_counted number s b none (counts items s l))

pub forced_lawful : (items : List Item) (s : Session) → LawfulSession items s → LawfulSession items (forced s)
forced_lawful items s l = lawful items (forced s) l.board (stream_counted (λ t. record t { forced = true }) s (λ t. refl) (λ t. refl) (counts items s l))
