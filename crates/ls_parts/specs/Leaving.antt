-- What requests make of the slots of a session in threads, by its history (TLCP 2.1, control).
use Rattle.std.specs.Prelude.{◌≡◌, ◌≤◌, ◌<◌, ℕ, ◌+◌, List, [], ◌∷◌, ◌++◌, length, true, false, Option, Some}
use Rattle.ls_value.specs.Each.{Each}
use Rattle.ls_event.specs.declared.item.ItemDef.{ItemDef}
use Rattle.ls_request.specs.declared.request.Op.{Op}
use Rattle.ls_record.specs.declared.TheConstants.{MOST_UNBOUND}
use Rattle.ls_record.specs.Records.{Alive, Session, is_alive, is_used, frequency_in, is_filtered, mode_in}
use Rattle.ls_register.specs.declared.told.Told.{Told}
use Rattle.ls_session.specs.declared.session.Session.{Session as Kept}
use Rattle.ls_session.specs.Record.{Record}
use Rattle.ls_session.specs.Session.{StandsSession}
use Rattle.ls_told.specs.Spoken.{Spoken}
use Rattle.ls_told.specs.Seen.{Watched}
use Rattle.ls_told.specs.Keeping.{KeepsTold}
use Rattle.ls_told.specs.Requests.{op_code, is_spent, plain, slots_in}
use Rattle.ls_record.specs.Lines.{Ends, Configures, line_text, text_at}
use Rattle.ls_register.specs.declared.told.Told.TheVariants.{Ended}
use Rattle.ls_stream.specs.Standing.{IsShort}
use Rattle.ls_taking.specs.Groups.{SubSeen}
use Rattle.ls_taking.specs.Lives.{HasSeat}

-- a session that hasn't ended is without a stream for too long at a tick
pub record IsOverdue (tick : ℕ) (p : Spoken) : Type 0 where
  pub since : ℕ
  pub alive : p.life ≡ Alive
  pub unbound : p.unbound ≡ Some since
  pub late : since + MOST_UNBOUND ≤ tick

-- what an operation that asks for no slots is refused for, or not, by what is told of the session
pub record Finds (config : List ItemDef) (number : ℕ) (es : List Told) (ws : List Watched) (o : Op) (code : Option ℕ) : Type 0 where
  pub session : Session
  pub told : KeepsTold config number es ws session
  pub code_is : op_code config 0 (is_spent es) session o ≡ code

-- a subscription has ended: UNSUB was numbered at a tick, and so many slots are gone, each of which has its seat among
-- those that are handed back
pub record EndsSub (config : List ItemDef) (number sub tick : ℕ) (before es : List Told) (ws : List Watched) (slots : ℕ)
    (left : List SubSeen) : Type 0 where
  pub lines : es ≡ before ++ plain (line_text [] (Ends sub)) tick ∷ []
  pub earlier : Session
  pub was : KeepsTold config number before ws earlier
  pub session : Session
  pub told : KeepsTold config number es ws session
  pub gone : is_used sub session.board.round ≡ false
  pub count : slots ≡ length (slots_in sub earlier)
  pub seats : Each (HasSeat config ws left) (slots_in sub earlier)

-- a subscription has another greatest frequency: CONF was numbered at a tick
pub record SetsFrequency (config : List ItemDef) (number sub : ℕ) (frequency : Option ℕ) (tick : ℕ) (before es : List Told)
    (ws : List Watched) : Type 0 where
  pub earlier : Session
  pub was : KeepsTold config number before ws earlier
  pub lines : es
      ≡ before
      ++ plain (line_text [] (Configures sub (frequency_in (mode_in sub earlier.board.round) frequency)
      (is_filtered (mode_in sub earlier.board.round)))) tick
      ∷ []

-- a session has ended at a tick for the cause of a code, and all its slots, so many, are gone, each of which has its seat
-- among those that are handed back
pub record EndsAll (config : List ItemDef) (number code tick : ℕ) (before es : List Told) (ws : List Watched) (slots : ℕ)
    (left : List SubSeen) : Type 0 where
  pub lines : es ≡ before ++ Ended code tick ∷ []
  pub earlier : Session
  pub was : KeepsTold config number before ws earlier
  pub count : slots ≡ length earlier.board.round
  pub seats : Each (HasSeat config ws left) earlier.board.round

-- what is kept of a session has this text as that of its last line, which is short
pub record HasLast (k : Kept) (text : List ℕ) : Type 0 where
  pub of : Record
  pub stands : StandsSession k of
  pub alive : is_alive of.session.life ≡ true
  pub some : of.session.given_up < length of.session.board.lines
  pub text_is : text_at of.session.board.lines (length of.session.board.lines) ≡ text
  pub short : IsShort text
