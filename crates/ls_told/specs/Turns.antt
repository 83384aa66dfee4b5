-- What a session's turns say of its history, and of the items of its slots (TLCP 2.1, session life; this project's
-- profile).
use Rattle.std.specs.Prelude.{◌≡◌, ◌≤◌, ◌<◌, ◌⊎◌, ℕ, ◌+◌, List, length, true, None, Some}
use mathlib.Core.List.{IsPrefix}
use Rattle.ls_value.specs.Each.{Each}
use Rattle.ls_value.specs.declared.limits.TheConstants.{GREATEST_NUMBER}
use Rattle.ls_event.specs.declared.event.Entry.{Entry}
use Rattle.ls_event.specs.declared.event.Mode.TheVariants as mode
use Rattle.ls_event.specs.declared.item.ItemDef.{ItemDef}
use Rattle.ls_event.specs.Slots.{Slot}
use Rattle.ls_event.specs.Cuts.{cut, is_pending}
use Rattle.ls_line.specs.Lines.{text_of_line}
use Rattle.ls_line.specs.declared.line.Line.TheVariants as line
use Rattle.ls_record.specs.Records.{LiveSlot, Session, Alive, Ending, Closed, least_wait, is_due}
use Rattle.ls_register.specs.declared.told.Told.{Told}
use Rattle.ls_told.specs.Spoken.{next_of, text_of_next, GivesNothing}
use Rattle.ls_told.specs.Heard.{heard, counts_as, keepalive_of, last_gave, last_given, LineGiven}
use Rattle.ls_told.specs.Seen.{Watched, Testified, IsTold, Sends, items_seen, seen_of}

-- the stream of this epoch is bound, and nothing waits to be given on it: no END, no line that is owed, no LOOP and no
-- numbered line
pub record IsStill (number epoch : ℕ) (es : List Told) : Type 0 where
  pub newest : length (heard number es).streams ≡ epoch
  pub bound : (heard number es).unbound ≡ None
  pub alive : (heard number es).life ≡ Alive
  pub none : next_of (heard number es) ≡ GivesNothing

-- nothing is pending of a slot, a rest of Clears in mode RAW aside, of which no line comes
abbrev pub HasNothing : List Entry → Slot → Type 0
HasNothing h s = is_pending h s ≡ true → (s.plan.mode ≡ mode.Raw) × (cut h s ≡ None)

-- each slot enqueued no less than this caller had seen of its item
abbrev pub AreFresh : List Watched → Session → Type 0
AreFresh held s = Each (λ (v : LiveSlot). length (seen_of held v.item) ≤ v.slot.last) s.board.round

-- nothing is pending of any slot
pub record IsIdle (config : List ItemDef) (number epoch : ℕ) (es : List Told) (ws held : List Watched) : Type 0 where
  pub still : IsStill number epoch es
  pub session : Session
  pub told : IsTold config number es ws session
  pub nothing : Each (λ (v : LiveSlot). HasNothing (seen_of ws v.item) v.slot) session.board.round
  pub fresh : AreFresh held session

-- at a tick nothing is pending of any slot that is due, and of others something is, of which the first is due at `at`
pub record IsNotDue (config : List ItemDef) (number epoch tick at : ℕ) (es : List Told) (ws held : List Watched)
    : Type 0 where
  pub still : IsStill number epoch es
  pub session : Session
  pub told : IsTold config number es ws session
  pub least : least_wait tick (items_seen config ws) session ≡ Some at
  pub nothing : Each (λ (v : LiveSlot). is_due tick session v ≡ true → HasNothing (seen_of ws v.item) v.slot)
      session.board.round
  pub fresh : AreFresh held session

-- what tells a client that its stream is alive (TLCP 2.1, PROBE)
abbrev pub probe_text : List ℕ
probe_text = text_of_line line.Probe

-- the stream's last line was given its keep-alive ago or more
abbrev pub IsSilent : ℕ → ℕ → List Told → Type 0
IsSilent epoch tick es = (last : ℕ) × (last_gave epoch es ≡ Some last) × (last + keepalive_of es ≤ tick)

-- the line that was given last, where it was given on this stream, is younger than the keep-alive
abbrev pub SpokeInTime : ℕ → ℕ → List Told → Type 0
SpokeInTime epoch tick es =
    (last : LineGiven) → last_given es ≡ Some last → last.epoch ≡ epoch → tick < last.tick + keepalive_of es

-- a stream is alive, where it gave nothing for so long and has nothing to give
pub record IsProbe (config : List ItemDef) (number epoch tick : ℕ) (es : List Told) (ws held : List Watched)
    (text : List ℕ) : Type 0 where
  pub text_is : text ≡ probe_text
  pub silent : IsSilent epoch tick es
  pub idle : IsIdle config number epoch es ws held
      ⊎ ((at : ℕ) × IsNotDue config number epoch tick at es ws held)

-- a line was given: END, one that is owed, LOOP, or the next numbered one, the first of them that there is; or PROBE
pub record GivesLine (config : List ItemDef) (epoch now : ℕ) (old new : Testified) (text : List ℕ) : Type 0 where
  pub tick : ℕ
  pub sends : Sends old new epoch text tick
  pub begins : IsPrefix old.later sends.before
  pub tick_is : tick ≡ counts_as now sends.before
  pub newest : length (heard old.number sends.before).streams ≡ epoch
  pub bound : (heard old.number sends.before).unbound ≡ None
  pub what : (text_of_next (next_of (heard old.number sends.before)) ≡ Some text)
      ⊎ IsProbe config old.number epoch tick sends.before new.watches old.watches text

-- the session has ended for the cause of a code, and END was given, or no stream is bound
pub record HasEnded (number code : ℕ) (es : List Told) : Type 0 where
  pub ended : ((heard number es).life ≡ Closed code)
      ⊎ (((heard number es).life ≡ Ending code) × ((since : ℕ) × ((heard number es).unbound ≡ Some since)))

-- no stream is bound
abbrev pub IsUnbound : ℕ → List Told → Type 0
IsUnbound number es = (since : ℕ) × ((heard number es).unbound ≡ Some since)

-- there is no number for a line, or the session's history is spent
abbrev pub IsSpent : ℕ → List Told → Type 0
IsSpent number es = (GREATEST_NUMBER ≤ length (heard number es).texts) ⊎ (GREATEST_NUMBER ≤ length es)
