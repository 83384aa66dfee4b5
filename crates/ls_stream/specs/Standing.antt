-- What is kept of a session's lines and streams, and the session that it stands for, whatever its slots are.
use Rattle.std.specs.Prelude.{◌≡◌, ◌≤◌, ℕ, ◌+◌, ◌-◌, List, [], ◌∷◌, length, Option, None, Some, option_map, unwrap_or}
use Rattle.std.specs.Prelude.{true, false}
use Rattle.ls_value.specs.declared.limits.TheConstants.{GREATEST_NUMBER}
use Rattle.ls_keep.specs.Keeping.{Numbered, pushed, marked, resumed}
use Rattle.ls_keep.specs.Kept.{KeptLines as KeptNumbered, StandsKeep, last_of, given_of, text_of}
use Rattle.ls_request.specs.declared.request.Bind.{Bind}
use Rattle.ls_record.specs.Lines.{texts_behind}
use Rattle.ls_record.specs.Records.{Life, Alive, Ending, Closed, Session, Stream, timed_out, is_alive}
use Rattle.ls_record.specs.Acting.{destroyed}
use Rattle.ls_value.specs.Each.{Each}
use Rattle.ls_record.specs.Turning.{SessionTurn, TurnGives, Send, Idle, NotDue, Spent, Superseded, Unbound, Ended}
use Rattle.ls_record.specs.Turning.{loop_text, end_text}
use Rattle.ls_line.specs.declared.limits.TheConstants.{LONGEST_TEXT}
use Rattle.ls_stream.specs.declared.lines.Current.{Current}
use Rattle.ls_stream.specs.declared.lines.Current.TheVariants as current
use Rattle.ls_stream.specs.declared.lines.Life.{Life as KeptLife}
use Rattle.ls_stream.specs.declared.lines.Life.TheVariants as life
use Rattle.ls_stream.specs.declared.lines.Lines.{Lines as Kept}
use Rattle.ls_stream.specs.declared.lines.StreamTurn.{StreamTurn}
use Rattle.ls_stream.specs.declared.lines.StreamTurn.TheVariants as turn
use Rattle.ls_stream.specs.declared.stream.Stream.{Stream as KeptStream}

-- whether and why a session has ended, as it is kept
abbrev pub life_of : KeptLife → Life
life_of life.Alive = Alive
life_of (life.Ending code) = Ending code
life_of (life.Ended code) = Closed code

-- the line that was given last: one that isn't numbered, the numbered one that was given last, or LOOP
abbrev pub text_by : Kept → Current → List ℕ
text_by k current.Owed = k.given
text_by k current.Numbered = given_of k.keep
text_by k current.Loop = loop_text

abbrev pub current_text : Kept → List ℕ
current_text k = text_by k k.current

-- the texts of END that are ready: for each cause while a session is alive, and then for the one that ended it
abbrev pub KeepsEnd : List ℕ → List ℕ → List ℕ → Life → Type 0
KeepsEnd for_destroyed for_timed_out end Alive =
    (for_destroyed ≡ end_text destroyed) × (for_timed_out ≡ end_text timed_out)
KeepsEnd for_destroyed for_timed_out end (Ending code) = end ≡ end_text code
KeepsEnd for_destroyed for_timed_out end (Closed code) = Unit {0}

-- the numbered lines of a session, as texts
abbrev pub numbered_of : Session → Numbered
numbered_of s = record { texts = texts_behind 0 s.board.lines; sent = s.sent; given_up = s.given_up }

-- what is kept of a session's streams stands for the newest one: how many bytes may still be given on it before its
-- content length is reached, whether it is forced to be over, and its epoch
abbrev pub StandsStream : KeptStream → List Stream → Type 0
StandsStream k [] = ⊥
StandsStream k (t ∷ ts) =
    (k.left ≡ option_map (λ most. most - t.bytes) t.content) × (k.forced ≡ t.forced)
    × (k.epoch ≡ length (t ∷ ts)) × (length (t ∷ ts) ≤ GREATEST_NUMBER)

-- a stream on which a line of so many bytes was given, and CR LF
abbrev pub after_line : ℕ → KeptStream → KeptStream
after_line bytes k = record k { left = option_map (λ most. most - (bytes + 2)) k.left }

-- a text is no longer than a line may be, and so is each that is kept
abbrev pub IsShort : List ℕ → Type 0
IsShort text = length text ≤ LONGEST_TEXT

pub record AreShort (k : Kept) : Type 0 where
  pub owed : Each IsShort k.owed.items
  pub kept : Each IsShort k.keep.texts
  pub freed : IsShort k.keep.freed
  pub given : IsShort k.given
  pub destroyed : IsShort k.destroyed
  pub timed_out : IsShort k.timed_out
  pub end : IsShort k.end

-- what is kept of a session that hasn't ended: what is owed, and the numbered lines after the given-up number
pub record KeepsLines (k : Kept) (s : Session) : Type 0 where
  pub owed : k.owed.items ≡ s.owed
  pub keep : StandsKeep k.keep (numbered_of s)

-- of one that has ended none of these is kept: only how many lines there are, and how many were given
pub record KeepsNone (k : Kept) (s : Session) : Type 0 where
  pub owed : k.owed.items ≡ []
  pub texts : k.keep.texts ≡ []
  pub last : k.keep.given_up ≡ length s.board.lines
  pub sent : k.sent ≡ s.sent
  pub numbered : s.sent ≤ length s.board.lines

-- what is kept stands for a session: its lines, its newest stream, the tick since which none is bound, and whether it
-- has ended
pub record StandsLines (k : Kept) (s : Session) : Type 0 where
  pub alive : is_alive s.life ≡ true → KeepsLines k s
  pub over : is_alive s.life ≡ false → KeepsNone k s
  pub stream : StandsStream k.stream s.streams
  pub unbound : k.unbound ≡ s.unbound
  pub life : life_of k.life ≡ s.life
  pub end : KeepsEnd k.destroyed k.timed_out k.end s.life
  pub short : AreShort k

-- how many lines were numbered, and for how many more there is room
abbrev pub last_line : Kept → ℕ
last_line k = last_of k.keep

abbrev pub room_of : Kept → ℕ
room_of k = k.keep.spare

-- there are room and numbers for so many lines more
pub record IsReadyFor (lines : ℕ) (k : Kept) : Type 0 where
  pub room : lines ≤ room_of k
  pub numbers : last_line k + lines ≤ GREATEST_NUMBER

-- there is room for other lines, and all else stays
abbrev pub IsRoomier : Kept → Kept → Type 0
IsRoomier old new = new ≡ record old { keep = record old.keep { spare = room_of new } }

-- a line is numbered and kept; all else stays
pub record PushesLine (old : Kept) (text : List ℕ) (new : Kept) : Type 0 where
  pub keep : (n : Numbered) → StandsKeep old.keep n → StandsKeep new.keep (pushed text n)
  pub last : last_line new ≡ last_line old + 1
  pub room : room_of old ≤ room_of new + 1
  pub short : AreShort old → IsShort text → AreShort new
  pub rest : new ≡ record old { keep = new.keep }

-- where the session has ended, no line is kept any more, and their number stays; all else does
pub record ClearsEnded (old new : Kept) : Type 0 where
  pub alive : is_alive (life_of old.life) ≡ true → new ≡ old
  pub over : is_alive (life_of old.life) ≡ false → new.keep.texts ≡ []
  pub last : last_line new ≡ last_line old
  pub room : room_of old ≤ room_of new
  pub short : AreShort old → AreShort new
  pub rest : new ≡ record old { keep = new.keep }

-- a line is numbered, and waits to be given; where the session has ended, no line is kept; all else stays
pub record NumbersLine (old : Kept) (text : List ℕ) (new : Kept) : Type 0 where
  pub keep : is_alive (life_of old.life) ≡ true → (n : Numbered) → StandsKeep old.keep n
      → StandsKeep new.keep (pushed text n)
  pub none : is_alive (life_of old.life) ≡ false → new.keep.texts ≡ []
  pub last : last_line new ≡ last_line old + 1
  pub room : room_of old ≤ room_of new + 1
  pub short : AreShort old → IsShort text → AreShort new
  pub rest : new ≡ record old { keep = new.keep }

-- the next numbered line is given
pub record GivesNumbered (old new : Kept) : Type 0 where
  pub keep : (n : Numbered) → StandsKeep old.keep n → StandsKeep new.keep (marked n)
  pub text : (n : Numbered) → StandsKeep old.keep n → given_of new.keep ≡ text_of n.texts (n.sent + 1)
  pub short : AreShort old → AreShort new
  pub rest : new ≡ record old {
    keep = new.keep;
    stream = after_line (length (given_of new.keep)) old.stream;
    current = current.Numbered;
  }

-- what is answered to a turn that gives this
abbrev pub AnswersGives : TurnGives → StreamTurn → Kept → Type 0
AnswersGives (Send text) t k = (t ≡ turn.Line) × (current_text k ≡ text)
AnswersGives Idle t k = ⊥
AnswersGives (NotDue tick) t k = ⊥
AnswersGives Spent t k = ⊥
AnswersGives (Superseded epoch) t k = t ≡ turn.Superseded epoch
AnswersGives Unbound t k = t ≡ turn.Unbound
AnswersGives (Ended code) t k = t ≡ turn.Ended code

-- what is answered to a turn by what it gives before the round is asked, and what is kept then: where that is nothing,
-- it stands for the same session
abbrev pub GivesFirst : Option SessionTurn → Session → StreamTurn → Kept → Type 0
GivesFirst None s t k = (t ≡ turn.Nothing) × StandsLines k s
GivesFirst (Some d) s t k = AnswersGives d.gives t k × StandsLines k d.session

-- a client may go on behind a count: the next line is kept, or is yet to be numbered
abbrev pub MayResume : KeptNumbered → Option ℕ → Type 0
MayResume k None = Unit {0}
MayResume k (Some count) = (k.given_up ≤ count) × (count ≤ last_of k)

-- and there may be one stream more
pub record MayBind (k : Kept) (b : Bind) : Type 0 where
  pub resumes : MayResume k.keep b.recover
  pub epoch : k.stream.epoch + 1 ≤ GREATEST_NUMBER

-- the next line to be given is the one behind a count, where there is one, and all else stays
pub record ResumesAt (recover : Option ℕ) (old new : KeptNumbered) : Type 0 where
  pub stands : (n : Numbered) → StandsKeep old n → StandsKeep new (resumed (unwrap_or recover n.sent) n)
  pub rest : new ≡ record old { sent = new.sent }
