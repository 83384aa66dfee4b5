-- What a client has of a session by its streams, each of which may be lost at any line, and when another one goes on
-- (TLCP 2.1, recovery).
use Rattle.std.specs.Prelude.{◌≡◌, ℕ, ◌+◌, ◌-◌, ◌<◌, ◌≤◌, ◌⊎◌, List, [], ◌∷◌, ◌++◌, length, map, reverse, take, true}
use Rattle.std.specs.Prelude.{sum_by, Option, None, Some, slice_get, unwrap_or}
use Rattle.std.specs.List.{Contains, range_with_len}
use Rattle.std.specs.Option.{ForSome}
use Rattle.ls_keep.specs.declared.limits.TheConstants.{MOST_KEPT_LINES, MOST_KEPT_BYTES}
use Rattle.ls_keep.specs.Keeping.{bytes_of}
use Rattle.ls_request.specs.declared.request.Bind.{Bind}
use Rattle.ls_record.specs.declared.TheConstants.{MOST_UNBOUND}
use Rattle.ls_record.specs.Lines.{text_at, texts_behind}
use Rattle.ls_world.specs.World.{World}
use Rattle.ls_record.specs.Records.{Session, Stream, Alive, change, is_alive, opening_lines, count_lines}
use Rattle.ls_record.specs.Acting.{bind_code}
use Rattle.ls_record.specs.Turning.{SessionTurn, Send}
use Rattle.ls_value.specs.Each.{Each}

-- so many numbers behind a number, in order
abbrev pub numbers_behind : ℕ → ℕ → List ℕ
numbers_behind from n = range_with_len (from + 1) n

-- the lines given on a stream of a session are those behind its beginning, in order, each once, and all are numbered
pub record HasItsLines (s : Session) (t : Stream) : Type 0 where
  pub in_order : reverse t.given ≡ numbers_behind t.from (length t.given)
  pub numbered : t.from + length t.given ≤ length s.board.lines

-- the numbers of the lines given on each stream of a session
abbrev pub given_on : Session → List (List ℕ)
given_on s = map (λ t. t.given) s.streams

-- a turn gives the text of the line of a number, and the number is the next one of the newest stream
pub record GivesLine (s : Session) (t : SessionTurn) : Type 0 where
  pub number : ℕ
  pub text : t.gives ≡ Send (text_at t.session.board.lines number)
  pub streams : given_on t.session ≡ change 0 (λ ns. number ∷ ns) (given_on s)

-- a stream that a client had, and how many of the lines given on it came before it was lost
pub record Had : Type 0 where
  pub stream : Stream
  pub came : ℕ

-- the numbers of the lines that a client holds, as it appends those that come, one stream after another
abbrev pub held_after : List ℕ → Had → List ℕ
held_after ns had = ns ++ take had.came (reverse had.stream.given)

abbrev pub held : List ℕ → List Had → List ℕ
held ns [] = ns
held ns (had ∷ hads) = held (held_after ns had) hads

-- each stream was bound with the count of the lines that the client held then; the first one, with none
abbrev pub BindsWithItsCount : List ℕ → List Had → Type 0
BindsWithItsCount ns [] = Unit {0}
BindsWithItsCount ns (had ∷ hads) =
    (had.stream.from ≡ length ns) × BindsWithItsCount (held_after ns had) hads

-- these are the first lines of a session, in order, without a gap and each once, by number and as texts
pub record AreFirstLines (s : Session) (ns : List ℕ) : Type 0 where
  pub in_order : ns ≡ numbers_behind 0 (length ns)
  pub numbered : length ns ≤ length s.board.lines
  pub texts : map (text_at s.board.lines) ns ≡ take (length ns) (texts_behind 0 s.board.lines)

-- a client that had any streams of a session, and bound each of them with its count, holds the session's first lines
abbrev pub HoldsAllLines : Session → Type 0
HoldsAllLines s =
    (hads : List Had) → Each (λ had. Contains s.streams had.stream) hads → BindsWithItsCount [] hads
    → AreFirstLines s (held [] hads)

-- a bind names a living session by its number, which is its place from 1
pub record NamesLiving (w : World) (b : Bind) (n : ℕ) (s : Session) : Type 0 where
  pub number : b.session ≡ n + 1
  pub session : slice_get w.sessions n ≡ Some s
  pub alive : is_alive s.life ≡ true

-- on a connection that is there the bind is accepted
pub record IsAccepted (w : World) (connection n : ℕ) (s : Session) (b : Bind) : Type 0 where
  pub names : NamesLiving w b n s
  pub accepted : bind_code s b ≡ None
  pub there : connection < length w.connections

-- how many lines stand behind the count that it tells, or else behind the line given last
abbrev pub lines_left : Session → Bind → ℕ
lines_left s b = length (texts_behind (unwrap_or b.recover s.sent) s.board.lines)

-- what a bind that is accepted has a new stream begin with: the opening lines, PROG where a count was told, and so many
-- of the lines behind that count, or else behind the line given last
abbrev pub lines_from : ℕ → Session → Bind → List (List ℕ)
lines_from k s b =
    opening_lines b.session b.keepalive s.rate.limit ++ count_lines b.recover
    ++ take k (texts_behind (unwrap_or b.recover s.sent) s.board.lines)

-- how many bytes lines take of a stream, with CR LF
abbrev pub bytes_on_stream : List (List ℕ) → ℕ
bytes_on_stream texts = sum_by (λ t. length t + 2) texts

-- the stream may give so many lines, as those before the last one don't reach its content length, if it has one
abbrev pub MayGive : ℕ → Session → Bind → Type 0
MayGive k s b = 0 < k → ForSome b.length (λ most. bytes_on_stream (lines_from (k - 1) s b) < most)

-- a client tells a count behind which it can't go on: the next line was given up, or no line has the count's number
abbrev pub IsBeyond : Session → Option ℕ → Type 0
IsBeyond s None = ⊥
IsBeyond s (Some count) = (count < s.given_up) ⊎ (length s.board.lines < count)

-- texts are more lines, or have more bytes, than are kept at most
abbrev pub AreTooMuch : List (List ℕ) → Type 0
AreTooMuch texts = (MOST_KEPT_LINES < length texts) ⊎ (MOST_KEPT_BYTES < bytes_of texts)

-- no line is given up that wasn't given, and each line that is stands before more lines or bytes than are kept at most
pub record GivesUpLittle (s : Session) : Type 0 where
  pub given : s.given_up ≤ s.sent
  pub beyond : (n : ℕ) → n < s.given_up → AreTooMuch (texts_behind n s.board.lines)

-- a session is alive, and was without a stream for as long as one may be
pub record IsGone (now : ℕ) (s : Session) : Type 0 where
  pub alive : s.life ≡ Alive
  pub since : ℕ
  pub unbound : s.unbound ≡ Some since
  pub late : since + MOST_UNBOUND ≤ now
