-- The requests that a body holds, and how they are answered (TLCP 2.1, HTTP transport; this project's profile).
use Rattle.std.specs.Prelude.{◌≡◌, ◌==◌, ℕ, List, [], ◌∷◌, ◌++◌, length, Bool, true, false, ◌&&◌, nat_le, Option, None, Some}
use Rattle.std.specs.Prelude.{if◌then◌else◌, codes}
use Rattle.std.specs.Borrow.{Bor}
use Rattle.std.specs.List.{filter}
use mathlib.Core.List.{IsPrefix}
use Rattle.ls_words.specs.Words.{divided}
use Rattle.ls_line.specs.declared.line.Line.{Line}
use Rattle.ls_line.specs.declared.line.Line.TheVariants as line
use Rattle.ls_line.specs.Lines.{text_of_line}
use Rattle.ls_request.specs.declared.request.LinkKind.TheVariants as link
use Rattle.ls_record.specs.Acting.{is_opening}
use Rattle.ls_register.specs.Deeds.{Deed}
use Rattle.ls_told.specs.Seen.{Testified}
use Rattle.ls_http.specs.Replies.{answer_head, stream_head}
use Rattle.ls_conn.specs.declared.acted.Acted.{Acted}
use Rattle.ls_conn.specs.declared.acted.Acted.TheVariants as acted
use Rattle.ls_conn.specs.Acting.{Acts, Asked, Known, SeenGrow}
use Rattle.ls_conn.specs.Streaming.{AreGiven, EndsBy, lines_of}
use Rattle.ls_conn.specs.declared.report.StreamEnd.{StreamEnd}
use Rattle.ls_conn.specs.declared.report.StreamEnd.TheVariants as stream
use Rattle.ls_conn.specs.Lasting.{IsLost}
use Rattle.ls_conn_http.specs.Opening.{loses}

-- whether a text is a line end: CR LF, or LF alone
abbrev pub is_line_end : List ℕ → Bool
is_line_end [] = false
is_line_end (x ∷ []) = x == 10
is_line_end (x ∷ y ∷ []) = (x == 13) && (y == 10)
is_line_end (x ∷ y ∷ z ∷ rest) = false

-- a text without the line end that stands at its end
abbrev pub without_end : List ℕ → List ℕ
without_end [] = []
without_end (x ∷ xs) = if is_line_end (x ∷ xs) then [] else x ∷ without_end xs

-- pieces that LF divides, as lines: each but the last one has its LF
abbrev pub as_lines : List (List ℕ) → List (List ℕ)
as_lines [] = []
as_lines (piece ∷ []) = piece ∷ []
as_lines (piece ∷ next ∷ pieces) = without_end (piece ++ 10 ∷ []) ∷ as_lines (next ∷ pieces)

-- the lines of a body, without their line ends
abbrev pub lines_in : List ℕ → List (List ℕ)
lines_in body = as_lines (divided 10 body)

-- those of the rest of a body, where there is one
abbrev pub lines_after : Option (Bor (List ℕ)) → List (List ℕ)
lines_after None = []
lines_after (Some rest) = lines_in rest.now

-- whether a text has a byte
abbrev pub is_some_text : List ℕ → Bool
is_some_text xs = nat_le 1 (length xs)

-- the parameters of control requests, one text a line; empty lines are none
abbrev pub params_in : List (List ℕ) → List (List ℕ)
params_in lines = filter is_some_text lines

abbrev pub params_of : List ℕ → List (List ℕ)
params_of body = params_in (lines_in body)

-- a request that came over HTTP, at a tick
abbrev pub asked : List ℕ → List ℕ → ℕ → Asked
asked name params now = record { link = link.Http; own = None; name = name; params = params; now = now }

-- no less is known: the register and what was seen of each session go on
pub record Grows (old new : Known) : Type 0 where
  pub register : IsPrefix old.register new.register
  pub seen : SeenGrow old.seen new.seen

-- one answer for each request of a name, in order; each request does what it does after those before it
abbrev pub Answers : Deed → List ℕ → List (List ℕ) → List (List ℕ) → Known → Known → Type 0
Answers deed name [] [] old new = new ≡ old
Answers deed name [] (text ∷ texts) old new = ⊥
Answers deed name (params ∷ rest) [] old new = ⊥
Answers deed name (params ∷ rest) (text ∷ texts) old new =
    (now : ℕ) × (mid : Known) × Acts deed (asked name params now) old mid (acted.Line text) × Grows old mid
    × Answers deed name rest texts mid new

-- an answer whole: its head, and its lines
abbrev pub answer_text : List (List ℕ) → List ℕ
answer_text texts = answer_head (length (lines_of texts)) ++ lines_of texts

-- the message of code 60
abbrev pub version_message : List ℕ
version_message = codes "Protocol version not supported"

-- the line that refuses another version of the protocol, by whether a request is one for a session or a stream
abbrev pub version_line : Bool → Line
version_line opening = if opening then line.ConErr 60 version_message else line.Error 60 version_message

-- whether a stream ended by itself: not since its peer or its wire left, its server ended, or memory was refused
abbrev pub is_own_end : StreamEnd → Bool
is_own_end stream.Looped = true
is_own_end (stream.Ended code) = true
is_own_end (stream.Superseded e) = true
is_own_end stream.Unbound = true
is_own_end stream.PeerLeft = false
is_own_end stream.WriteFault = false
is_own_end stream.Stopped = false
is_own_end stream.Spent = true
is_own_end stream.NoMemory = false

-- the bytes of a stream: its head, and the lines that were given on it to this caller; and why it ended, by itself where
-- it was written whole; where it didn't end with its session's word, it is lost
pub record IsStream (whole : Bool) (epoch : ℕ) (t : Testified) (text : List ℕ) : Type 0 where
  pub texts : List (List ℕ)
  pub given : AreGiven t.lines epoch t.mine texts
  pub text_is : text ≡ stream_head ++ lines_of texts
  pub ending : StreamEnd
  pub ends : EndsBy ending epoch t texts
  pub own : whole ≡ true → is_own_end ending ≡ true
  pub lost : loses ending ≡ true → IsLost epoch t

-- one session was seen, and then its stream was written: it is seen of it that these lines were given
pub record IsStreamOf (session epoch : ℕ) (old new : List Testified) (whole : Bool) (text : List ℕ) : Type 0 where
  pub was : Testified
  pub told : Testified
  pub were : old ≡ was ∷ []
  pub are : new ≡ told ∷ []
  pub number : told.number ≡ session
  pub longer : IsPrefix was.lines told.lines
  pub stream : IsStream whole epoch told text

-- what is written for the answer of a request for a session or a stream, and what was seen then: a line that refuses it,
-- or its stream
abbrev pub WritesFor : Bool → Acted → List ℕ → Known → Known → Type 0
WritesFor whole (acted.Line line_text) text mid new = (text ≡ answer_text (line_text ∷ [])) × (new ≡ mid)
WritesFor whole (acted.Opened session epoch) text mid new =
    IsStreamOf session epoch mid.seen new.seen whole text × (new.register ≡ mid.register)
WritesFor whole acted.NoMemory text mid new = ⊥

-- the reply to a request for a session or a stream
pub record OpeningReply (deed : Deed) (whole : Bool) (name params text : List ℕ) (old new : Known) : Type 0 where
  pub now : ℕ
  pub mid : Known
  pub answer : Acted
  pub acts : Acts deed (asked name params now) old mid answer
  pub grows : Grows old mid
  pub writes : WritesFor whole answer text mid new

-- the reply to control requests
pub record ControlReply (deed : Deed) (name body text : List ℕ) (old new : Known) : Type 0 where
  pub texts : List (List ℕ)
  pub answers : Answers deed name (params_of body) texts old new
  pub text_is : text ≡ answer_text texts

-- the reply to a request, by whether it is one for a session or a stream
abbrev pub ReplyBy : Bool → Deed → Bool → List ℕ → List ℕ → List ℕ → Known → Known → Type 0
ReplyBy true deed whole name body text old new = OpeningReply deed whole name (without_end body) text old new
ReplyBy false deed whole name body text old new = ControlReply deed name body text old new

-- the reply to a request of a name with this body, that was written whole or not: whether it names the protocol's version
-- comes first
abbrev pub IsReply : Deed → Bool → List ℕ → Bool → List ℕ → List ℕ → Known → Known → Type 0
IsReply deed whole name false body text old new =
    (text ≡ answer_text (text_of_line (version_line (is_opening name)) ∷ [])) × (new ≡ old)
IsReply deed whole name true body text old new = ReplyBy (is_opening name) deed whole name body text old new
