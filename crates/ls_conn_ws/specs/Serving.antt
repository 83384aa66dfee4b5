-- What happens on a WebSocket, from its handshake to its end (TLCP 2.1, WebSocket transport; this project's profile).
use Rattle.std.specs.Prelude.{◌≡◌, ◌<◌, ◌⊎◌, ℕ, List, [], ◌∷◌, ◌++◌, length, take, replicate, flat_map, Bool, true, false, Option, None, Some, if◌then◌else◌, codes}
use mathlib.Core.List.{IsPrefix}
use Rattle.ls_value.specs.Each.{Each}
use Rattle.ls_talk.specs.Lines.{Logs, line_bytes}
use Rattle.ls_talk.specs.declared.talk.Happening.{Happening}
use Rattle.ls_talk.specs.declared.talk.Happening.TheVariants as happening
use Rattle.ls_talk.specs.declared.talk.Incoming.{Incoming}
use Rattle.ls_talk.specs.declared.talk.Incoming.TheVariants as incoming
use Rattle.ls_request.specs.declared.request.LinkKind.TheVariants as link
use Rattle.ls_register.specs.Deeds.{Deed}
use Rattle.ls_register.specs.declared.made.Made.{Made}
use Rattle.ls_told.specs.Seen.{Testified}
use Rattle.ls_conn.specs.Acting.{Acts, Asked, Known, known}
use Rattle.ls_conn.specs.Streaming.{AreGiven}
use Rattle.ls_conn.specs.declared.acted.Acted.TheVariants as acted
use Rattle.ls_conn.specs.declared.ended.ConnEnd.{ConnEnd}
use Rattle.ls_conn.specs.declared.ended.ConnEnd.TheVariants as end
use Rattle.ls_conn_ws.specs.Messages.{params_in, name_in}
use Rattle.ls_conn_ws.specs.Streams.{StreamState}

-- the answer to what is no request
abbrev pub malformed_text : List ℕ
malformed_text = codes "ERROR,65,Malformed request"

-- one thing after another: a line of the stream was put; or an answer of the talk came, with an outcome of each of its
-- requests: the line by which it was answered, or none where it opened a stream
pub data Piece : Type 0 where
  Gives : (text : List ℕ) → Piece
  Hears : (message : Incoming) → (outs : List (Option (List ℕ))) → Piece

-- the lines of answers
abbrev pub lines_in : List (Option (List ℕ)) → List Happening
lines_in [] = []
lines_in (None ∷ outs) = lines_in outs
lines_in (Some text ∷ outs) = happening.Line text ∷ lines_in outs

-- what happened on the talk
abbrev pub happenings : Piece → List Happening
happenings (Gives text) = happening.Line text ∷ []
happenings (Hears message outs) = happening.Answer message ∷ lines_in outs

abbrev pub log_of : List Piece → List Happening
log_of pieces = flat_map happenings pieces

-- one outcome for each request of a text message, in order; one for a message that is no text, or too long; and none
-- else
abbrev pub HasOutcomes : Incoming → List (Option (List ℕ)) → Type 0
HasOutcomes (incoming.Text text) outs = length outs ≡ length (params_in text)
HasOutcomes incoming.Binary outs = outs ≡ Some malformed_text ∷ []
HasOutcomes incoming.Long outs = outs ≡ Some malformed_text ∷ []
HasOutcomes incoming.Control outs = outs ≡ []
HasOutcomes incoming.NotYet outs = outs ≡ []
HasOutcomes incoming.Closed outs = outs ≡ []
HasOutcomes incoming.Failed outs = outs ≡ []
HasOutcomes incoming.NoMemory outs = ⊥

abbrev pub IsPiece : Piece → Type 0
IsPiece (Gives text) = Unit {0}
IsPiece (Hears message outs) = HasOutcomes message outs

-- whether a stream was opened
abbrev pub has_opened : List (Option (List ℕ)) → Bool
has_opened [] = false
has_opened (None ∷ outs) = true
has_opened (Some text ∷ outs) = has_opened outs

-- the lines of the stream that was opened last, after these ones of the stream before
abbrev pub given_after : List (List ℕ) → List Piece → List (List ℕ)
given_after texts [] = texts
given_after texts (Gives text ∷ pieces) = given_after (texts ++ text ∷ []) pieces
given_after texts (Hears message outs ∷ pieces) = given_after (if has_opened outs then [] else texts) pieces

-- these texts were given to the one who has this stream, all of them and in order, and they are all that was given to it
abbrev pub IsStream : Option StreamState → List (List ℕ) → Type 0
IsStream None texts = texts ≡ []
IsStream (Some s) texts = AreGiven s.told.lines s.epoch s.told.mine texts

-- a request of a message
abbrev pub asked : Option ℕ → List ℕ → ℕ → List ℕ → Asked
asked own name now params = record { link = link.Ws; own = own; name = name; params = params; now = now }

-- a request has this outcome
abbrev pub ActsSo : Deed → Asked → Known → Known → Option (List ℕ) → Type 0
ActsSo deed a old new (Some text) = Acts deed a old new (acted.Line text)
ActsSo deed a old new None = (session epoch : ℕ) × Acts deed a old new (acted.Opened session epoch)

-- requests of a name have these outcomes, one after another: each is true of what was seen by then
abbrev pub Outcomes : Deed → Option ℕ → List ℕ → ℕ → List (List ℕ) → List (Option (List ℕ)) → Known → Known → Type 0
Outcomes deed own name now [] [] old new = new ≡ old
Outcomes deed own name now [] (out ∷ outs) old new = ⊥
Outcomes deed own name now (ps ∷ more) [] old new = ⊥
Outcomes deed own name now (ps ∷ more) (out ∷ outs) old new =
    (mid : Known) × ActsSo deed (asked own name now ps) old mid out × Outcomes deed own name now more outs mid new

-- what is known after a message is what was seen by its requests; what was seen of a session whose stream was opened is
-- with the stream
abbrev pub Keeps : Known → Known → Option StreamState → Type 0
Keeps after k stream =
    IsPrefix after.register k.register
    × ((k.seen ≡ after.seen)
    ⊎ ((k.seen ≡ []) × ((t : Testified) × (s : StreamState) × (after.seen ≡ t ∷ []) × (stream ≡ Some s)
    × (s.told.number ≡ t.number) × IsPrefix t.lines s.told.lines)))

-- the requests of a message had these outcomes, and what is known now is what was seen by them
pub record IsTrue (deed : Deed) (text : List ℕ) (outs : List (Option (List ℕ))) (k : Known) (stream : Option StreamState) : Type 0 where
  pub own : Option ℕ
  pub now : ℕ
  pub register : List Made
  pub after : Known
  pub outcomes : Outcomes deed own (name_in text) now (params_in text) outs (known register []) after
  pub keeps : Keeps after k stream

-- the last text message and its outcomes, or those before
pub record TextHeard : Type 0 where
  pub text : List ℕ
  pub outs : List (Option (List ℕ))

abbrev pub heard_by : Option TextHeard → Incoming → List (Option (List ℕ)) → Option TextHeard
heard_by last (incoming.Text text) outs = Some (record { text = text; outs = outs })
heard_by last incoming.Binary outs = last
heard_by last incoming.Long outs = last
heard_by last incoming.Control outs = last
heard_by last incoming.NotYet outs = last
heard_by last incoming.Closed outs = last
heard_by last incoming.Failed outs = last
heard_by last incoming.NoMemory outs = last

abbrev pub last_text : Option TextHeard → List Piece → Option TextHeard
last_text last [] = last
last_text last (Gives text ∷ pieces) = last_text last pieces
last_text last (Hears message outs ∷ pieces) = last_text (heard_by last message outs) pieces

-- the answers to the last text message are true
abbrev pub LastIs : Deed → Option TextHeard → Known → Option StreamState → Type 0
LastIs deed None k stream = k.seen ≡ []
LastIs deed (Some h) k stream = IsTrue deed h.text h.outs k stream

-- so many answers of the talk, one after another, were that no message is there yet
pub record EndsIdle (idles : ℕ) (pieces : List Piece) : Type 0 where
  pub front : List Piece
  pub are : pieces ≡ front ++ replicate idles (Hears incoming.NotYet [])

-- what happened so far
pub record Served (deed : Deed) (log0 log : Option (List Happening)) (k : Known) (stream : Option StreamState) (idles : ℕ) : Type 0 where
  pub pieces : List Piece
  pub logs : Logs log0 log (log_of pieces)
  pub are : Each IsPiece pieces
  pub given : IsStream stream (given_after [] pieces)
  pub last : LastIs deed (last_text None pieces) k stream
  pub idle : EndsIdle idles pieces

-- a part of a line, or nothing of it
abbrev pub IsPart : List Happening → Type 0
IsPart part = (part ≡ []) ⊎ ((text : List ℕ) × (cut : ℕ) × (part ≡ happening.Part (take cut (line_bytes text)) ∷ []))

-- of the outcomes of a message some are missing
abbrev pub LacksOutcomes : Incoming → List (Option (List ℕ)) → Type 0
LacksOutcomes (incoming.Text text) outs = length outs < length (params_in text)
LacksOutcomes incoming.Binary outs = outs ≡ []
LacksOutcomes incoming.Long outs = outs ≡ []
LacksOutcomes incoming.Control outs = ⊥
LacksOutcomes incoming.NotYet outs = ⊥
LacksOutcomes incoming.Closed outs = ⊥
LacksOutcomes incoming.Failed outs = ⊥
LacksOutcomes incoming.NoMemory outs = ⊥

-- a message that wasn't answered whole: some of its answers were put, and maybe a part of the next one
pub record IsUnanswered (tail : List Happening) : Type 0 where
  pub message : Incoming
  pub outs : List (Option (List ℕ))
  pub part : List Happening
  pub lacks : LacksOutcomes message outs
  pub is_part : IsPart part
  pub are : tail ≡ happening.Answer message ∷ (lines_in outs ++ part)

-- the stream where the connection ends: its lines were put, all of them and in order; of the last one a part was, or
-- nothing
abbrev pub EndsStream : Option StreamState → List (List ℕ) → List Happening → Type 0
EndsStream stream texts tail =
    IsStream stream texts × ((tail ≡ []) ⊎ IsUnanswered tail)
    ⊎ ((text : List ℕ) × IsStream stream (texts ++ text ∷ []) × IsPart tail)

-- how it ended in the middle of something
pub record EndedWithin (deed : Deed) (log0 log : Option (List Happening)) (stream : Option StreamState) : Type 0 where
  pub pieces : List Piece
  pub tail : List Happening
  pub logs : Logs log0 log (log_of pieces ++ tail)
  pub are : Each IsPiece pieces
  pub ends : EndsStream stream (given_after [] pieces) tail

-- what an end says of all that happened: where a write failed, or for want of memory, the last line or answer may be
-- missing, or a part of it
abbrev pub Spoke : Deed → ConnEnd → Option (List Happening) → Option (List Happening) → Known → Option StreamState → Type 0
Spoke deed end.Served log0 log k stream = ⊥
Spoke deed (end.Refused status) log0 log k stream = ⊥
Spoke deed end.PeerLeft log0 log k stream = Served deed log0 log k stream 0
Spoke deed end.TooSlow log0 log k stream = Served deed log0 log k stream 3000
Spoke deed end.ReadFault log0 log k stream = Served deed log0 log k stream 0
Spoke deed end.WriteFault log0 log k stream = EndedWithin deed log0 log stream
Spoke deed end.Stopped log0 log k stream = Served deed log0 log k stream 0
Spoke deed end.NoMemory log0 log k stream = EndedWithin deed log0 log stream
