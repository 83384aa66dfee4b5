-- What objects in memory hold, and how their calls go.
use Rattle.std.specs.Prelude.{◌≡◌, ℕ, ◌<◌, min, List, [], ◌∷◌, ◌++◌, length, take, drop, nat_lt, if◌then◌else◌, Result, Ok, Err, ⊤}
use Rattle.ls_outside.specs.Causes.{one_more}
use Rattle.ls_outside.specs.Memory.{next_call}
use Rattle.ls_outside.specs.declared.call.Call.{Call}
use Rattle.ls_outside.specs.declared.call.Call.TheVariants as call
use Rattle.ls_talk.specs.Lines.{Counts, line_bytes}
use Rattle.ls_talk.specs.declared.line_out.PutRefused.{PutRefused}
use Rattle.ls_talk.specs.declared.line_out.PutRefused.TheVariants as refused
use Rattle.ls_talk.specs.declared.mem_talk.Message.{Message}
use Rattle.ls_talk.specs.declared.mem_talk.Message.TheVariants as message
use Rattle.ls_talk.specs.declared.talk.TheConstants.{LONGEST_MESSAGE}
use Rattle.ls_talk.specs.declared.talk.Happening.{Happening}
use Rattle.ls_talk.specs.declared.talk.Happening.TheVariants as happening
use Rattle.ls_talk.specs.declared.talk.Incoming.{Incoming}
use Rattle.ls_talk.specs.declared.talk.Incoming.TheVariants as incoming

-- lines in memory: the bytes that went out, how the puts to come go, and the count of faults
pub record LinesState : Type 0 where
  pub held : List ℕ
  pub calls : List Call
  pub faults : ℕ

-- how many bytes of a line go out in a put that goes so, of a line of this length
abbrev pub going : Call → ℕ → ℕ
going call.Fail len = 0
going (call.Part limit) len = min limit len
going c len = len

-- the answer of a put that goes so: it fails exactly where less than the line goes out; want of memory lets any fail
abbrev pub IsPutBy : {A : Type 0} → Call → List ℕ → Result A PutRefused → Type 0
IsPutBy c text (Ok x) = going c (length (line_bytes text)) ≡ length (line_bytes text)
IsPutBy c text (Err refused.Failed) = going c (length (line_bytes text)) < length (line_bytes text)
IsPutBy c text (Err refused.NoMemory) = ⊤

-- the part of a line that goes out in a put that goes so
abbrev pub part_by : Call → List ℕ → List ℕ
part_by c text = take (going c (length (line_bytes text))) (line_bytes text)

-- lines in memory after an answer
abbrev pub lines_after : {A : Type 0} → LinesState → List ℕ → Result A PutRefused → LinesState
lines_after s text (Ok x) = record s { held = s.held ++ line_bytes text; calls = drop 1 s.calls }
lines_after s text (Err refused.Failed) =
    record { held = s.held ++ part_by (next_call s.calls) text; calls = drop 1 s.calls; faults = one_more s.faults }
lines_after s text (Err refused.NoMemory) = record s { calls = drop 1 s.calls }

-- a talk in memory that never fails: its log, and the messages to come
pub record PlainTalkState : Type 0 where
  pub log : List Happening
  pub messages : List Message

-- a talk in memory: its log and messages, how the reads and the puts to come go, and its counts
pub record TalkState : Type 0 where
  pub plain : PlainTalkState
  pub reads : List Call
  pub puts : List Call
  pub put_faults : ℕ
  pub counts : Counts

-- the answer that gives a message
abbrev pub given : Message → Incoming
given (message.Text text) = if nat_lt LONGEST_MESSAGE (length text) then incoming.Long else incoming.Text text
given message.Binary = incoming.Binary
given message.Control = incoming.Control

-- the answer that gives the next message, and this one where there is none
abbrev pub next_or : Incoming → List Message → Incoming
next_or end [] = end
next_or end (m ∷ ms) = given m

-- the answer of a read that goes so, where memory suffices
abbrev pub answer_by : Call → List Message → Incoming
answer_by call.Fail messages = incoming.Failed
answer_by call.Idle messages = incoming.NotYet
answer_by c messages = next_or incoming.Closed messages

-- a log after an answer, which it has
abbrev pub answered : List Happening → Incoming → List Happening
answered log answer = log ++ happening.Answer answer ∷ []

-- the messages to come after an answer of a read that went so: one is taken where it is given
abbrev pub messages_after : Call → Incoming → List Message → List Message
messages_after c incoming.NoMemory messages = messages
messages_after call.Fail answer messages = messages
messages_after call.Idle answer messages = messages
messages_after c answer messages = drop 1 messages
