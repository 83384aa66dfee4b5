-- What the answers to a message do.
use Rattle.std.specs.Prelude.{◌≡◌, ◌<◌, ◌≤◌, ◌⊎◌, ℕ, List, [], ◌∷◌, ◌++◌, length, true, false, Option, Some, codes}
use Rattle.ls_talk.specs.Lines.{Logs}
use Rattle.ls_talk.specs.declared.talk.Happening.{Happening}
use Rattle.ls_talk.specs.declared.talk.Happening.TheVariants as happening
use Rattle.ls_outside.specs.Causes.{Rose}
use Rattle.ls_register.specs.Deeds.{Deed}
use Rattle.ls_told.specs.Seen.{Testified}
use Rattle.ls_told.specs.Requests.{HasBound}
use Rattle.ls_register.specs.declared.made.Made.{Made}
use Rattle.ls_conn.specs.Acting.{Acts, Asked, Known, known}
use Rattle.ls_conn.specs.declared.ended.ConnEnd.TheVariants as end
use Rattle.ls_conn.specs.declared.acted.Acted.TheVariants as acted
use Rattle.ls_conn_ws.specs.Messages.{filled, params_in}
use Rattle.ls_conn_ws.specs.Streams.{StreamState}
use Rattle.ls_conn_ws.specs.Serving.{IsPart, IsStream, IsTrue, Keeps, Outcomes, has_opened, lines_in, malformed_text}
use Rattle.ls_conn_ws.specs.declared.answering.Answered.{Answered}
use Rattle.ls_conn_ws.specs.declared.answering.Answered.TheVariants as answered
use Rattle.ls_conn_ws.specs.declared.answering.Replied.{Replied}
use Rattle.ls_conn_ws.specs.declared.answering.Replied.TheVariants as replied
use Rattle.ls_conn_ws.specs.declared.serving.Heard.{Heard}
use Rattle.ls_conn_ws.specs.declared.serving.Heard.TheVariants as heard

-- a request was done, and answered so
abbrev pub AnswersOne : Deed → Answered → Asked → Known → Known → Option (List Happening) → Option (List Happening) → Type 0
AnswersOne deed answered.Line a old new log log2 =
    (text : List ℕ) × Acts deed a old new (acted.Line text) × Logs log log2 (happening.Line text ∷ [])
AnswersOne deed (answered.Opened session epoch) a old new log log2 =
    Acts deed a old new (acted.Opened session epoch) × Logs log log2 []
AnswersOne deed answered.WriteFault a old new log log2 = (part : List Happening) × IsPart part × Logs log log2 part
AnswersOne deed answered.NoMemory a old new log log2 = Logs log log2 []

-- a fault of writing comes with its count
abbrev pub CausesAnswered : Answered → ℕ → ℕ → Type 0
CausesAnswered answered.Line f g = g ≡ f
CausesAnswered (answered.Opened session epoch) f g = g ≡ f
CausesAnswered answered.WriteFault f g = (f ≤ g) × Rose f g
CausesAnswered answered.NoMemory f g = g ≡ f

abbrev pub CausesReplied : Replied → ℕ → ℕ → Type 0
CausesReplied replied.All f g = g ≡ f
CausesReplied replied.WriteFault f g = (f ≤ g) × Rose f g
CausesReplied replied.NoMemory f g = g ≡ f

-- of so many answers some were put, and maybe a part of the next one
abbrev pub RepliedPart : ℕ → Option (List Happening) → Option (List Happening) → Type 0
RepliedPart count log log2 =
    (outs : List (Option (List ℕ))) × (part : List Happening) × (length outs < count) × IsPart part
    × Logs log log2 (lines_in outs ++ part)

-- the requests of a name were answered one after another, none of which opened a stream
abbrev pub RepliesEach : Deed → Replied → Option ℕ → List ℕ → ℕ → List (List ℕ) → Known → Known → Option (List Happening) → Option (List Happening)
    → Type 0
RepliesEach deed replied.All own name now params old new log log2 =
    (outs : List (Option (List ℕ))) × Outcomes deed own name now params outs old new × (has_opened outs ≡ false)
    × Logs log log2 (lines_in outs)
RepliesEach deed replied.WriteFault own name now params old new log log2 = RepliedPart (length params) log log2
RepliesEach deed replied.NoMemory own name now params old new log log2 = RepliedPart (length params) log log2

-- the name of control requests
abbrev pub control_name : List ℕ
control_name = codes "control"

-- an answer opens a stream
abbrev pub Opens : Answered → Type 0
Opens answer = (session epoch : ℕ) × (answer ≡ answered.Opened session epoch)

-- the first of these lines was answered, unless it is empty, and these are left
pub record RepliesLine (deed : Deed) (r : Replied) (own : Option ℕ) (now : ℕ) (lines left : List (List ℕ)) (old new : Known)
    (log log2 : Option (List Happening)) : Type 0 where
  pub line : List ℕ
  pub are : lines ≡ line ∷ left
  pub replies : RepliesEach deed r own control_name now (filled (line ∷ [])) old new log log2

-- of these requests the first ones were answered, and these are left
pub record Replying (deed : Deed) (own : Option ℕ) (now : ℕ) (params left : List (List ℕ)) (old new : Known)
    (log log2 : Option (List Happening)) : Type 0 where
  pub first : List (List ℕ)
  pub outs : List (Option (List ℕ))
  pub are : params ≡ first ++ left
  pub outcomes : Outcomes deed own control_name now first outs old new
  pub none : has_opened outs ≡ false
  pub logs : Logs log log2 (lines_in outs)

-- the stream after a message: another one, of which no line was given, where one was opened
abbrev pub StreamAfter : List (Option (List ℕ)) → Option StreamState → Option StreamState → Type 0
StreamAfter outs stream stream2 =
    ((has_opened outs ≡ true) × IsStream stream2 []) ⊎ ((has_opened outs ≡ false) × (stream2 ≡ stream))

-- the one request of a message was answered
abbrev pub RepliesSingle : Deed → Replied → List ℕ → ℕ → List ℕ → List Made → Known → Option StreamState → Option StreamState → Option (List Happening)
    → Option (List Happening) → Type 0
RepliesSingle deed replied.All name now params register k stream stream2 log log2 =
    (out : Option (List ℕ)) × (own : Option ℕ) × (after : Known)
    × Outcomes deed own name now (params ∷ []) (out ∷ []) (known register []) after × Keeps after k stream2
    × StreamAfter (out ∷ []) stream stream2 × Logs log log2 (lines_in (out ∷ []))
RepliesSingle deed replied.WriteFault name now params register k stream stream2 log log2 =
    (stream2 ≡ stream) × RepliedPart 1 log log2
RepliesSingle deed replied.NoMemory name now params register k stream stream2 log log2 =
    (stream2 ≡ stream) × RepliedPart 1 log log2

-- a line was put as an answer
abbrev pub PutsReply : Replied → Option (List Happening) → Option (List Happening) → List ℕ → Type 0
PutsReply replied.All log log2 text = Logs log log2 (happening.Line text ∷ [])
PutsReply replied.WriteFault log log2 text = (part : List Happening) × IsPart part × Logs log log2 part
PutsReply replied.NoMemory log log2 text = Logs log log2 []

-- what is no request was answered
abbrev pub RefusesSo : Replied → Option (List Happening) → Option (List Happening) → Type 0
RefusesSo r log log2 = PutsReply r log log2 malformed_text

-- what became of a message, by what became of its request
abbrev pub reply_for : Answered → Replied
reply_for answered.Line = replied.All
reply_for (answered.Opened session epoch) = replied.All
reply_for answered.WriteFault = replied.WriteFault
reply_for answered.NoMemory = replied.NoMemory

-- of one session alone something was seen: the stream of this epoch was bound, and no line of it was given
pub record IsAlone (epoch : ℕ) (seen : List Testified) : Type 0 where
  pub told : Testified
  pub are : seen ≡ told ∷ []
  pub bound : HasBound epoch told.lines
  pub mine : told.mine ≡ []

-- a stream begins, with what was seen of its session alone
pub record OpensStream (epoch : ℕ) (seen seen2 : List Testified) (stream : Option StreamState) : Type 0 where
  pub alone : IsAlone epoch seen
  pub none : seen2 ≡ []
  pub is : stream ≡ Some (record { told = alone.told; epoch = epoch; runs = true })

-- what a message's answers say of the connection
abbrev pub heard_for : Replied → Heard
heard_for replied.All = heard.Message
heard_for replied.WriteFault = heard.End end.WriteFault
heard_for replied.NoMemory = heard.End end.NoMemory

-- a message was answered
abbrev pub RepliesTo : Deed → Replied → List ℕ → Known → Option StreamState → Option StreamState → Option (List Happening) → Option (List Happening)
    → Type 0
RepliesTo deed replied.All text k stream stream2 log log2 =
    (outs : List (Option (List ℕ))) × (length outs ≡ length (params_in text)) × IsTrue deed text outs k stream2
    × StreamAfter outs stream stream2 × Logs log log2 (lines_in outs)
RepliesTo deed replied.WriteFault text k stream stream2 log log2 =
    (stream2 ≡ stream) × RepliedPart (length (params_in text)) log log2
RepliesTo deed replied.NoMemory text k stream stream2 log log2 =
    (stream2 ≡ stream) × RepliedPart (length (params_in text)) log log2
