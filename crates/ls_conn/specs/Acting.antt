-- What a request does over a connection, and how it is answered (TLCP 2.1, requests and their answers; the codes are this
-- project's profile).
use Rattle.std.specs.Prelude.{◌≡◌, ◌⊎◌, ℕ, List, [], ◌∷◌, ◌++◌, Bool, true, false, Option, Some, None, slice_get, slice_set, Result, Ok, Err, if◌then◌else◌}
use mathlib.Core.List.{IsPrefix}
use Rattle.ls_line.specs.declared.line.Line.{Line}
use Rattle.ls_line.specs.declared.line.Line.TheVariants as line
use Rattle.ls_line.specs.Lines.{text_of_line}
use Rattle.ls_request.specs.declared.request.LinkKind.{LinkKind}
use Rattle.ls_request.specs.declared.request.Request.{Request}
use Rattle.ls_request.specs.declared.request.Request.TheVariants as request
use Rattle.ls_request.specs.declared.request.Create.{Create}
use Rattle.ls_request.specs.declared.request.Bind.{Bind}
use Rattle.ls_request.specs.declared.request.Control.{Control}
use Rattle.ls_request.specs.declared.request.Op.{Op}
use Rattle.ls_request.specs.Requests.{read_of, req_read}
use Rattle.ls_record.specs.Acting.{message_of, is_opening}
use Rattle.ls_record.specs.Cases.{with_found}
use Rattle.ls_acts.specs.Answers.{answer_line, malformed_line}
use Rattle.ls_register.specs.Deeds.{Deed}
use Rattle.ls_register.specs.declared.made.Made.{Made}
use Rattle.ls_register.specs.Sessions.{is_live}
use Rattle.ls_told.specs.Seen.{Testified, Grows}
use Rattle.ls_told.specs.Requests.{Does, HasBound, RefusesOp, bind_code_of}
use Rattle.ls_shared.specs.Answers.{BindsOn, Opens, SeesOn, Testifies, create_code}
use Rattle.ls_conn.specs.declared.acted.Acted.{Acted}
use Rattle.ls_conn.specs.declared.acted.Acted.TheVariants as acted

-- what was seen over a connection: of the register, and of sessions
pub record Known : Type 0 where
  pub register : List Made
  pub seen : List Testified

abbrev pub known : List Made → List Testified → Known
known ms ts = record { register = ms; seen = ts }

-- a request: what it came over, the connection's session, if it has one, its name and its parameters, and the tick
pub record Asked : Type 0 where
  pub link : LinkKind
  pub own : Option ℕ
  pub name : List ℕ
  pub params : List ℕ
  pub now : ℕ

-- an answer is this line
abbrev pub Says : Line → Acted → Type 0
Says l answer = answer ≡ acted.Line (text_of_line l)

-- a request for a session or a stream is refused for a code
abbrev pub refusal_line : ℕ → Line
refusal_line code = line.ConErr code (message_of code)

-- a session was opened, and is the last of those that were seen
pub record Creates (deed : Deed) (c : Create) (now : ℕ) (old new : Known) (session epoch : ℕ) : Type 0 where
  pub seen : Testified
  pub added : new.seen ≡ old.seen ++ seen ∷ []
  pub opens : Opens deed.set c now old.register new.register session epoch seen

-- what create_session does: a session is opened, or it is refused for a code
abbrev pub CreatesBy : Deed → Create → ℕ → Known → Known → Acted → Type 0
CreatesBy deed c now old new (acted.Opened session epoch) = Creates deed c now old new session epoch
CreatesBy deed c now old new (acted.Line text) =
    (code : ℕ) × (text ≡ text_of_line (refusal_line code)) × (create_code deed.set c new.register ≡ Some code)
    × (new.seen ≡ old.seen)
CreatesBy deed c now old new acted.NoMemory = ⊥

-- what was seen of a session stands at a place: it did before, or it was told now of a session that lives
pub record Finds (session : ℕ) (old new : Known) (place : ℕ) (t : Testified) : Type 0 where
  pub at : slice_get new.seen place ≡ Some t
  pub number : t.number ≡ session
  pub source : (new ≡ old)
      ⊎ ((new.seen ≡ old.seen ++ t ∷ []) × Testifies session t × (is_live new.register session ≡ true))

-- a session doesn't live by the register
pub record IsUnknown (session : ℕ) (old new : Known) : Type 0 where
  pub seen : new.seen ≡ old.seen
  pub gone : is_live new.register session ≡ false

-- of what was seen of sessions, that at a place was replaced by what was seen after a call, which says this of both
pub record Replaces (old new : List Testified) (place : ℕ) (Says : Testified → Testified → Type 0) : Type 0 where
  pub before : Testified
  pub after : Testified
  pub at : slice_get old place ≡ Some before
  pub new_is : new ≡ slice_set old place after
  pub grows : Grows before after
  pub mine : after.mine ≡ before.mine
  pub says : Says before after

-- a session was found, and more was seen of it after a call, which says this of what was seen before and after it
pub record OnSession (session : ℕ) (old new : Known) (Says : Testified → Testified → Type 0) : Type 0 where
  pub found : Known
  pub place : ℕ
  pub was : Testified
  pub finds : Finds session old found place was
  pub replaces : Replaces found.seen new.seen place Says
  pub register : new.register ≡ found.register

-- what came of a bind: a stream of the session is bound, or it is refused for a code
abbrev pub BindsTo : Bind → ℕ → Known → Known → Result ℕ ℕ → Type 0
BindsTo b now old new (Ok epoch) =
    OnSession b.session old new (λ (t u : Testified). BindsOn b now epoch t u × HasBound epoch u.lines)
BindsTo b now old new (Err code) =
    ((code ≡ 20) × IsUnknown b.session old new)
    ⊎ OnSession b.session old new (λ (t u : Testified). bind_code_of t.number u.lines b.recover ≡ Some code)

-- what bind_session does
abbrev pub BindsBy : Bind → ℕ → Known → Known → Acted → Type 0
BindsBy b now old new (acted.Opened session epoch) = (session ≡ b.session) × BindsTo b now old new (Ok epoch)
BindsBy b now old new (acted.Line text) =
    (code : ℕ) × (text ≡ text_of_line (refusal_line code)) × BindsTo b now old new (Err code)
BindsBy b now old new acted.NoMemory = ⊥

-- what came of an operation on a session: it was done, or it is refused for a code
abbrev pub ControlsTo : Deed → Op → ℕ → ℕ → Known → Known → Option ℕ → Type 0
ControlsTo deed o session now old new None = OnSession session old new (Does deed.config o now)
ControlsTo deed o session now old new (Some code) =
    ((code ≡ 20) × IsUnknown session old new)
    ⊎ OnSession session old new
    (λ (t u : Testified). RefusesOp deed.config t.number o code u.lines u.watches u.register)

-- the session that a control request is for: the one that it names, else the connection's
abbrev pub session_for : Option ℕ → Option ℕ → Option ℕ
session_for own (Some session) = Some session
session_for own None = own

-- what control does
abbrev pub ControlsBy : Deed → Control → Option ℕ → ℕ → Known → Known → Acted → Type 0
ControlsBy deed c None now old new answer = Says (answer_line c.req (Some 20)) answer × (new ≡ old)
ControlsBy deed c (Some session) now old new answer =
    (code : Option ℕ) × Says (answer_line c.req code) answer × ControlsTo deed c.op session now old new code

-- what a request does, on a connection of this session, if it has one
abbrev pub Requests : Deed → Option ℕ → ℕ → Known → Known → Request → Acted → Type 0
Requests deed own now old new (request.Create c) answer = CreatesBy deed c now old new answer
Requests deed own now old new (request.Bind b) answer = BindsBy b now old new answer
Requests deed own now old new (request.Control c) answer =
    ControlsBy deed c (session_for own c.session) now old new answer
Requests deed own now old new request.Wsok answer = Says line.WsOk answer × (new ≡ old)

-- what a request does, if it was read
abbrev pub ActsBy : Deed → Asked → Known → Known → Option Request → Acted → Type 0
ActsBy deed a old new None answer = Says (malformed_line a.name (req_read a.name a.params)) answer × (new ≡ old)
ActsBy deed a old new (Some r) answer = Requests deed a.own a.now old new r answer

-- the answer for want of memory: code 75
abbrev pub starved : ℕ
starved = 75

abbrev pub starved_line : List ℕ → Line
starved_line name =
    if is_opening name then refusal_line starved else line.Error starved (message_of starved)

-- a request that was read is answered so for want of memory
abbrev pub StarvedBy : Request → Acted → Type 0
StarvedBy (request.Create c) answer = Says (refusal_line starved) answer
StarvedBy (request.Bind b) answer = Says (refusal_line starved) answer
StarvedBy (request.Control c) answer = Says (answer_line c.req (Some starved)) answer
StarvedBy request.Wsok answer = ⊥

-- a request is answered so for want of memory, or can't even be answered
abbrev pub IsStarved : Asked → Acted → Type 0
IsStarved a answer =
    (answer ≡ acted.NoMemory)
    ⊎ Says (starved_line a.name) answer
    ⊎ ((r : Request) × (read_of a.link a.name a.params ≡ Some r) × StarvedBy r answer)

-- what a request does, and how it is answered
abbrev pub Acts : Deed → Asked → Known → Known → Acted → Type 0
Acts deed a old new answer = IsStarved a answer ⊎ ActsBy deed a old new (read_of a.link a.name a.params) answer

-- no less was seen of each session, and of sessions that were added
abbrev pub SeenGrow : List Testified → List Testified → Type 0
SeenGrow old new =
    (k : ℕ) (t : Testified) → slice_get old k ≡ Some t → (u : Testified) × (slice_get new k ≡ Some u) × SeesOn t u

-- an answer opens a stream
abbrev pub IsOpened : Acted → Type 0
IsOpened answer = (session epoch : ℕ) × (answer ≡ acted.Opened session epoch)

-- whether a request is one for a session or a stream
abbrev pub is_to_open : Request → Bool
is_to_open (request.Create c) = true
is_to_open (request.Bind b) = true
is_to_open (request.Control c) = false
is_to_open request.Wsok = false
