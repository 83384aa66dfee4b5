-- One step of the world, and what it prints (this project's profile).
use Rattle.std.specs.Prelude.{ℕ, zero, suc, ◌+◌, List, [], ◌∷◌, ◌++◌, length, Bool, true, false, Option, None, Some}
use Rattle.std.specs.Prelude.{map, nat_lt, codes, if◌then◌else◌, slice_get, option_and_then}
use Rattle.std.specs.Option.{option_map_or}
use Rattle.ls_event.specs.declared.event.Entry.{Entry}
use Rattle.ls_event.specs.declared.event.Event.TheVariants.{Update, Clear}
use Rattle.ls_event.specs.declared.event.PublishRefused.{PublishRefused}
use Rattle.ls_event.specs.Shapes.{shape_of}
use Rattle.ls_event.specs.Publishes.{refusal}
use Rattle.ls_form.specs.declared.form.Pair.{Pair}
use Rattle.ls_form.specs.Forms.{form_of}
use Rattle.ls_line.specs.Lines.{text_of_line}
use Rattle.ls_request.specs.declared.limits.TheConstants.{DEFAULT_KEEPALIVE}
use Rattle.ls_request.specs.declared.request.LinkKind.{LinkKind}
use Rattle.ls_request.specs.declared.request.Request.{Request}
use Rattle.ls_request.specs.declared.request.Bind.{Bind}
use Rattle.ls_request.specs.declared.request.Create.{Create}
use Rattle.ls_request.specs.declared.request.Op.{Op}
use Rattle.ls_request.specs.Values.{is_word}
use Rattle.ls_request.specs.Requests.{req_behind}
use Rattle.ls_step.specs.declared.out.Out.{Out}
use Rattle.ls_step.specs.declared.step.Step.{Step}
use Rattle.ls_step.specs.declared.step.Repeat.{Repeat}
use Rattle.ls_step.specs.Adding.{add_pairs}
use Rattle.ls_record.specs.Cases.{with_found}
use Rattle.ls_world.specs.World.{World}
use Rattle.ls_record.specs.Records.{Item, Session, history_of, change, live_at, enqueued_in, least_far}
use Rattle.ls_record.specs.Records.{on_board, removed, numbered, is_bound, unbound_at, rebound, forced, reconfigured}
use Rattle.ls_record.specs.Records.{constrained, opened, ended, is_alive, unless_timed_out, grown, is_whole}
pub use Rattle.ls_record.specs.Acting.{is_opening}
use Rattle.ls_record.specs.Acting.{message_of, change_code, constrain_code, bind_code, destroyed, request_over}
use Rattle.ls_world.specs.Acting.{subscribed, add_code, create_code}
use Rattle.ls_record.specs.Turning.{Spent, TurnGives, Send, Idle, NotDue, Superseded, Unbound, Ended, SessionTurn}
use Rattle.ls_record.specs.Turning.{session_turn}
use Rattle.ls_event.specs.declared.event.PublishRefused.TheVariants as refused
use Rattle.ls_line.specs.declared.line.Line.TheVariants as line
use Rattle.ls_request.specs.declared.request.LinkKind.TheVariants as link
use Rattle.ls_request.specs.declared.request.Request.TheVariants as request
use Rattle.ls_request.specs.declared.request.Op.TheVariants as op
use Rattle.ls_step.specs.declared.out.Out.TheVariants as out
use Rattle.ls_step.specs.declared.step.Step.TheVariants as step

-- the world after a step, and what is printed
pub record Stepped : Type 0 where
  pub after : World
  pub outs : List Out

-- a step that changes nothing
abbrev pub stays : World → List Out → Stepped
stays w outs = record { after = w; outs = outs }

-- one of several like steps, and whether the next one is made
pub record Once : Type 0 where
  pub after : World
  pub out : Out
  pub more : Bool

-- one of like steps, and then the rest of them where more follow
abbrev pub behind : Once → (World → Stepped) → Stepped
behind o rest =
    if o.more then record { after = (rest o.after).after; outs = o.out ∷ (rest o.after).outs }
    else record { after = o.after; outs = o.out ∷ [] }

-- at most n like steps, up to the first that ends them
abbrev pub repeated : (World → Once) → ℕ → World → Stepped
repeated f zero w = stays w []
repeated f (suc n) w = behind (f w) (λ v. repeated f n v)

-- what is done with a session, by its place from 0, where there is one
abbrev pub with_session : {A : Type 0} → List Session → Option ℕ → A → (ℕ → Session → A) → A
with_session sessions place none f = with_found place none (λ n. with_found (slice_get sessions n) none (f n))

-- what is done with one that hasn't ended: requests know no other
abbrev pub with_living : {A : Type 0} → List Session → Option ℕ → A → (ℕ → Session → A) → A
with_living sessions place none f =
    with_session sessions place none (λ n s. if is_alive s.life then f n s else none)

-- a connection's session, epoch, name and link
abbrev pub session_of : World → ℕ → Option ℕ
session_of w connection = option_and_then (λ c. c.session) (slice_get w.connections connection)

abbrev pub epoch_of : World → ℕ → ℕ
epoch_of w connection = option_map_or (λ c. c.epoch) (slice_get w.connections connection) 0

abbrev pub name_of : World → ℕ → List ℕ
name_of w connection = option_map_or (λ c. c.name) (slice_get w.connections connection) []

abbrev pub link_of : World → ℕ → LinkKind
link_of w connection = option_map_or (λ c. c.link) (slice_get w.connections connection) link.Ws

-- a line on a connection
abbrev pub on : World → ℕ → List ℕ → List Out
on w connection text = out.Line (name_of w connection) text ∷ []

-- why an entry of an item is refused, if it is
abbrev pub cause_to_refuse : World → ℕ → Entry → Item → Option PublishRefused
cause_to_refuse w item e i =
    refusal (shape_of i.definition) i.history (least_far item (length i.history) w.sessions) e

-- the note of a refusal
abbrev pub refused_out : PublishRefused → List Out
refused_out (refused.Repeated last) = out.Repeated last ∷ []
refused_out refused.NoKey = out.NoKey ∷ []
refused_out refused.BadCommand = out.BadCommand ∷ []
refused_out (refused.TooLong bytes) = out.TooLong bytes ∷ []
refused_out refused.TooManyKeys = out.TooManyKeys ∷ []
refused_out (refused.Backlog slot) = out.Backlog slot ∷ []
refused_out refused.Spent = out.Spent ∷ []
refused_out refused.NoMemory = []

-- of an item that isn't there, or that has other fields, nothing is done; else the entry is refused by the first cause,
-- or it is the item's next one
abbrev pub publishes : World → ℕ → Entry → Stepped
publishes w item e =
    with_found (slice_get w.items item) (stays w []) (λ i.
    if is_whole (length i.definition.fields) e.event
    then with_found (cause_to_refuse w item e i)
    (record {
      after = record w { items = change item (grown e) w.items };
      outs = out.Published (length i.history + 1) ∷ [];
    })
    (λ cause. stays w (refused_out cause))
    else stays w [])

-- a connection has a session, by its place from 0, and the stream of an epoch
abbrev pub with_link : ℕ → ℕ → ℕ → World → World
with_link connection session epoch w =
    record w {
      connections = change connection (λ c. record c { session = Some session; epoch = epoch }) w.connections;
    }

-- a new session, whose first stream is the connection's
abbrev pub created : World → ℕ → Create → World
created w connection c =
    with_link connection (length w.sessions) 1
    (record w { sessions = w.sessions ++ opened (length w.sessions + 1) c.keepalive c.bandwidth c.length ∷ [] })

-- a request for a stream is refused (TLCP 2.1, CONERR)
abbrev pub refuses_stream : World → ℕ → ℕ → Stepped
refuses_stream w connection code = stays w (on w connection (text_of_line (line.ConErr code (message_of code))))

-- a create_session: the session is made, or it is refused
abbrev pub creates : World → ℕ → Create → Stepped
creates w connection c =
    with_found (create_code w c) (stays (created w connection c) []) (refuses_stream w connection)

-- a new stream of the session of a place, which is the connection's
abbrev pub bound : World → ℕ → ℕ → Session → Bind → World
bound w connection n s b =
    with_link connection n (length s.streams + 1) (record w { sessions = change n (rebound b.session b) w.sessions })

-- an answer to a control request (TLCP 2.1, REQOK and REQERR)
abbrev pub request_ok : World → ℕ → List ℕ → List Out
request_ok w connection req = on w connection (text_of_line (line.ReqOk req))

abbrev pub refuses : World → ℕ → List ℕ → ℕ → Stepped
refuses w connection req code = stays w (on w connection (text_of_line (line.ReqErr req code (message_of code))))

-- what a control request does with a session: it is changed, or the request is refused
abbrev pub operated : World → ℕ → List ℕ → ℕ → Option ℕ → (Session → Session) → Stepped
operated w connection req n code f =
    with_found code
    (record { after = record w { sessions = change n f w.sessions }; outs = request_ok w connection req })
    (refuses w connection req)

-- a subscription is added, ended, or gets another frequency; the session gets another bandwidth, or is ended; its
-- stream is forced to be over
abbrev pub operates : World → ℕ → List ℕ → Op → ℕ → Session → Stepped
operates w connection req (op.Add a) n s = operated w connection req n (add_code w s a) (subscribed w a)
operates w connection req (op.Delete sub) n s =
    operated w connection req n (change_code s sub) (numbered (removed sub))
operates w connection req (op.Reconf sub frequency) n s =
    operated w connection req n (change_code s sub) (numbered (reconfigured sub frequency))
operates w connection req (op.Constrain limit) n s =
    operated w connection req n (constrain_code s) (constrained limit)
operates w connection req op.Destroy n s = operated w connection req n None (ended destroyed)
operates w connection req op.ForceRebind n s = operated w connection req n None forced

-- the session that a control request names by its number from 1, or the connection's
abbrev pub session_named : World → ℕ → Option ℕ → Option ℕ
session_named w connection None = session_of w connection
session_named w connection (Some zero) = None
session_named w connection (Some (suc n)) = Some n

-- a bind_session: the session that it names has a new stream, or it is refused
abbrev pub binds : World → ℕ → Bind → Stepped
binds w connection b =
    with_living w.sessions (session_named w connection (Some b.session)) (refuses_stream w connection 20) (λ n s.
    with_found (bind_code s b) (stays (bound w connection n s b) []) (refuses_stream w connection))

-- a request that was read; a control request names a session that hasn't ended
abbrev pub acts : World → ℕ → Request → Stepped
acts w connection (request.Create c) = creates w connection c
acts w connection (request.Bind b) = binds w connection b
acts w connection (request.Control c) =
    with_living w.sessions (session_named w connection c.session) (refuses w connection c.req 20)
    (operates w connection c.req c.op)
acts w connection request.Wsok = stays w (on w connection (text_of_line line.WsOk))

-- a request that is malformed, by its name, and by its LS_reqId where that could be read
abbrev pub malformed : World → ℕ → List ℕ → Option (List ℕ) → Stepped
malformed w connection name req =
    if is_opening name then refuses_stream w connection 65
    else with_found req (stays w (on w connection (text_of_line (line.Error 65 (message_of 65)))))
    (λ r. refuses w connection r 65)

-- a request on a connection by its name and its pairs, which are none where its parameters are no form, as it is read
-- over a link
abbrev pub requests : World → ℕ → LinkKind → List ℕ → Option (List Pair) → Stepped
requests w connection l name ps =
    with_found (request_over l name ps)
    (malformed w connection name (option_and_then (req_behind name) ps))
    (acts w connection)

-- a new connection
abbrev pub connects : World → List ℕ → LinkKind → World
connects w name l =
    record w { connections = w.connections ++ record { name = name; link = l; session = None; epoch = 0 } ∷ [] }

-- a create_session without parameters: with the keep-alive that is meant where none is said
abbrev pub plain_create : Create
plain_create = record { set = None; keepalive = DEFAULT_KEEPALIVE; bandwidth = None; length = None }

-- the last of like steps, and one that others may follow
abbrev pub ends : World → Out → Once
ends w printed = record { after = w; out = printed; more = false }

abbrev pub goes_on : World → Out → Once
goes_on w printed = record { after = w; out = printed; more = true }

-- an enqueue: a slot takes its item's next event
abbrev pub enqueue_once : ℕ → ℕ → ℕ → World → Once
enqueue_once connection sub rank w =
    with_session w.sessions (session_of w connection) (ends w out.NoSlot) (λ n s.
    with_found (live_at sub rank s.board.round) (ends w out.NoSlot) (λ v.
    if nat_lt v.slot.last (length (history_of w.items v.item))
    then goes_on (record w { sessions = change n (on_board (enqueued_in w.items sub rank)) w.sessions })
    (out.Moved (v.slot.last + 1))
    else ends w out.UpToDate))

-- a turn of the session of this place: the line is printed, or why there is none
abbrev pub took : World → ℕ → ℕ → Session → TurnGives → Once
took w connection n s (Send text) =
    goes_on (record w { sessions = change n (λ old. s) w.sessions }) (out.Line (name_of w connection) text)
took w connection n s Idle = ends (record w { sessions = change n (λ old. s) w.sessions }) out.Idle
took w connection n s (NotDue tick) =
    ends (record w { sessions = change n (λ old. s) w.sessions }) (out.NotDue tick)
took w connection n s Spent = ends w out.Spent
took w connection n s (Superseded epoch) = ends w (out.Superseded epoch)
took w connection n s Unbound = ends w out.Unbound
took w connection n s (Ended code) = ends w (out.Ended code)

-- a turn of a connection's session
abbrev pub take_once : ℕ → World → Once
take_once connection w =
    with_session w.sessions (session_of w connection) (ends w out.NoSession) (λ n s.
    let t : SessionTurn = session_turn w.tick w.items (epoch_of w connection) s in
    took w connection n t.session t.gives)

-- the stream of a connection is lost: from this tick on the session has none, where this is its newest one and is bound
abbrev pub loses : World → ℕ → Stepped
loses w connection =
    with_session w.sessions (session_of w connection) (stays w (out.NoSession ∷ [])) (λ n s.
    if nat_lt (epoch_of w connection) (length s.streams) then stays w (out.Superseded (length s.streams) ∷ [])
    else if is_bound s
    then record { after = record w { sessions = change n (unbound_at w.tick) w.sessions }; outs = out.Lost ∷ [] }
    else stays w (out.Unbound ∷ []))

-- the clock is set, and the sessions end that were without a stream for too long
abbrev pub ticks : World → ℕ → World
ticks w now = record w { tick = now; sessions = map (unless_timed_out now) w.sessions }

-- one step, made at most so often
abbrev pub does : World → Step → ℕ → Stepped
does w (step.Set name) times = stays (record w { set = name }) []
does w (step.Item name k fields) times =
    stays (record w {
      items = w.items ++ record { definition = record { name = name; kind = k; fields = fields }; history = [] } ∷ [];
    }) []
does w (step.Tick ms) times = stays (ticks w ms) []
does w (step.Conn name l) times = stays (connects w name l) []
does w (step.Open name) times = creates (connects w name link.Ws) (length w.connections) plain_create
does w (step.Add connection words) times =
    requests w connection link.Ws (codes "control") (add_pairs w.line words)
does w (step.Request connection name parameters) times =
    requests w connection (link_of w connection) name (form_of parameters)
does w (step.Publish adapter seq item cells) times =
    publishes w item (record { adapter = adapter; seq = seq; event = Update cells })
does w (step.Clear adapter seq item) times = publishes w item (record { adapter = adapter; seq = seq; event = Clear })
does w (step.Enqueue connection sub rank) times = repeated (enqueue_once connection sub rank) times w
does w (step.Take connection) times = repeated (take_once connection) times w
does w (step.Lose connection) times = loses w connection

-- these steps, one after another
abbrev pub does_all : World → List Repeat → World
does_all w [] = w
does_all w (r ∷ repeats) = does_all (does w r.step r.times).after repeats
