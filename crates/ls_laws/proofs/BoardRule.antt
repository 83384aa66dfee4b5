-- What each session keeps through each step, by its board and its rate, whatever becomes of what it is owed and was sent.
use Rattle.std.proofs.Common.{◌≡◌, ℕ, ◌+◌, List, [], ◌∷◌, length, subst, Option, Some, None, IfSome, codes, map, nat_lt, slice_get}
use Rattle.std.specs.Prelude.{option_and_then}
use Rattle.ls_event.specs.declared.event.Entry.{Entry}
use Rattle.ls_event.specs.declared.event.Event.TheVariants.{Update, Clear}
use Rattle.ls_form.specs.declared.form.Pair.{Pair}
use Rattle.ls_form.specs.Forms.{form_of}
use Rattle.ls_request.specs.declared.request.LinkKind.{LinkKind}
use Rattle.ls_request.specs.declared.request.LinkKind.TheVariants as link
use Rattle.ls_request.specs.declared.request.Add.{Add}
use Rattle.ls_request.specs.declared.request.Bind.{Bind}
use Rattle.ls_request.specs.declared.request.Create.{Create}
use Rattle.ls_request.specs.declared.request.Op.{Op}
use Rattle.ls_request.specs.declared.request.Op.TheVariants as op
use Rattle.ls_request.specs.declared.request.Request.{Request}
use Rattle.ls_request.specs.declared.request.Request.TheVariants as request
use Rattle.ls_request.specs.Requests.{req_behind}
use Rattle.ls_step.specs.declared.step.Step.{Step}
use Rattle.ls_step.specs.declared.step.Step.TheVariants as step
use Rattle.ls_step.specs.Adding.{add_pairs}
use Rattle.ls_world.specs.World.{World}
use Rattle.ls_record.specs.Records.{Item, LiveSlot, Board, Session, Rate, history_of, change, live_at, removed}
use Rattle.ls_record.specs.Records.{enqueued_in, on_board, opened, ended}
use Rattle.ls_record.specs.Records.{taken_in, is_due, reconfigured, constrained, numbered, forced, rebound, is_bound}
use Rattle.ls_record.specs.Records.{unbound_at, is_timed_out, unless_timed_out}
use Rattle.ls_record.specs.Records.{timed_out}
use Rattle.ls_world.specs.Acting.{subscribed, add_code, create_code}
use Rattle.ls_record.specs.Acting.{change_code, constrain_code, bind_code, destroyed}
use Rattle.ls_world.specs.Steps.{Stepped, Once, session_of, cause_to_refuse, publishes, creates, operated, operates}
use Rattle.ls_world.specs.Steps.{session_named, acts}
use Rattle.ls_record.specs.Records.{is_whole}
use Rattle.ls_world.specs.Steps.{is_opening, malformed, requests, connects, plain_create, enqueue_once}
use Rattle.ls_record.specs.Acting.{request_over}
use Rattle.ls_record.specs.Turning.{TurnGives, Send, Idle, NotDue, Spent}
use Rattle.ls_record.specs.Turning.{Ended}
use Rattle.ls_record.specs.Turning.{Superseded, Unbound, SessionTurn, session_turn}
use Rattle.ls_world.specs.Steps.{took, take_once, epoch_of, link_of, binds, loses, does}
use Rattle.ls_value.specs.Each.{Each}
use Rattle.ls_record.proofs.Each.{each_mapped, each_changed, each_at}
use Rattle.ls_value.proofs.Each.{each_append}
use Rattle.ls_world.proofs.Parts.{enqueued_by}
use Rattle.ls_record.proofs.Rules.{found_rule, cond_rule}
use Rattle.ls_world.proofs.Rules.{session_rule, repeated_keeps}
use Rattle.ls_world.proofs.Unmoved.{declared_by}
use Rattle.ls_lawful.proofs.Requested.{IsRate, IsOp, IsRequest, request_over_is}
use Rattle.ls_lawful.proofs.Sessions.{turn_rule, next_rule}
use Rattle.ls_laws.proofs.Living.{living_rule}

-- what is true of a board and a rate at a tick is true of a new session, and after each step of a session
pub record Kept (Q : ℕ → Board → Rate → Type 0) : Type 0 where
  pub opens : (now : ℕ) (limit : Option ℕ) → IsRate limit → Q now (record { lines = []; round = [] }) (record { limit = limit; behind = 0 })
  pub adds : (now : ℕ) (w : World) (s : Session) (a : Add) → add_code w s a ≡ None → Q now s.board s.rate → Q now (subscribed w a s).board s.rate
  pub removes : (now sub : ℕ) (b : Board) (r : Rate) → Q now b r → Q now (removed sub b) r
  pub reconfigures : (now sub : ℕ) (frequency : Option ℕ) (b : Board) (r : Rate) → Q now b r → Q now (reconfigured sub frequency b) r
  pub constrains : (now : ℕ) (limit : Option ℕ) (b : Board) (r : Rate) → IsRate limit → Q now b r
      → Q now b (record { limit = limit; behind = length b.lines })
  pub ends : (now : ℕ) (b : Board) (r : Rate) → Q now b r → Q now (record b { round = [] }) r
  pub enqueues : (now : ℕ) (items : List Item) (sub rank : ℕ) (b : Board) (r : Rate) → Q now b r → Q now (enqueued_in items sub rank b) r
  pub takes : (now : ℕ) (items : List Item) (s : Session) → Q now s.board s.rate → Q now (taken_in (is_due now s) now items s.board) s.rate

-- it is true of each session of a world
abbrev pub OfEach : (ℕ → Board → Rate → Type 0) → World → Type 0
OfEach Q w = Each (λ s. Q w.tick s.board s.rate) w.sessions

of_changed : (Q : ℕ → Board → Rate → Type 0) (w : World) (n : ℕ) (s : Session) (f : Session → Session) → slice_get w.sessions n ≡ Some s
    → (Q w.tick s.board s.rate → Q w.tick (f s).board (f s).rate) → OfEach Q w → OfEach Q (record w { sessions = change n f w.sessions })
of_changed Q w n s f is keep e = each_changed (λ (x : Session). Q w.tick x.board x.rate) n f s w.sessions is keep e

-- requests
of_operated : (Q : ℕ → Board → Rate → Type 0) (w : World) (connection : ℕ) (req : List ℕ) (n : ℕ) (s : Session) (code : Option ℕ) (f : Session → Session)
    → slice_get w.sessions n ≡ Some s → (code ≡ None → Q w.tick s.board s.rate → Q w.tick (f s).board (f s).rate) → OfEach Q w
    → OfEach Q (operated w connection req n code f).after
of_operated Q w connection req n s code f is keep e =
    found_rule (λ (x : Stepped). OfEach Q x.after) code _ _ (λ none. of_changed Q w n s f is (keep none) e) (λ c x. e)

of_operates : (Q : ℕ → Board → Rate → Type 0) → Kept Q → (w : World) (connection : ℕ) (req : List ℕ) (o : Op) (n : ℕ) (s : Session)
    → slice_get w.sessions n ≡ Some s → IsOp o → OfEach Q w → OfEach Q (operates w connection req o n s).after
of_operates Q k w connection req (op.Add a) n s is range e =
    of_operated Q w connection req n s (add_code w s a) (subscribed w a) is (λ none q. k.adds w.tick w s a none q) e
of_operates Q k w connection req (op.Delete sub) n s is range e =
    of_operated Q w connection req n s (change_code s sub) (numbered (removed sub)) is (λ none q. k.removes w.tick sub s.board s.rate q) e
of_operates Q k w connection req (op.Reconf sub frequency) n s is range e =
    of_operated Q w connection req n s (change_code s sub) (numbered (reconfigured sub frequency)) is
    (λ none q. k.reconfigures w.tick sub frequency s.board s.rate q) e
of_operates Q k w connection req (op.Constrain limit) n s is range e =
    of_operated Q w connection req n s (constrain_code s) (constrained limit) is (λ none q. k.constrains w.tick limit s.board s.rate range q) e
of_operates Q k w connection req op.ForceRebind n s is range e =
    of_operated Q w connection req n s None forced is (λ none q. q) e
of_operates Q k w connection req op.Destroy n s is range e =
    of_operated Q w connection req n s None (ended destroyed) is (λ none q. k.ends w.tick s.board s.rate q) e

of_creates : (Q : ℕ → Board → Rate → Type 0) → Kept Q → (w : World) (connection : ℕ) (c : Create) → IsRate c.bandwidth → OfEach Q w
    → OfEach Q (creates w connection c).after
of_creates Q k w connection c range e =
    found_rule (λ (x : Stepped). OfEach Q x.after) (create_code w c) _ _
    (λ none. each_append (λ (s : Session). Q w.tick s.board s.rate) w.sessions (opened (length w.sessions + 1) c.keepalive c.bandwidth c.length ∷ []) e
    (k.opens w.tick c.bandwidth range, tt)) (λ code x. e)

of_binds : (Q : ℕ → Board → Rate → Type 0) (w : World) (connection : ℕ) (b : Bind) → OfEach Q w → OfEach Q (binds w connection b).after
of_binds Q w connection b e =
    living_rule (λ (x : Stepped). OfEach Q x.after) w.sessions (session_named w connection (Some b.session)) _ _ e
    (λ n s is living. found_rule (λ (x : Stepped). OfEach Q x.after) (bind_code s b) _ _
    (λ none. of_changed Q w n s (rebound b.session b) is (λ q. q) e) (λ code x. e))

of_acts : (Q : ℕ → Board → Rate → Type 0) → Kept Q → (w : World) (connection : ℕ) (r : Request) → IsRequest r → OfEach Q w
    → OfEach Q (acts w connection r).after
of_acts Q k w connection (request.Create c) range e = of_creates Q k w connection c range e
of_acts Q k w connection (request.Bind b) range e = of_binds Q w connection b e
of_acts Q k w connection (request.Control c) range e =
    living_rule (λ (x : Stepped). OfEach Q x.after) w.sessions (session_named w connection c.session) _ (operates w connection c.req c.op) e
    (λ n s is living. of_operates Q k w connection c.req c.op n s is range e)
of_acts Q k w connection request.Wsok range e = e

of_malformed : (Q : ℕ → Board → Rate → Type 0) (w : World) (connection : ℕ) (name : List ℕ) (req : Option (List ℕ)) → OfEach Q w
    → OfEach Q (malformed w connection name req).after
of_malformed Q w connection name req e =
    cond_rule (λ (x : Stepped). OfEach Q x.after) (is_opening name) _ _ (λ t. e)
    (λ t. found_rule (λ (x : Stepped). OfEach Q x.after) req _ _ (λ x. e) (λ r x. e))

of_requests : (Q : ℕ → Board → Rate → Type 0) → Kept Q → (w : World) (connection : ℕ) (l : LinkKind) (name : List ℕ) (ps : Option (List Pair))
    → OfEach Q w → OfEach Q (requests w connection l name ps).after
of_requests Q k w connection l name ps e =
    found_rule (λ (x : Stepped). OfEach Q x.after) (request_over l name ps) _ (acts w connection)
    (λ none. of_malformed Q w connection name (option_and_then (req_behind name) ps) e)
    (λ r is. of_acts Q k w connection r (subst (λ (o : Option Request). IfSome o IsRequest) is (request_over_is l name ps)) e)

-- a publish changes no session
of_publishes : (Q : ℕ → Board → Rate → Type 0) (w : World) (item : ℕ) (x : Entry) → OfEach Q w → OfEach Q (publishes w item x).after
of_publishes Q w item x e =
    found_rule (λ (y : Stepped). OfEach Q y.after) (slice_get w.items item) _ _ (λ none. e)
    (λ i is. cond_rule (λ (y : Stepped). OfEach Q y.after) (is_whole (length i.definition.fields) x.event) _ _
    (λ whole. found_rule (λ (y : Stepped). OfEach Q y.after) (cause_to_refuse w item x i) _ _ (λ none. e) (λ cause y. e)) (λ part. e))

-- enqueues and turns
of_enqueued : (Q : ℕ → Board → Rate → Type 0) → Kept Q → (w : World) (n sub rank : ℕ) (s : Session) (o : Option LiveSlot) → slice_get w.sessions n ≡ Some s
    → OfEach Q w → OfEach Q (enqueued_by w n sub rank o).after
of_enqueued Q k w n sub rank s None is e = e
of_enqueued Q k w n sub rank s (Some v) is e =
    cond_rule (λ (x : Once). OfEach Q x.after) (nat_lt v.slot.last (length (history_of w.items v.item))) _ _
    (λ t. of_changed Q w n s (on_board (enqueued_in w.items sub rank)) is (λ q. k.enqueues w.tick w.items sub rank s.board s.rate q) e) (λ t. e)

of_turned : (Q : ℕ → Board → Rate → Type 0) → Kept Q → (now : ℕ) (items : List Item) (epoch : ℕ) (s : Session) → Q now s.board s.rate
    → Q now (session_turn now items epoch s).session.board (session_turn now items epoch s).session.rate
of_turned Q k now items epoch s q =
    let after : Session = numbered (taken_in (is_due now s) now items) s in
    let p : Q now after.board after.rate = k.takes now items s q in
    turn_rule (λ (t : SessionTurn). Q now t.session.board t.session.rate) now items epoch s (record {
      superseded = q;
      unbound = q;
      owes = λ text owed. q;
      loops = q;
      next = next_rule (λ (t : Session). Q now t.board t.rate) s q q;
      spent = q;
      waits = λ none. p;
      tells = λ t some. next_rule (λ (t : Session). Q now t.board t.rate) after p p;
      ending = λ code. q;
      over = λ code. q;
    })

of_took : (Q : ℕ → Board → Rate → Type 0) (w : World) (connection n : ℕ) (old new : Session) (g : TurnGives) → slice_get w.sessions n ≡ Some old
    → Q w.tick new.board new.rate → OfEach Q w → OfEach Q (took w connection n new g).after
of_took Q w connection n old new (Send text) is q e = of_changed Q w n old (λ x. new) is (λ x. q) e
of_took Q w connection n old new Idle is q e = of_changed Q w n old (λ x. new) is (λ x. q) e
of_took Q w connection n old new (NotDue tick) is q e = of_changed Q w n old (λ x. new) is (λ x. q) e
of_took Q w connection n old new Spent is q e = e
of_took Q w connection n old new (Superseded epoch) is q e = e
of_took Q w connection n old new Unbound is q e = e
of_took Q w connection n old new (Ended code) is q e = e

-- a loss, and sessions that time out
of_loses : (Q : ℕ → Board → Rate → Type 0) (w : World) (connection : ℕ) → OfEach Q w → OfEach Q (loses w connection).after
of_loses Q w connection e =
    session_rule (λ (x : Stepped). OfEach Q x.after) w.sessions (session_of w connection) _ _ e
    (λ n s is. cond_rule (λ (x : Stepped). OfEach Q x.after) (nat_lt (epoch_of w connection) (length s.streams)) _ _ (λ t. e)
    (λ t. cond_rule (λ (x : Stepped). OfEach Q x.after) (is_bound s) _ _ (λ u. of_changed Q w n s (unbound_at w.tick) is (λ q. q) e) (λ u. e)))

of_ticks : (Q : ℕ → Board → Rate → Type 0) → Kept Q → (now : ℕ) (ss : List Session) → Each (λ (s : Session). Q now s.board s.rate) ss
    → Each (λ (s : Session). Q now s.board s.rate) (map (unless_timed_out now) ss)
of_ticks Q k now ss e =
    each_mapped (λ (s : Session). Q now s.board s.rate) (λ (s : Session). Q now s.board s.rate) (unless_timed_out now) ss
    (λ s q. cond_rule (λ (t : Session). Q now t.board t.rate) (is_timed_out now s) (ended timed_out s) s (λ t. k.ends now s.board s.rate q) (λ t. q)) e

-- a step: what is true once the step's own declaration is made is true after it
pub of_does : (Q : ℕ → Board → Rate → Type 0) → Kept Q → (w : World) (s : Step) (times : ℕ) → OfEach Q (declared_by w s) → OfEach Q (does w s times).after
of_does Q k w (step.Set name) times e = e
of_does Q k w (step.Item name kind fields) times e = e
of_does Q k w (step.Tick ms) times e = of_ticks Q k ms w.sessions e
of_does Q k w (step.Conn name l) times e = e
of_does Q k w (step.Open name) times e = of_creates Q k (connects w name link.Ws) (length w.connections) plain_create tt e
of_does Q k w (step.Add connection words) times e = of_requests Q k w connection link.Ws (codes "control") (add_pairs w.line words) e
of_does Q k w (step.Request connection name parameters) times e = of_requests Q k w connection (link_of w connection) name (form_of parameters) e
of_does Q k w (step.Publish adapter seq item cells) times e = of_publishes Q w item (record { adapter = adapter; seq = seq; event = Update cells }) e
of_does Q k w (step.Clear adapter seq item) times e = of_publishes Q w item (record { adapter = adapter; seq = seq; event = Clear }) e
of_does Q k w (step.Enqueue connection sub rank) times e =
    repeated_keeps (OfEach Q) (enqueue_once connection sub rank) times w
    (λ v q. session_rule (λ (x : Once). OfEach Q x.after) v.sessions (session_of v connection) _
    (λ n s. enqueued_by v n sub rank (live_at sub rank s.board.round)) q
    (λ n s is. of_enqueued Q k v n sub rank s (live_at sub rank s.board.round) is q)) e
of_does Q k w (step.Take connection) times e =
    repeated_keeps (OfEach Q) (take_once connection) times w
    (λ v q. session_rule (λ (x : Once). OfEach Q x.after) v.sessions (session_of v connection) _
    (λ n s. let t : SessionTurn = session_turn v.tick v.items (epoch_of v connection) s in took v connection n t.session t.gives) q
    (λ n s is. let t : SessionTurn = session_turn v.tick v.items (epoch_of v connection) s in of_took Q v connection n s t.session t.gives is
    (of_turned Q k v.tick v.items (epoch_of v connection) s (each_at (λ (t : Session). Q v.tick t.board t.rate) n s v.sessions is q)) q)) e
of_does Q k w (step.Lose connection) times e = of_loses Q w connection e
