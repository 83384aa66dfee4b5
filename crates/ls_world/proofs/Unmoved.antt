-- What events, enqueues, turns and requests leave of a world as it was.
use Rattle.std.proofs.Common.{ℕ, ◌+◌, List, [], ◌∷◌, ◌++◌, length, Option, None, Some, codes, cond, map, nat_lt, slice_get}
use Rattle.std.specs.Prelude.{option_and_then}
use Rattle.ls_event.specs.declared.event.Entry.{Entry}
use Rattle.ls_event.specs.declared.event.Event.TheVariants.{Update, Clear}
use Rattle.ls_form.specs.declared.form.Pair.{Pair}
use Rattle.ls_form.specs.Forms.{form_of}
use Rattle.ls_request.specs.declared.request.LinkKind.{LinkKind}
use Rattle.ls_request.specs.declared.request.LinkKind.TheVariants as link
use Rattle.ls_request.specs.declared.request.Bind.{Bind}
use Rattle.ls_request.specs.declared.request.Create.{Create}
use Rattle.ls_request.specs.declared.request.Op.{Op}
use Rattle.ls_request.specs.declared.request.Op.TheVariants as op
use Rattle.ls_request.specs.declared.request.Request.{Request}
use Rattle.ls_request.specs.declared.request.Request.TheVariants as request
use Rattle.ls_request.specs.Requests.{req_behind}
use Rattle.ls_step.specs.declared.step.Step.{Step}
use Rattle.ls_step.specs.declared.step.Step.TheVariants as step
use Rattle.ls_step.specs.Adding.{add_pairs}
use Rattle.ls_world.specs.World.{World}
use Rattle.ls_record.specs.Records.{Session, history_of, change, live_at, enqueued_in, on_board, opened, ended}
use Rattle.ls_record.specs.Records.{removed, is_alive}
use Rattle.ls_record.specs.Records.{reconfigured, constrained, numbered, forced, rebound, is_bound, unbound_at}
use Rattle.ls_record.specs.Records.{unless_timed_out}
use Rattle.ls_world.specs.Acting.{subscribed, add_code, create_code}
use Rattle.ls_record.specs.Acting.{change_code, constrain_code, bind_code, destroyed}
use Rattle.ls_world.specs.Steps.{Stepped, Once, repeated, session_of, cause_to_refuse, publishes, with_link, creates}
use Rattle.ls_world.specs.Steps.{operated, operates}
use Rattle.ls_record.specs.Records.{grown, is_whole}
use Rattle.ls_world.specs.Steps.{session_named, refuses, binds, epoch_of, link_of, loses}
use Rattle.ls_world.specs.Steps.{acts, is_opening, malformed, requests, connects, plain_create, enqueue_once}
use Rattle.ls_record.specs.Acting.{request_over}
use Rattle.ls_record.specs.Turning.{TurnGives, Send, Idle, NotDue}
use Rattle.ls_record.specs.Turning.{Spent, Superseded, Unbound, Ended, SessionTurn}
use Rattle.ls_record.specs.Turning.{session_turn}
use Rattle.ls_world.specs.Steps.{took, take_once, does}
use Rattle.ls_record.proofs.Rules.{found_rule, cond_rule}
use Rattle.ls_world.proofs.Rules.{session_rule, repeated_keeps}

-- what is true of a world stays true, whatever becomes of its sessions and of its items' histories
pub record Unmoved (P : World → Type 0) : Type 0 where
  pub sessions : (w : World) (ss : List Session) → P w → P (record w { sessions = ss })
  pub grows : (w : World) (item : ℕ) (e : Entry) → P w → P (record w { items = change item (grown e) w.items })

-- and whichever session and epoch a connection is given
pub record Unlinked (P : World → Type 0) : Type 0 where
  pub rest : Unmoved P
  pub links : (w : World) (connection session epoch : ℕ) → P w → P (with_link connection session epoch w)

-- enqueues and turns
pub enqueues_unmoved : (P : World → Type 0) → Unmoved P → (connection sub rank times : ℕ) (w : World) → P w
    → P (repeated (enqueue_once connection sub rank) times w).after
enqueues_unmoved P k connection sub rank times w p =
    repeated_keeps P (enqueue_once connection sub rank) times w
    (λ v q. session_rule (λ (r : Once). P r.after) v.sessions (session_of v connection) _ _ q
    (λ n s is. found_rule (λ (r : Once). P r.after) (live_at sub rank s.board.round) _ _ (λ e. q)
    (λ u e. cond_rule (λ (r : Once). P r.after) (nat_lt u.slot.last (length (history_of v.items u.item))) _ _
    (λ t. k.sessions v (change n (on_board (enqueued_in v.items sub rank)) v.sessions) q) (λ t. q)))) p

took_unmoved : (P : World → Type 0) → Unmoved P → (w : World) (connection n : ℕ) (s : Session) (g : TurnGives) → P w → P (took w connection n s g).after
took_unmoved P k w connection n s (Send text) p = k.sessions w (change n (λ old. s) w.sessions) p
took_unmoved P k w connection n s Idle p = k.sessions w (change n (λ old. s) w.sessions) p
took_unmoved P k w connection n s (NotDue tick) p = k.sessions w (change n (λ old. s) w.sessions) p
took_unmoved P k w connection n s Spent p = p
took_unmoved P k w connection n s (Superseded epoch) p = p
took_unmoved P k w connection n s Unbound p = p
took_unmoved P k w connection n s (Ended code) p = p

pub takes_unmoved : (P : World → Type 0) → Unmoved P → (connection times : ℕ) (w : World) → P w → P (repeated (take_once connection) times w).after
takes_unmoved P k connection times w p =
    repeated_keeps P (take_once connection) times w
    (λ v q. session_rule (λ (r : Once). P r.after) v.sessions (session_of v connection) _ _ q
    (λ n s is. let t : SessionTurn = session_turn v.tick v.items (epoch_of v connection) s in
    took_unmoved P k v connection n t.session t.gives q)) p

-- a loss
loses_unmoved : (P : World → Type 0) → Unmoved P → (w : World) (connection : ℕ) → P w → P (loses w connection).after
loses_unmoved P k w connection p =
    session_rule (λ (r : Stepped). P r.after) w.sessions (session_of w connection) _ _ p
    (λ n s is. cond_rule (λ (r : Stepped). P r.after) (nat_lt (epoch_of w connection) (length s.streams)) _ _ (λ t. p)
    (λ t. cond_rule (λ (r : Stepped). P r.after) (is_bound s) _ _
    (λ t. k.sessions w (change n (unbound_at w.tick) w.sessions) p) (λ t. p)))

-- a publish
pub publishes_unmoved : (P : World → Type 0) → Unmoved P → (w : World) (item : ℕ) (e : Entry) → P w → P (publishes w item e).after
publishes_unmoved P k w item e p =
    found_rule (λ (r : Stepped). P r.after) (slice_get w.items item) _ _ (λ x. p)
    (λ i x. cond_rule (λ (r : Stepped). P r.after) (is_whole (length i.definition.fields) e.event) _ _
    (λ t. found_rule (λ (r : Stepped). P r.after) (cause_to_refuse w item e i) _ _ (λ y. k.grows w item e p) (λ cause y. p)) (λ t. p))

-- requests
creates_unmoved : (P : World → Type 0) → Unlinked P → (w : World) (connection : ℕ) (c : Create) → P w → P (creates w connection c).after
creates_unmoved P k w connection c p =
    let ss : List Session = w.sessions ++ opened (length w.sessions + 1) c.keepalive c.bandwidth c.length ∷ [] in
    found_rule (λ (r : Stepped). P r.after) (create_code w c) _ _
    (λ x. k.links (record w { sessions = ss }) connection (length w.sessions) 1 (k.rest.sessions w ss p)) (λ code x. p)

operated_unmoved : (P : World → Type 0) → Unmoved P → (w : World) (connection : ℕ) (req : List ℕ) (n : ℕ) (code : Option ℕ) (f : Session → Session) → P w
    → P (operated w connection req n code f).after
operated_unmoved P k w connection req n code f p =
    found_rule (λ (r : Stepped). P r.after) code _ _ (λ x. k.sessions w (change n f w.sessions) p) (λ code x. p)

operates_unmoved : (P : World → Type 0) → Unmoved P → (w : World) (connection : ℕ) (req : List ℕ) (o : Op) (n : ℕ) (s : Session) → P w
    → P (operates w connection req o n s).after
operates_unmoved P k w connection req (op.Add a) n s p = operated_unmoved P k w connection req n (add_code w s a) (subscribed w a) p
operates_unmoved P k w connection req (op.Delete sub) n s p = operated_unmoved P k w connection req n (change_code s sub) (numbered (removed sub)) p
operates_unmoved P k w connection req (op.Reconf sub frequency) n s p =
    operated_unmoved P k w connection req n (change_code s sub) (numbered (reconfigured sub frequency)) p
operates_unmoved P k w connection req (op.Constrain limit) n s p =
    operated_unmoved P k w connection req n (constrain_code s) (constrained limit) p
operates_unmoved P k w connection req op.ForceRebind n s p = operated_unmoved P k w connection req n None forced p
operates_unmoved P k w connection req op.Destroy n s p = operated_unmoved P k w connection req n None (ended destroyed) p

binds_unmoved : (P : World → Type 0) → Unlinked P → (w : World) (connection : ℕ) (b : Bind) → P w → P (binds w connection b).after
binds_unmoved P k w connection b p =
    session_rule (λ (r : Stepped). P r.after) w.sessions (session_named w connection (Some b.session)) _ _ p
    (λ n s is. cond_rule (λ (r : Stepped). P r.after) (is_alive s.life) _ _
    (λ t. found_rule (λ (r : Stepped). P r.after) (bind_code s b) _ _
    (λ x. k.links (record w { sessions = change n (rebound b.session b) w.sessions }) connection n (length s.streams + 1)
    (k.rest.sessions w (change n (rebound b.session b) w.sessions) p)) (λ code x. p)) (λ t. p))

acts_unmoved : (P : World → Type 0) → Unlinked P → (w : World) (connection : ℕ) (r : Request) → P w → P (acts w connection r).after
acts_unmoved P k w connection (request.Create c) p = creates_unmoved P k w connection c p
acts_unmoved P k w connection (request.Bind b) p = binds_unmoved P k w connection b p
acts_unmoved P k w connection (request.Control c) p =
    session_rule (λ (r : Stepped). P r.after) w.sessions (session_named w connection c.session) _
    (λ n s. cond (is_alive s.life) (operates w connection c.req c.op n s) (refuses w connection c.req 20)) p
    (λ n s is. cond_rule (λ (r : Stepped). P r.after) (is_alive s.life) _ _ (λ t. operates_unmoved P k.rest w connection c.req c.op n s p) (λ t. p))
acts_unmoved P k w connection request.Wsok p = p

malformed_unmoved : (P : World → Type 0) (w : World) (connection : ℕ) (name : List ℕ) (req : Option (List ℕ)) → P w → P (malformed w connection name req).after
malformed_unmoved P w connection name req p =
    cond_rule (λ (r : Stepped). P r.after) (is_opening name) _ _ (λ t. p) (λ t. found_rule (λ (r : Stepped). P r.after) req _ _ (λ x. p) (λ r x. p))

requests_unmoved : (P : World → Type 0) → Unlinked P → (w : World) (connection : ℕ) (l : LinkKind) (name : List ℕ) (ps : Option (List Pair))
    → P w → P (requests w connection l name ps).after
requests_unmoved P k w connection l name ps p =
    found_rule (λ (r : Stepped). P r.after) (request_over l name ps) _ (acts w connection)
    (λ x. malformed_unmoved P w connection name (option_and_then (req_behind name) ps) p) (λ r x. acts_unmoved P k w connection r p)

-- what a step itself declares
abbrev pub declared_by : World → Step → World
declared_by w (step.Set name) = record w { set = name }
declared_by w (step.Item name k fields) = record w {
  items = w.items ++ record { definition = record { name = name; kind = k; fields = fields }; history = [] }
      ∷ [];
}
declared_by w (step.Tick ms) = record w { tick = ms }
declared_by w (step.Conn name l) = connects w name l
declared_by w (step.Open name) = connects w name link.Ws
declared_by w (step.Add connection words) = w
declared_by w (step.Request connection name parameters) = w
declared_by w (step.Publish adapter seq item cells) = w
declared_by w (step.Clear adapter seq item) = w
declared_by w (step.Enqueue connection sub rank) = w
declared_by w (step.Take connection) = w
declared_by w (step.Lose connection) = w

-- what is true once a step's own declaration is made is true after the step
pub does_unmoved : (P : World → Type 0) → Unlinked P → (w : World) (s : Step) (times : ℕ) → P (declared_by w s) → P (does w s times).after
does_unmoved P k w (step.Set name) times p = p
does_unmoved P k w (step.Item name kind fields) times p = p
does_unmoved P k w (step.Tick ms) times p = k.rest.sessions (record w { tick = ms }) (map (unless_timed_out ms) w.sessions) p
does_unmoved P k w (step.Conn name l) times p = p
does_unmoved P k w (step.Open name) times p =
    creates_unmoved P k (connects w name link.Ws) (length w.connections) plain_create p
does_unmoved P k w (step.Add connection words) times p = requests_unmoved P k w connection link.Ws (codes "control") (add_pairs w.line words) p
does_unmoved P k w (step.Request connection name parameters) times p = requests_unmoved P k w connection (link_of w connection) name (form_of parameters) p
does_unmoved P k w (step.Publish adapter seq item cells) times p = publishes_unmoved P k.rest w item
    (record { adapter = adapter; seq = seq; event = Update cells }) p
does_unmoved P k w (step.Clear adapter seq item) times p = publishes_unmoved P k.rest w item (record { adapter = adapter; seq = seq; event = Clear }) p
does_unmoved P k w (step.Enqueue connection sub rank) times p = enqueues_unmoved P k.rest connection sub rank times w p
does_unmoved P k w (step.Take connection) times p = takes_unmoved P k.rest connection times w p
does_unmoved P k w (step.Lose connection) times p = loses_unmoved P k.rest w connection p
