-- Each step keeps a world's records lawful.
use Rattle.std.proofs.Common.{◌≡◌, ℕ, ◌+◌, List, [], ◌∷◌, ◌++◌, length, arith, true, subst, Option, Some, None}
use Rattle.std.proofs.Common.{IfSome, codes, nat_lt, slice_get}
use Rattle.std.specs.Prelude.{option_and_then}
use Rattle.std.proofs.lemmas.Bool.{eqb-true}
use Rattle.ls_event.specs.declared.event.Entry.{Entry}
use Rattle.ls_event.specs.declared.event.Event.{Event}
use Rattle.ls_event.specs.declared.event.Event.TheVariants.{Update, Clear}
use Rattle.ls_event.specs.Shapes.{shape_of}
use Rattle.ls_event.specs.History.{HasFields}
use Rattle.ls_event.proofs.Histories.{history_grown}
use Rattle.ls_form.specs.declared.form.Pair.{Pair}
use Rattle.ls_form.specs.Forms.{form_of}
use Rattle.ls_request.specs.declared.request.LinkKind.{LinkKind}
use Rattle.ls_request.specs.declared.request.Bind.{Bind}
use Rattle.ls_request.specs.declared.request.Create.{Create}
use Rattle.ls_request.specs.declared.request.Op.{Op}
use Rattle.ls_request.specs.declared.request.Request.{Request}
use Rattle.ls_request.specs.Requests.{req_behind}
use Rattle.ls_step.specs.declared.step.Step.{Step}
use Rattle.ls_step.specs.declared.step.Repeat.{Repeat}
use Rattle.ls_step.specs.Adding.{add_pairs}
use Rattle.ls_world.specs.World.{World, empty}
use Rattle.ls_record.specs.Records.{Item, LiveSlot, Session, history_of, change, live_at, removed, enqueued_in, least_far}
use Rattle.ls_record.specs.Records.{free_number, on_board, numbered, opened, ended, reconfigured, constrained, forced}
use Rattle.ls_record.specs.Records.{is_bound, unbound_at, unless_timed_out, rebound, grown, is_whole}
use Rattle.ls_record.specs.Acting.{free_slots, change_code, constrain_code, bind_code, destroyed, request_over}
use Rattle.ls_world.specs.Acting.{subscribed, add_code, create_code}
use Rattle.ls_world.specs.Steps.{Stepped, Once, session_of, cause_to_refuse, publishes, creates, operated, operates}
use Rattle.ls_world.specs.Steps.{session_named, acts, is_opening, malformed, requests, connects, plain_create}
use Rattle.ls_world.specs.Steps.{enqueue_once, took, take_once, epoch_of, link_of, bound, binds, loses, does}
use Rattle.ls_world.specs.Steps.{does_all}
use Rattle.ls_record.specs.Turning.{TurnGives, Send, Idle, NotDue, Spent, Ended, Superseded, Unbound, SessionTurn}
use Rattle.ls_record.specs.Turning.{session_turn}
use Rattle.ls_world.proofs.Parts.{enqueued_by}
use Rattle.ls_world.specs.Ranges.{StepInRange, HasDistinctFields, InRange}
use Rattle.ls_value.specs.Each.{Each}
use Rattle.ls_lawful.specs.Lawful.{IsSound, LawfulSession}
use Rattle.ls_world.specs.Lawful.{LawfulRecords}
use Rattle.ls_lawful.proofs.Requested.{IsOp, IsRequest, request_over_is}
use Rattle.ls_record.proofs.Rules.{found_rule, cond_rule}
use Rattle.ls_world.proofs.Rules.{session_rule, repeated_keeps}
use Rattle.ls_record.proofs.Each.{each_map, each_mapped, each_changed, each_at}
use Rattle.ls_value.proofs.Each.{each_append}
use Rattle.ls_lawful.proofs.Frame.{later_grown, later_declared, enqueue_keeps, remove_keeps, reconf_keeps}
use Rattle.ls_lawful.proofs.Sessions.{session_later, opened_lawful, constrained_lawful, ended_lawful, rebound_lawful}
use Rattle.ls_lawful.proofs.Sessions.{forced_lawful, unbound_lawful, timed_out_lawful, on_board_keeps, numbered_keeps}
use Rattle.ls_lawful.proofs.Sessions.{session_keeps}
use Rattle.ls_laws.proofs.Living.{living_rule}
use Rattle.ls_lawful.proofs.Adding.{add_lawful}
use Rattle.ls_request.specs.declared.request.LinkKind.TheVariants as link
use Rattle.ls_request.specs.declared.request.Op.TheVariants as op
use Rattle.ls_request.specs.declared.request.Request.TheVariants as request
use Rattle.ls_step.specs.declared.step.Step.TheVariants as step

-- a change of one session
pub one_changed : (w : World) (n : ℕ) (s : Session) (f : Session → Session) → slice_get w.sessions n ≡ Some s
    → (LawfulSession w.items s → LawfulSession w.items (f s)) → LawfulRecords w → LawfulRecords (record w { sessions = change n f w.sessions })
one_changed w n s f is keep l = record { items = l.items; sessions = each_changed (LawfulSession w.items) n f s w.sessions is keep l.sessions }

-- requests
lawful_operated : (w : World) (connection : ℕ) (req : List ℕ) (n : ℕ) (s : Session) (code : Option ℕ) (f : Session → Session)
    → slice_get w.sessions n ≡ Some s → (code ≡ None → LawfulSession w.items s → LawfulSession w.items (f s)) → LawfulRecords w
    → LawfulRecords (operated w connection req n code f).after
lawful_operated w connection req n s code f is keep l =
    found_rule (λ (r : Stepped). LawfulRecords r.after) code _ _ (λ none. one_changed w n s f is (keep none) l) (λ c x. l)

lawful_operates : (w : World) (connection : ℕ) (req : List ℕ) (o : Op) (n : ℕ) (s : Session) → slice_get w.sessions n ≡ Some s → IsOp o → LawfulRecords w
    → LawfulRecords (operates w connection req o n s).after
lawful_operates w connection req (op.Add a) n s is k l =
    lawful_operated w connection req n s (add_code w s a) (subscribed w a) is (λ none. add_lawful w.items (free_number w.sessions) (free_slots w.sessions) s a l.items k none) l
lawful_operates w connection req (op.Delete sub) n s is k l =
    lawful_operated w connection req n s (change_code s sub) (numbered (removed sub)) is
    (λ none. numbered_keeps w.items (removed sub) s (remove_keeps w.items sub s.board) (omega arith)) l
lawful_operates w connection req (op.Reconf sub frequency) n s is k l =
    lawful_operated w connection req n s (change_code s sub) (numbered (reconfigured sub frequency)) is
    (λ none. numbered_keeps w.items (reconfigured sub frequency) s (reconf_keeps w.items sub frequency s.board) (omega arith)) l
lawful_operates w connection req (op.Constrain limit) n s is k l =
    lawful_operated w connection req n s (constrain_code s) (constrained limit) is (λ none. constrained_lawful w.items limit s) l
lawful_operates w connection req op.ForceRebind n s is k l =
    lawful_operated w connection req n s None forced is (λ none. forced_lawful w.items s) l
lawful_operates w connection req op.Destroy n s is k l =
    lawful_operated w connection req n s None (ended destroyed) is (λ none. ended_lawful w.items destroyed s) l

lawful_creates : (w : World) (connection : ℕ) (c : Create) → LawfulRecords w → LawfulRecords (creates w connection c).after
lawful_creates w connection c l =
    found_rule (λ (r : Stepped). LawfulRecords r.after) (create_code w c) _ _
    (λ none. record {
      items = l.items;
      sessions = each_append (LawfulSession w.items) w.sessions (opened (length w.sessions + 1) c.keepalive c.bandwidth c.length ∷ []) l.sessions
          (opened_lawful w.items (length w.sessions + 1) c.keepalive c.bandwidth c.length, tt);
    })
    (λ code x. l)

lawful_binds : (w : World) (connection : ℕ) (b : Bind) → LawfulRecords w → LawfulRecords (binds w connection b).after
lawful_binds w connection b l =
    living_rule (λ (r : Stepped). LawfulRecords r.after) w.sessions (session_named w connection (Some b.session)) _ _ l
    (λ n s is living. found_rule (λ (r : Stepped). LawfulRecords r.after) (bind_code s b) _ _
    (λ none. bound_lawful n s is none) (λ code x. l))
  where
    bound_lawful : (n : ℕ) (s : Session) → slice_get w.sessions n ≡ Some s → bind_code s b ≡ None → LawfulRecords (bound w connection n s b)
    bound_lawful n s is none =
        let k : LawfulRecords (record w { sessions = change n (rebound b.session b) w.sessions }) =
        one_changed w n s (rebound b.session b) is (rebound_lawful w.items b.session s b none) l in
        record { items = k.items; sessions = k.sessions }

lawful_acts : (w : World) (connection : ℕ) (r : Request) → IsRequest r → LawfulRecords w → LawfulRecords (acts w connection r).after
lawful_acts w connection (request.Create c) k l = lawful_creates w connection c l
lawful_acts w connection (request.Bind b) k l = lawful_binds w connection b l
lawful_acts w connection (request.Control c) k l =
    living_rule (λ (r : Stepped). LawfulRecords r.after) w.sessions (session_named w connection c.session) _ (operates w connection c.req c.op) l
    (λ n s is living. lawful_operates w connection c.req c.op n s is k l)
lawful_acts w connection request.Wsok k l = l

lawful_malformed : (w : World) (connection : ℕ) (name : List ℕ) (req : Option (List ℕ)) → LawfulRecords w
    → LawfulRecords (malformed w connection name req).after
lawful_malformed w connection name req l =
    cond_rule (λ (r : Stepped). LawfulRecords r.after) (is_opening name) _ _ (λ t. l)
    (λ t. found_rule (λ (r : Stepped). LawfulRecords r.after) req _ _ (λ x. l) (λ r x. l))

lawful_requests : (w : World) (connection : ℕ) (k : LinkKind) (name : List ℕ) (ps : Option (List Pair)) → LawfulRecords w
    → LawfulRecords (requests w connection k name ps).after
lawful_requests w connection k name ps l =
    found_rule (λ (r : Stepped). LawfulRecords r.after) (request_over k name ps) _ (acts w connection)
    (λ none. lawful_malformed w connection name (option_and_then (req_behind name) ps) l)
    (λ r is. lawful_acts w connection r (subst (λ (o : Option Request). IfSome o IsRequest) is (request_over_is k name ps)) l)

-- a publish
whole_fields : (fields : ℕ) (event : Event) → is_whole fields event ≡ true → HasFields fields event
whole_fields fields (Update cells) t = eqb-true (length cells) fields t
whole_fields fields Clear t = tt

lawful_publishes : (w : World) (item : ℕ) (e : Entry) → LawfulRecords w → LawfulRecords (publishes w item e).after
lawful_publishes w item e l =
    found_rule (λ (r : Stepped). LawfulRecords r.after) (slice_get w.items item) _ _ (λ none. l)
    (λ i is. cond_rule (λ (r : Stepped). LawfulRecords r.after) (is_whole (length i.definition.fields) e.event) _ _
    (λ t. found_rule (λ (r : Stepped). LawfulRecords r.after) (cause_to_refuse w item e i) _ _
    (grows i is (whole_fields (length i.definition.fields) e.event t)) (λ cause x. l))
    (λ t. l))
  where
    grows : (i : Item) → slice_get w.items item ≡ Some i → HasFields (length i.definition.fields) e.event → cause_to_refuse w item e i ≡ None
        → LawfulRecords (record w { items = change item (grown e) w.items })
    grows i is fits none =
        record {
          items = each_changed IsSound item (grown e) i w.items is
              (λ k. record {
                shape = k.shape;
                distinct = k.distinct;
                history = history_grown (shape_of i.definition) i.history
                    (least_far item (length i.history) w.sessions) e k.history fits none;
              }) l.items;
          sessions = each_map (LawfulSession w.items) (LawfulSession (change item (grown e) w.items)) w.sessions
              (session_later w.items (change item (grown e) w.items) (later_grown w.items item e)) l.sessions;
        }

pub lawful_enqueued : (w : World) (n sub rank : ℕ) (s : Session) (o : Option LiveSlot) → slice_get w.sessions n ≡ Some s → LawfulRecords w
    → LawfulRecords (enqueued_by w n sub rank o).after
lawful_enqueued w n sub rank s None is l = l
lawful_enqueued w n sub rank s (Some v) is l =
    cond_rule (λ (r : Once). LawfulRecords r.after) (nat_lt v.slot.last (length (history_of w.items v.item))) _ _
    (λ t. one_changed w n s (on_board (enqueued_in w.items sub rank)) is (on_board_keeps w.items (enqueued_in w.items sub rank) s
    (enqueue_keeps w.items sub rank s.board) (omega arith)) l)
    (λ t. l)

pub lawful_took : (w : World) (connection n : ℕ) (old new : Session) (g : TurnGives) → slice_get w.sessions n ≡ Some old → LawfulSession w.items new
    → LawfulRecords w → LawfulRecords (took w connection n new g).after
lawful_took w connection n old new (Send text) is k l = one_changed w n old (λ x. new) is (λ x. k) l
lawful_took w connection n old new Idle is k l = one_changed w n old (λ x. new) is (λ x. k) l
lawful_took w connection n old new (NotDue tick) is k l = one_changed w n old (λ x. new) is (λ x. k) l
lawful_took w connection n old new Spent is k l = l
lawful_took w connection n old new (Superseded epoch) is k l = l
lawful_took w connection n old new Unbound is k l = l
lawful_took w connection n old new (Ended code) is k l = l

-- a loss
lawful_loses : (w : World) (connection : ℕ) → LawfulRecords w → LawfulRecords (loses w connection).after
lawful_loses w connection l =
    session_rule (λ (r : Stepped). LawfulRecords r.after) w.sessions (session_of w connection) _ _ l
    (λ n s is. cond_rule (λ (r : Stepped). LawfulRecords r.after) (nat_lt (epoch_of w connection) (length s.streams)) _ _ (λ t. l)
    (λ t. cond_rule (λ (r : Stepped). LawfulRecords r.after) (is_bound s) _ _
    (λ u. one_changed w n s (unbound_at w.tick) is (unbound_lawful w.items w.tick s) l) (λ u. l)))

-- one step, made at most so often
pub lawful_does : (w : World) (s : Step) (times : ℕ) → StepInRange s → HasDistinctFields s → LawfulRecords w → LawfulRecords (does w s times).after
lawful_does w (step.Set name) times range distinct l = record { items = l.items; sessions = l.sessions }
lawful_does w (step.Item name k fields) times range distinct l =
    let i : Item = record { definition = record { name = name; kind = k; fields = fields }; history = [] } in
    record {
      items = each_append IsSound w.items (i ∷ []) l.items (
        record { shape = range; distinct = distinct; history = record { few = omega arith; each = tt } },
        tt,
      );
      sessions = each_map (LawfulSession w.items) (LawfulSession (w.items ++ i ∷ [])) w.sessions
          (session_later w.items (w.items ++ i ∷ []) (later_declared w.items i)) l.sessions;
    }
lawful_does w (step.Tick ms) times range distinct l =
    record {
      items = l.items;
      sessions = each_mapped (LawfulSession w.items) (LawfulSession w.items) (unless_timed_out ms) w.sessions (timed_out_lawful w.items ms) l.sessions;
    }
lawful_does w (step.Conn name k) times range distinct l = record { items = l.items; sessions = l.sessions }
lawful_does w (step.Open name) times range distinct l =
    lawful_creates (connects w name link.Ws) (length w.connections) plain_create (record { items = l.items; sessions = l.sessions })
lawful_does w (step.Add connection words) times range distinct l = lawful_requests w connection link.Ws (codes "control") (add_pairs w.line words) l
lawful_does w (step.Request connection name parameters) times range distinct l = lawful_requests w connection (link_of w connection) name
    (form_of parameters) l
lawful_does w (step.Publish adapter seq item cells) times range distinct l = lawful_publishes w item
    (record { adapter = adapter; seq = seq; event = Update cells }) l
lawful_does w (step.Clear adapter seq item) times range distinct l = lawful_publishes w item (record { adapter = adapter; seq = seq; event = Clear }) l
lawful_does w (step.Enqueue connection sub rank) times range distinct l =
    repeated_keeps LawfulRecords (enqueue_once connection sub rank) times w
    (λ v k. session_rule (λ (r : Once). LawfulRecords r.after) v.sessions (session_of v connection) _
    (λ n s. enqueued_by v n sub rank (live_at sub rank s.board.round)) k
    (λ n s is. lawful_enqueued v n sub rank s (live_at sub rank s.board.round) is k)) l
lawful_does w (step.Take connection) times range distinct l =
    repeated_keeps LawfulRecords (take_once connection) times w
    (λ v k. session_rule (λ (r : Once). LawfulRecords r.after) v.sessions (session_of v connection) _
    (λ n s. let t : SessionTurn = session_turn v.tick v.items (epoch_of v connection) s in took v connection n t.session t.gives) k
    (λ n s is. let t : SessionTurn = session_turn v.tick v.items (epoch_of v connection) s in lawful_took v connection n s t.session t.gives is
    (session_keeps v.tick v.items (epoch_of v connection) s (each_at (LawfulSession v.items) n s v.sessions is k.sessions)) k)) l
lawful_does w (step.Lose connection) times range distinct l = lawful_loses w connection l

-- and steps one after another
pub lawful_does_all : (w : World) (rs : List Repeat) → Each InRange rs → LawfulRecords w → LawfulRecords (does_all w rs)
lawful_does_all w [] range l = l
lawful_does_all w (r ∷ rs) range l = lawful_does_all (does w r.step r.times).after rs range.1 (lawful_does w r.step r.times range.0.0 range.0.1 l)

pub lawful_empty : LawfulRecords empty
lawful_empty = record { items = tt; sessions = tt }
