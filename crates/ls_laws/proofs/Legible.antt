-- Each step whose parts are in their ranges keeps a world legible: a client decodes what its lines tell.
use Rattle.std.proofs.Common.{◌≡◌, ℕ, ◌+◌, List, [], ◌∷◌, length, subst, Option, Some, None, IfSome, nat_lt}
use Rattle.std.proofs.Common.{slice_get, codes}
use Rattle.std.specs.Prelude.{option_and_then}
use Rattle.ls_event.specs.declared.event.Entry.{Entry}
use Rattle.ls_event.specs.declared.event.Event.TheVariants.{Update, Clear}
use Rattle.ls_form.specs.declared.form.Pair.{Pair}
use Rattle.ls_form.specs.Forms.{form_of}
use Rattle.ls_request.specs.declared.request.LinkKind.{LinkKind}
use Rattle.ls_request.specs.declared.request.Bind.{Bind}
use Rattle.ls_request.specs.declared.request.Create.{Create}
use Rattle.ls_request.specs.declared.request.Op.{Op}
use Rattle.ls_request.specs.declared.request.Request.{Request}
use Rattle.ls_request.specs.Requests.{req_behind}
use Rattle.ls_step.specs.declared.step.Step.{Step}
use Rattle.ls_step.specs.declared.step.Repeat.{Repeat}
use Rattle.ls_step.specs.Adding.{add_pairs}
use Rattle.ls_world.specs.World.{World, empty}
use Rattle.ls_record.specs.Records.{Item, LiveSlot, Session, history_of, change, live_at, removed, enqueue_at}
use Rattle.ls_record.specs.Records.{enqueued_in, free_number, on_board, opened, numbered, forced, rebound, is_bound}
use Rattle.ls_record.specs.Records.{unbound_at, ended, reconfigured, constrained, is_due, grown, is_whole}
use Rattle.ls_record.specs.Acting.{free_slots, change_code, constrain_code, bind_code, destroyed, request_over}
use Rattle.ls_world.specs.Acting.{subscribed, add_code, create_code}
use Rattle.ls_world.specs.Steps.{Stepped, Once, repeated, session_of, cause_to_refuse, publishes, creates, operated}
use Rattle.ls_world.specs.Steps.{operates, session_named, acts, is_opening, malformed, requests, connects}
use Rattle.ls_world.specs.Steps.{plain_create, enqueue_once, epoch_of, link_of, binds, loses, took, take_once, does}
use Rattle.ls_world.specs.Steps.{does_all}
use Rattle.ls_record.specs.Turning.{SessionTurn, TurnGives, Send, Idle, NotDue, Spent, Superseded, Unbound, Ended}
use Rattle.ls_record.specs.Turning.{session_turn}
use Rattle.ls_world.proofs.Parts.{enqueued_by}
use Rattle.ls_world.specs.Script.{with_line_read}
use Rattle.ls_value.specs.Each.{Each}
use Rattle.ls_lawful.specs.Lawful.{LawfulSession, ClientsDecode}
use Rattle.ls_world.specs.Lawful.{LawfulRecords, Lawful}
use Rattle.ls_world.specs.Ranges.{StepInRange, HasDistinctFields, InRange}
use Rattle.ls_record.proofs.Each.{each_map, each_mapped, each_changed, each_both, each_at}
use Rattle.ls_value.proofs.Each.{each_append}
use Rattle.ls_lawful.proofs.Asked.{asked_is}
use Rattle.ls_lawful.proofs.Requested.{IsOp, IsRequest, request_over_is}
use Rattle.ls_event.specs.Textual.{Textual, TextualEvent}
use Rattle.ls_record.proofs.Rules.{found_rule, cond_rule}
use Rattle.ls_world.proofs.Rules.{session_rule, repeated_keeps}
use Rattle.ls_laws.proofs.Laws.{lawful_does, lawful_enqueued, lawful_took, lawful_empty}
use Rattle.ls_lawful.proofs.Sessions.{session_keeps}
use Rattle.ls_laws.proofs.Living.{living_rule}
use Rattle.ls_laws.proofs.BoardRule.{OfEach}
use Rattle.ls_laws.proofs.NoOutcomes.{NoOutcome, none_does_all}
use Rattle.ls_lawful.proofs.Legible.{LegibleBoard, legible_added, legible_removed, legible_reconfigured}
use Rattle.ls_lawful.proofs.Legible.{textual_grown, Shown, shown_enqueued, legible_taken, turned_board}
use Rattle.ls_lawful.proofs.Legible.{legible_ticked, decoded}
use Rattle.ls_lawful.proofs.Heard.{HasNoOutcome}
use Rattle.ls_request.specs.declared.request.LinkKind.TheVariants as link
use Rattle.ls_request.specs.declared.request.Op.TheVariants as op
use Rattle.ls_request.specs.declared.request.Request.TheVariants as request
use Rattle.ls_step.specs.declared.step.Step.TheVariants as step

pub record Legible (w : World) : Type 0 where
  items : Each (λ (i : Item). Textual i.history) w.items
  sessions : Each (λ (s : Session). LegibleBoard s.board) w.sessions

pub record Both (w : World) : Type 0 where
  pub records : LawfulRecords w
  pub legible : Legible w

-- a change of one session's board
board_changed : (w : World) (n : ℕ) (s : Session) (f : Session → Session) → slice_get w.sessions n ≡ Some s → (LegibleBoard s.board → LegibleBoard (f s).board)
    → Legible w → Legible (record w { sessions = change n f w.sessions })
board_changed w n s f is keep l =
    record { items = l.items; sessions = each_changed (λ (t : Session). LegibleBoard t.board) n f s w.sessions is keep l.sessions }

-- requests
legible_operated : (w : World) (connection : ℕ) (req : List ℕ) (n : ℕ) (s : Session) (code : Option ℕ) (f : Session → Session)
    → slice_get w.sessions n ≡ Some s → (code ≡ None → LegibleBoard s.board → LegibleBoard (f s).board) → Legible w
    → Legible (operated w connection req n code f).after
legible_operated w connection req n s code f is keep l =
    found_rule (λ (x : Stepped). Legible x.after) code _ _ (λ none. board_changed w n s f is (keep none) l) (λ c x. l)

legible_operates : (w : World) (connection : ℕ) (req : List ℕ) (o : Op) (n : ℕ) (s : Session) → slice_get w.sessions n ≡ Some s → IsOp o → Legible w
    → Legible (operates w connection req o n s).after
legible_operates w connection req (op.Add a) n s is range l =
    legible_operated w connection req n s (add_code w s a) (subscribed w a) is
    (λ none. legible_added w.items (free_slots w.sessions) s a (free_number w.sessions) range (asked_is w.items (free_slots w.sessions) s a none)) l
legible_operates w connection req (op.Delete sub) n s is range l =
    legible_operated w connection req n s (change_code s sub) (numbered (removed sub)) is
    (λ none. legible_removed sub s.board (record { some = range.0; most = range.1 })) l
legible_operates w connection req (op.Reconf sub frequency) n s is range l =
    legible_operated w connection req n s (change_code s sub) (numbered (reconfigured sub frequency)) is
    (λ none. legible_reconfigured sub frequency s.board (record { some = range.0; most = range.1 })) l
legible_operates w connection req (op.Constrain limit) n s is range l =
    legible_operated w connection req n s (constrain_code s) (constrained limit) is (λ none b. b) l
legible_operates w connection req op.ForceRebind n s is range l =
    legible_operated w connection req n s None forced is (λ none b. b) l
legible_operates w connection req op.Destroy n s is range l =
    legible_operated w connection req n s None (ended destroyed) is (λ none b. record { lines = b.lines; slots = tt }) l

legible_creates : (w : World) (connection : ℕ) (c : Create) → Legible w → Legible (creates w connection c).after
legible_creates w connection c l =
    found_rule (λ (x : Stepped). Legible x.after) (create_code w c) _ _
    (λ none. record {
      items = l.items;
      sessions = each_append (λ (s : Session). LegibleBoard s.board) w.sessions
          (opened (length w.sessions + 1) c.keepalive c.bandwidth c.length ∷ []) l.sessions (record { lines = tt; slots = tt }, tt);
    })
    (λ code x. l)

legible_binds : (w : World) (connection : ℕ) (b : Bind) → Legible w → Legible (binds w connection b).after
legible_binds w connection b l =
    living_rule (λ (x : Stepped). Legible x.after) w.sessions (session_named w connection (Some b.session)) _ _ l
    (λ n s is living. found_rule (λ (x : Stepped). Legible x.after) (bind_code s b) _ _
    (λ none. let k : Legible (record w { sessions = change n (rebound b.session b) w.sessions }) =
    board_changed w n s (rebound b.session b) is (λ k. k) l in record { items = k.items; sessions = k.sessions }) (λ code x. l))

legible_acts : (w : World) (connection : ℕ) (r : Request) → IsRequest r → Legible w → Legible (acts w connection r).after
legible_acts w connection (request.Create c) range l = legible_creates w connection c l
legible_acts w connection (request.Bind b) range l = legible_binds w connection b l
legible_acts w connection (request.Control c) range l =
    living_rule (λ (x : Stepped). Legible x.after) w.sessions (session_named w connection c.session) _ (operates w connection c.req c.op) l
    (λ n s is living. legible_operates w connection c.req c.op n s is range l)
legible_acts w connection request.Wsok range l = l

legible_malformed : (w : World) (connection : ℕ) (name : List ℕ) (req : Option (List ℕ)) → Legible w → Legible (malformed w connection name req).after
legible_malformed w connection name req l =
    cond_rule (λ (x : Stepped). Legible x.after) (is_opening name) _ _ (λ t. l) (λ t. found_rule (λ (x : Stepped). Legible x.after) req _ _ (λ e. l) (λ r e. l))

legible_requests : (w : World) (connection : ℕ) (k : LinkKind) (name : List ℕ) (ps : Option (List Pair)) → Legible w
    → Legible (requests w connection k name ps).after
legible_requests w connection k name ps l =
    found_rule (λ (x : Stepped). Legible x.after) (request_over k name ps) _ (acts w connection)
    (λ none. legible_malformed w connection name (option_and_then (req_behind name) ps) l)
    (λ r is. legible_acts w connection r (subst (λ (o : Option Request). IfSome o IsRequest) is (request_over_is k name ps)) l)

legible_publishes : (w : World) (item : ℕ) (e : Entry) → TextualEvent e.event → Legible w → Legible (publishes w item e).after
legible_publishes w item e t l =
    found_rule (λ (x : Stepped). Legible x.after) (slice_get w.items item) _ _ (λ none. l)
    (λ i is. cond_rule (λ (x : Stepped). Legible x.after) (is_whole (length i.definition.fields) e.event) _ _
    (λ whole. found_rule (λ (x : Stepped). Legible x.after) (cause_to_refuse w item e i) _ _
    (λ none. record {
      items = each_changed (λ (j : Item). Textual j.history) item (grown e) i w.items is (textual_grown i.history e t) l.items;
      sessions =
          l.sessions;
    })
    (λ cause y. l))
    (λ part. l))

legible_enqueued : (w : World) (n sub rank : ℕ) (s : Session) (o : Option LiveSlot) → slice_get w.sessions n ≡ Some s → Legible w
    → Legible (enqueued_by w n sub rank o).after
legible_enqueued w n sub rank s None is l = l
legible_enqueued w n sub rank s (Some v) is l =
    cond_rule (λ (x : Once). Legible x.after) (nat_lt v.slot.last (length (history_of w.items v.item))) _ _
    (λ t. board_changed w n s (on_board (enqueued_in w.items sub rank)) is
    (λ b. record {
      lines = b.lines;
      slots = each_mapped (Shown s.board.lines) (Shown s.board.lines) (enqueue_at w.items sub rank) s.board.round
          (shown_enqueued w.items s.board.lines sub rank) b.slots;
    }) l)
    (λ t. l)

legible_took : (w : World) (connection n : ℕ) (old new : Session) (g : TurnGives) → slice_get w.sessions n ≡ Some old → LegibleBoard new.board → Legible w
    → Legible (took w connection n new g).after
legible_took w connection n old new (Send text) is k l = board_changed w n old (λ x. new) is (λ x. k) l
legible_took w connection n old new Idle is k l = board_changed w n old (λ x. new) is (λ x. k) l
legible_took w connection n old new (NotDue tick) is k l = board_changed w n old (λ x. new) is (λ x. k) l
legible_took w connection n old new Spent is k l = l
legible_took w connection n old new (Superseded epoch) is k l = l
legible_took w connection n old new Unbound is k l = l
legible_took w connection n old new (Ended code) is k l = l

-- a loss, and a tick at which sessions time out
legible_loses : (w : World) (connection : ℕ) → Legible w → Legible (loses w connection).after
legible_loses w connection l =
    session_rule (λ (x : Stepped). Legible x.after) w.sessions (session_of w connection) _ _ l
    (λ n s is. cond_rule (λ (x : Stepped). Legible x.after) (nat_lt (epoch_of w connection) (length s.streams)) _ _ (λ t. l)
    (λ t. cond_rule (λ (x : Stepped). Legible x.after) (is_bound s) _ _ (λ u. board_changed w n s (unbound_at w.tick) is (λ k. k) l) (λ u. l)))

pub both_enqueued_once : (connection sub rank : ℕ) (v : World) → Both v → Both (enqueue_once connection sub rank v).after
both_enqueued_once connection sub rank v k =
    session_rule (λ (x : Once). Both x.after) v.sessions (session_of v connection) _ (λ n s. enqueued_by v n sub rank (live_at sub rank s.board.round)) k
    (λ n s is. record {
      records = lawful_enqueued v n sub rank s (live_at sub rank s.board.round) is k.records;
      legible = legible_enqueued v n sub rank s (live_at sub rank s.board.round) is k.legible;
    })

both_enqueued : (connection sub rank times : ℕ) (w : World) → Both w → Both (repeated (enqueue_once connection sub rank) times w).after
both_enqueued connection sub rank times w b =
    repeated_keeps Both (enqueue_once connection sub rank) times w (both_enqueued_once connection sub rank) b

took_both : (v : World) (connection epoch n : ℕ) (s : Session) → slice_get v.sessions n ≡ Some s → Both v
    → Both (took v connection n (session_turn v.tick v.items epoch s).session (session_turn v.tick v.items epoch s).gives).after
took_both v connection epoch n s is k =
    let t : SessionTurn = session_turn v.tick v.items epoch s in
    let lawful = each_at (LawfulSession v.items) n s v.sessions is k.records.sessions in
    let board = each_at (λ (t : Session). LegibleBoard t.board) n s v.sessions is k.legible.sessions in
    record {
      records = lawful_took v connection n s t.session t.gives is (session_keeps v.tick v.items epoch s lawful) k.records;
      legible = legible_took v connection n s t.session t.gives is (turned_board LegibleBoard v.tick v.items epoch s board
          (legible_taken (is_due v.tick s) v.tick v.items s.board k.records.items k.legible.items lawful.board board)) k.legible;
    }

pub both_taken_once : (connection : ℕ) (v : World) → Both v → Both (take_once connection v).after
both_taken_once connection v k =
    session_rule (λ (x : Once). Both x.after) v.sessions (session_of v connection) _
    (λ n s. let t : SessionTurn = session_turn v.tick v.items (epoch_of v connection) s in took v connection n t.session t.gives) k
    (λ n s is. took_both v connection (epoch_of v connection) n s is k)

both_taken : (connection times : ℕ) (w : World) → Both w → Both (repeated (take_once connection) times w).after
both_taken connection times w b = repeated_keeps Both (take_once connection) times w (both_taken_once connection) b

-- a step
legible_does : (w : World) (s : Step) (times : ℕ) → StepInRange s → Both w → Legible (does w s times).after
legible_does w (step.Set name) times r b = record { items = b.legible.items; sessions = b.legible.sessions }
legible_does w (step.Item name k fields) times r b =
    record {
      items =
          each_append (λ (i : Item). Textual i.history) w.items (record { definition = record { name = name; kind = k; fields = fields }; history = [] } ∷ [])
          b.legible.items (tt, tt);
      sessions = b.legible.sessions;
    }
legible_does w (step.Tick ms) times r b = record { items = b.legible.items; sessions = legible_ticked ms w.sessions b.legible.sessions }
legible_does w (step.Conn name l) times r b = record { items = b.legible.items; sessions = b.legible.sessions }
legible_does w (step.Open name) times r b =
    legible_creates (connects w name link.Ws) (length w.connections) plain_create (record { items = b.legible.items; sessions = b.legible.sessions })
legible_does w (step.Add connection words) times r b = legible_requests w connection link.Ws (codes "control") (add_pairs w.line words) b.legible
legible_does w (step.Request connection name parameters) times r b = legible_requests w connection (link_of w connection) name (form_of parameters) b.legible
legible_does w (step.Publish adapter seq item cells) times r b = legible_publishes w item (record { adapter = adapter; seq = seq; event = Update cells }) r
    b.legible
legible_does w (step.Clear adapter seq item) times r b = legible_publishes w item (record { adapter = adapter; seq = seq; event = Clear }) tt b.legible
legible_does w (step.Enqueue connection sub rank) times r b = (both_enqueued connection sub rank times w b).legible
legible_does w (step.Take connection) times r b = (both_taken connection times w b).legible
legible_does w (step.Lose connection) times r b = legible_loses w connection b.legible

pub both_does : (w : World) (s : Step) (times : ℕ) → StepInRange s → HasDistinctFields s → Both w → Both (does w s times).after
both_does w s times r d b = record { records = lawful_does w s times r d b.records; legible = legible_does w s times r b }

-- one line more of a script
pub both_counted : (w : World) → Both w → Both (with_line_read w)
both_counted w b = record {
  records = record { items = b.records.items; sessions = b.records.sessions };
  legible =
      record { items = b.legible.items; sessions = b.legible.sessions };
}

pub both_empty : Both empty
both_empty = record { records = lawful_empty; legible = record { items = tt; sessions = tt } }

pub lawful_both : (w : World) → Both w → OfEach NoOutcome w → Lawful w
lawful_both w b none =
    record {
      records = b.records;
      clients = each_map (λ (s : Session). LawfulSession w.items s × (LegibleBoard s.board × HasNoOutcome s.board.lines)) (ClientsDecode w.items) w.sessions
          (λ s x. decoded w.items s b.records.items x.0 x.1.0 x.1.1)
          (each_both (LawfulSession w.items) (λ (s : Session). LegibleBoard s.board × HasNoOutcome s.board.lines) w.sessions b.records.sessions
          (each_both (λ (s : Session). LegibleBoard s.board) (λ (s : Session). HasNoOutcome s.board.lines) w.sessions b.legible.sessions none));
    }

-- any steps in their ranges
pub both_does_all : (w : World) (repeats : List Repeat) → Each InRange repeats → Both w → Both (does_all w repeats)
both_does_all w [] r b = b
both_does_all w (x ∷ repeats) r b = both_does_all (does w x.step x.times).after repeats r.1 (both_does w x.step x.times r.0.0 r.0.1 b)

pub lawful_steps : (repeats : List Repeat) → Each InRange repeats → Lawful (does_all empty repeats)
lawful_steps repeats r =
    lawful_both (does_all empty repeats) (both_does_all empty repeats r both_empty) (none_does_all empty repeats tt)
