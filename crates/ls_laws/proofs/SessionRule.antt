-- What each step keeps true of each session, by what it makes of one.
use Rattle.std.proofs.Common.{◌≡◌, ℕ, ◌+◌, List, [], ◌∷◌, ◌++◌, length, refl, true, false, Option, Some, None, codes, nat_lt, slice_get}
use Rattle.std.specs.Prelude.{option_and_then}
use Rattle.ls_event.specs.declared.event.Entry.{Entry}
use Rattle.ls_event.specs.declared.event.Event.TheVariants.{Update, Clear}
use Rattle.ls_event.specs.declared.event.Mode.{Mode}
use Rattle.ls_form.specs.declared.form.Pair.{Pair}
use Rattle.ls_form.specs.Forms.{form_of}
use Rattle.ls_request.specs.declared.request.LinkKind.{LinkKind}
use Rattle.ls_request.specs.declared.request.LinkKind.TheVariants as link
use Rattle.ls_request.specs.declared.request.Bind.{Bind}
use Rattle.ls_request.specs.declared.request.Create.{Create}
use Rattle.ls_request.specs.declared.request.Op.{Op}
use Rattle.ls_request.specs.declared.request.Op.TheVariants as op
use Rattle.ls_request.specs.declared.request.Request.{Request}
use Rattle.ls_request.specs.declared.request.Request.TheVariants as request
use Rattle.ls_request.specs.Requests.{req_behind}
use Rattle.ls_step.specs.declared.step.Step.{Step}
use Rattle.ls_step.specs.declared.step.Step.TheVariants as step
use Rattle.ls_step.specs.declared.step.Repeat.{Repeat}
use Rattle.ls_step.specs.Adding.{add_pairs}
use Rattle.ls_record.specs.Cutting.{Ask}
use Rattle.ls_record.specs.Lines.{Line, Begins, Ends, Configures, Tells}
use Rattle.ls_world.specs.World.{World}
use Rattle.ls_record.specs.Records.{Item, LiveSlot, Board, Stream, Rate, Life, Ending, Closed, Session, RoundLine}
use Rattle.ls_record.specs.Records.{history_of, change, live_at, added, removed}
use Rattle.ls_record.specs.Records.{enqueued_in, round_of, taken_in, is_due, reconfigured, constrained, trimmed}
use Rattle.ls_record.specs.Records.{on_board, numbered, on_stream, with_text}
use Rattle.ls_record.specs.Records.{given_next}
use Rattle.ls_record.specs.Records.{is_unsent, is_bound, unbound_at, opened, rebound, forced, ended, is_alive}
use Rattle.ls_record.specs.Records.{unless_timed_out}
use Rattle.ls_record.specs.Records.{definitions, free_number, keys_shown, frequency_of, are_filtered, frequency_in}
use Rattle.ls_record.specs.Records.{is_filtered, mode_in}
use Rattle.ls_record.specs.Acting.{asks_of, change_code, constrain_code, bind_code, destroyed}
use Rattle.ls_world.specs.Acting.{subscribed, add_code, create_code}
use Rattle.ls_world.specs.Steps.{Stepped, Once, session_of, epoch_of, link_of, cause_to_refuse, publishes, creates}
use Rattle.ls_world.specs.Steps.{operated, operates, session_named}
use Rattle.ls_record.specs.Records.{is_whole}
use Rattle.ls_world.specs.Steps.{binds, acts, is_opening, malformed, requests, connects, plain_create, enqueue_once}
use Rattle.ls_record.specs.Acting.{request_over}
use Rattle.ls_record.specs.Turning.{TurnGives, Send, Idle}
use Rattle.ls_record.specs.Turning.{NotDue}
use Rattle.ls_record.specs.Turning.{Spent, Superseded, Unbound, Ended, SessionTurn, end_text, gives_text, session_turn}
use Rattle.ls_world.specs.Steps.{took, take_once, loses, does, does_all}
use Rattle.ls_value.specs.Each.{Each}
use Rattle.ls_record.proofs.Each.{each_mapped, each_changed, each_at}
use Rattle.ls_value.proofs.Each.{each_append}
use Rattle.ls_record.proofs.Parts.{given_by}
use Rattle.ls_world.proofs.Parts.{enqueued_by}
use Rattle.ls_record.proofs.Rules.{found_rule, cond_rule}
use Rattle.ls_world.proofs.Rules.{session_rule, repeated_keeps}
use Rattle.ls_lawful.proofs.Counting.{with_next}
use Rattle.ls_lawful.proofs.Sessions.{turn_rule}
use Rattle.ls_laws.proofs.Living.{living_rule}

-- what is true at a tick of a new session is true after each change of it that a step makes: of its board, which takes no line away, of what is given
-- up and given, of its newest stream, of what is owed, of its rate and its life, by a bind, and at a tick
pub record KeptSession (P : ℕ → Session → Type 0) : Type 0 where
  pub opens : (now number keepalive : ℕ) (limit content : Option ℕ) → P now (opened number keepalive limit content)
  pub boards : (now : ℕ) (s : Session) (b : Board) (more : List Line) → b.lines ≡ more ++ s.board.lines → P now s → P now (record s { board = b })
  pub trims : (now : ℕ) (s : Session) → P now s → P now (trimmed s)
  pub gives : (now : ℕ) (s : Session) → is_unsent s ≡ true → P now s → P now (with_next s)
  pub streams : (now : ℕ) (s : Session) (f : Stream → Stream) → ((t : Stream) → (f t).from ≡ t.from) → ((t : Stream) → (f t).given ≡ t.given)
      → P now s → P now (on_stream f s)
  pub owes : (now : ℕ) (s : Session) (owed : List (List ℕ)) → P now s → P now (record s { owed = owed })
  pub rates : (now : ℕ) (s : Session) (r : Rate) → P now s → P now (record s { rate = r })
  pub unbinds : (now : ℕ) (s : Session) → P now s → P now (unbound_at now s)
  pub ends : (now : ℕ) (s : Session) (life : Life) → is_alive life ≡ false → P now s → P now (record s { life = life })
  pub binds : (now number : ℕ) (s : Session) (b : Bind) → bind_code s b ≡ None → P now s → P now (rebound number b s)
  pub ticks : (now later : ℕ) (s : Session) → P now s → P later (unless_timed_out later s)

-- it is true of each session of a world
abbrev pub OfSessions : (ℕ → Session → Type 0) → World → Type 0
OfSessions P w = Each (P w.tick) w.sessions

module _ (P : ℕ → Session → Type 0) (k : KeptSession P) where
  of_changed : (w : World) (n : ℕ) (s : Session) (f : Session → Session) → slice_get w.sessions n ≡ Some s → (P w.tick s → P w.tick (f s)) → OfSessions P w
      → OfSessions P (record w { sessions = change n f w.sessions })
  of_changed w n s f is keep e = each_changed (P w.tick) n f s w.sessions is keep e

  -- lines are numbered
  of_numbered : (now : ℕ) (f : Board → Board) (s : Session) (more : List Line) → (f s.board).lines ≡ more ++ s.board.lines → P now s → P now (numbered f s)
  of_numbered now f s more is p = k.trims now (on_board f s) (k.boards now s (f s.board) more is p)

  -- the lines that a round gives
  of_given : (now : ℕ) (b : Board) (kept : List LiveSlot) (o : Option RoundLine) → (more : List Line) × ((given_by now b kept o).lines ≡ more ++ b.lines)
  of_given now b kept None = ([], refl)
  of_given now b kept (Some t) = (Tells t.live.sub t.live.rank now t.came ∷ [], refl)

  of_taken : (now : ℕ) (items : List Item) (s : Session)
      → (more : List Line) × ((taken_in (is_due now s) now items s.board).lines ≡ more ++ s.board.lines)
  of_taken now items s =
      of_given now s.board (round_of (is_due now s) items s.board.lines s.board.round).kept
      (round_of (is_due now s) items s.board.lines s.board.round).came

  of_next : (now : ℕ) (s : Session) → P now s → P now (given_next s)
  of_next now s p = cond_rule (P now) (is_unsent s) (trimmed (with_next s)) s (λ t. k.trims now (with_next s) (k.gives now s t p)) (λ t. p)

  of_text : (now : ℕ) (text : List ℕ) (s : Session) → P now s → P now (gives_text text s).session
  of_text now text s p = k.streams now s (with_text text) (λ t. refl) (λ t. refl) p

  of_turned : (now : ℕ) (items : List Item) (epoch : ℕ) (s : Session) → P now s → P now (session_turn now items epoch s).session
  of_turned now items epoch s p =
      let m = of_taken now items s in
      turn_rule (λ (t : SessionTurn). P now t.session) now items epoch s (record {
        superseded = p;
        unbound = p;
        owes = λ text owed. of_text now text (record s { owed = owed }) (k.owes now s owed p);
        loops = k.unbinds now s p;
        next = of_next now s p;
        spent = p;
        waits = λ none. k.boards now s (taken_in (is_due now s) now items s.board) m.0 m.1 p;
        tells = λ t some. of_next now (numbered (taken_in (is_due now s) now items) s) (of_numbered now (taken_in (is_due now s) now items) s m.0 m.1 p);
        ending = λ code. of_text now (end_text code) (record s { life = Closed code }) (k.ends now s (Closed code) refl p);
        over = λ code. p;
      })

  of_ended : (now code : ℕ) (s : Session) → P now s → P now (ended code s)
  of_ended now code s p =
      let b : Board = record s.board { round = [] } in
      k.ends now (record s { board = b }) (Ending code) refl (k.boards now s b [] refl p)

  -- requests
  of_operated : (w : World) (connection : ℕ) (req : List ℕ) (n : ℕ) (s : Session) (code : Option ℕ) (f : Session → Session) → slice_get w.sessions n ≡ Some s
      → (P w.tick s → P w.tick (f s)) → OfSessions P w → OfSessions P (operated w connection req n code f).after
  of_operated w connection req n s code f is keep e =
      found_rule (λ (x : Stepped). OfSessions P x.after) code _ _ (λ none. of_changed w n s f is keep e) (λ c x. e)

  of_operates : (w : World) (connection : ℕ) (req : List ℕ) (o : Op) (n : ℕ) (s : Session) → slice_get w.sessions n ≡ Some s → OfSessions P w
      → OfSessions P (operates w connection req o n s).after
  of_operates w connection req (op.Add a) n s is e =
      let asks : List Ask = asks_of (definitions w.items) a in
      let f : Board → Board = added w.items (free_number w.sessions) a.sub (length a.schema) asks in
      let begins : Line = Begins a.sub (length asks) (length a.schema) (keys_shown w.items asks) in
      let tells : Line = Configures a.sub (frequency_of asks) (are_filtered asks) in
      of_operated w connection req n s (add_code w s a) (subscribed w a) is (of_numbered w.tick f s (tells ∷ begins ∷ []) refl) e
  of_operates w connection req (op.Delete sub) n s is e =
      of_operated w connection req n s (change_code s sub) (numbered (removed sub)) is (of_numbered w.tick (removed sub) s (Ends sub ∷ []) refl) e
  of_operates w connection req (op.Reconf sub frequency) n s is e =
      let m : Mode = mode_in sub s.board.round in
      let tells : Line = Configures sub (frequency_in m frequency) (is_filtered m) in
      of_operated w connection req n s (change_code s sub) (numbered (reconfigured sub frequency)) is
      (of_numbered w.tick (reconfigured sub frequency) s (tells ∷ []) refl) e
  of_operates w connection req (op.Constrain limit) n s is e =
      of_operated w connection req n s (constrain_code s) (constrained limit) is
      (λ p. k.owes w.tick (record s { rate = (constrained limit s).rate }) (constrained limit s).owed (k.rates w.tick s (constrained limit s).rate p)) e
  of_operates w connection req op.ForceRebind n s is e =
      of_operated w connection req n s None forced is (k.streams w.tick s (λ t. record t { forced = true }) (λ t. refl) (λ t. refl)) e
  of_operates w connection req op.Destroy n s is e =
      of_operated w connection req n s None (ended destroyed) is (of_ended w.tick destroyed s) e

  of_creates : (w : World) (connection : ℕ) (c : Create) → OfSessions P w → OfSessions P (creates w connection c).after
  of_creates w connection c e =
      found_rule (λ (x : Stepped). OfSessions P x.after) (create_code w c) _ _
      (λ none. each_append (P w.tick) w.sessions (opened (length w.sessions + 1) c.keepalive c.bandwidth c.length ∷ []) e
      (k.opens w.tick (length w.sessions + 1) c.keepalive c.bandwidth c.length, tt)) (λ code x. e)

  of_binds : (w : World) (connection : ℕ) (b : Bind) → OfSessions P w → OfSessions P (binds w connection b).after
  of_binds w connection b e =
      living_rule (λ (x : Stepped). OfSessions P x.after) w.sessions (session_named w connection (Some b.session)) _ _ e
      (λ n s is living. found_rule (λ (x : Stepped). OfSessions P x.after) (bind_code s b) _ _
      (λ none. of_changed w n s (rebound b.session b) is (k.binds w.tick b.session s b none) e) (λ code x. e))

  of_acts : (w : World) (connection : ℕ) (r : Request) → OfSessions P w → OfSessions P (acts w connection r).after
  of_acts w connection (request.Create c) e = of_creates w connection c e
  of_acts w connection (request.Bind b) e = of_binds w connection b e
  of_acts w connection (request.Control c) e =
      living_rule (λ (x : Stepped). OfSessions P x.after) w.sessions (session_named w connection c.session) _ (operates w connection c.req c.op) e
      (λ n s is living. of_operates w connection c.req c.op n s is e)
  of_acts w connection request.Wsok e = e

  of_malformed : (w : World) (connection : ℕ) (name : List ℕ) (req : Option (List ℕ)) → OfSessions P w → OfSessions P (malformed w connection name req).after
  of_malformed w connection name req e =
      cond_rule (λ (x : Stepped). OfSessions P x.after) (is_opening name) _ _ (λ t. e)
      (λ t. found_rule (λ (x : Stepped). OfSessions P x.after) req _ _ (λ x. e) (λ r x. e))

  of_requests : (w : World) (connection : ℕ) (l : LinkKind) (name : List ℕ) (ps : Option (List Pair)) → OfSessions P w
      → OfSessions P (requests w connection l name ps).after
  of_requests w connection l name ps e =
      found_rule (λ (x : Stepped). OfSessions P x.after) (request_over l name ps) _ (acts w connection)
      (λ none. of_malformed w connection name (option_and_then (req_behind name) ps) e) (λ r is. of_acts w connection r e)

  -- a publish changes no session
  of_publishes : (w : World) (item : ℕ) (x : Entry) → OfSessions P w → OfSessions P (publishes w item x).after
  of_publishes w item x e =
      found_rule (λ (y : Stepped). OfSessions P y.after) (slice_get w.items item) _ _ (λ none. e)
      (λ i is. cond_rule (λ (y : Stepped). OfSessions P y.after) (is_whole (length i.definition.fields) x.event) _ _
      (λ whole. found_rule (λ (y : Stepped). OfSessions P y.after) (cause_to_refuse w item x i) _ _ (λ none. e) (λ cause y. e)) (λ part. e))

  -- enqueues, turns and losses
  of_enqueued : (w : World) (n sub rank : ℕ) (s : Session) (o : Option LiveSlot) → slice_get w.sessions n ≡ Some s → OfSessions P w
      → OfSessions P (enqueued_by w n sub rank o).after
  of_enqueued w n sub rank s None is e = e
  of_enqueued w n sub rank s (Some v) is e =
      cond_rule (λ (x : Once). OfSessions P x.after) (nat_lt v.slot.last (length (history_of w.items v.item))) _ _
      (λ t. of_changed w n s (on_board (enqueued_in w.items sub rank)) is (k.boards w.tick s (enqueued_in w.items sub rank s.board) [] refl) e) (λ t. e)

  of_took : (w : World) (connection n : ℕ) (old new : Session) (g : TurnGives) → slice_get w.sessions n ≡ Some old → P w.tick new → OfSessions P w
      → OfSessions P (took w connection n new g).after
  of_took w connection n old new (Send text) is p e = of_changed w n old (λ x. new) is (λ x. p) e
  of_took w connection n old new Idle is p e = of_changed w n old (λ x. new) is (λ x. p) e
  of_took w connection n old new (NotDue tick) is p e = of_changed w n old (λ x. new) is (λ x. p) e
  of_took w connection n old new Spent is p e = e
  of_took w connection n old new (Superseded epoch) is p e = e
  of_took w connection n old new Unbound is p e = e
  of_took w connection n old new (Ended code) is p e = e

  of_loses : (w : World) (connection : ℕ) → OfSessions P w → OfSessions P (loses w connection).after
  of_loses w connection e =
      session_rule (λ (x : Stepped). OfSessions P x.after) w.sessions (session_of w connection) _ _ e
      (λ n s is. cond_rule (λ (x : Stepped). OfSessions P x.after) (nat_lt (epoch_of w connection) (length s.streams)) _ _ (λ t. e)
      (λ t. cond_rule (λ (x : Stepped). OfSessions P x.after) (is_bound s) _ _ (λ u. of_changed w n s (unbound_at w.tick) is (k.unbinds w.tick s) e) (λ u. e)))

  pub sessions_does : (w : World) (s : Step) (times : ℕ) → OfSessions P w → OfSessions P (does w s times).after
  sessions_does w (step.Set name) times e = e
  sessions_does w (step.Item name kind fields) times e = e
  sessions_does w (step.Tick ms) times e = each_mapped (P w.tick) (P ms) (unless_timed_out ms) w.sessions (k.ticks w.tick ms) e
  sessions_does w (step.Conn name l) times e = e
  sessions_does w (step.Open name) times e = of_creates (connects w name link.Ws) (length w.connections) plain_create e
  sessions_does w (step.Add connection words) times e = of_requests w connection link.Ws (codes "control") (add_pairs w.line words) e
  sessions_does w (step.Request connection name parameters) times e = of_requests w connection (link_of w connection) name (form_of parameters) e
  sessions_does w (step.Publish adapter seq item cells) times e = of_publishes w item (record { adapter = adapter; seq = seq; event = Update cells }) e
  sessions_does w (step.Clear adapter seq item) times e = of_publishes w item (record { adapter = adapter; seq = seq; event = Clear }) e
  sessions_does w (step.Enqueue connection sub rank) times e =
      repeated_keeps (OfSessions P) (enqueue_once connection sub rank) times w
      (λ v q. session_rule (λ (x : Once). OfSessions P x.after) v.sessions (session_of v connection) _
      (λ n s. enqueued_by v n sub rank (live_at sub rank s.board.round)) q
      (λ n s is. of_enqueued v n sub rank s (live_at sub rank s.board.round) is q)) e
  sessions_does w (step.Take connection) times e =
      repeated_keeps (OfSessions P) (take_once connection) times w
      (λ v q. session_rule (λ (x : Once). OfSessions P x.after) v.sessions (session_of v connection) _
      (λ n s. let t : SessionTurn = session_turn v.tick v.items (epoch_of v connection) s in took v connection n t.session t.gives) q
      (λ n s is. let t : SessionTurn = session_turn v.tick v.items (epoch_of v connection) s in of_took v connection n s t.session t.gives is
      (of_turned v.tick v.items (epoch_of v connection) s (each_at (P v.tick) n s v.sessions is q)) q)) e
  sessions_does w (step.Lose connection) times e = of_loses w connection e

  -- and steps one after another
  pub sessions_do : (w : World) (rs : List Repeat) → OfSessions P w → OfSessions P (does_all w rs)
  sessions_do w [] e = e
  sessions_do w (r ∷ rs) e = sessions_do (does w r.step r.times).after rs (sessions_does w r.step r.times e)
