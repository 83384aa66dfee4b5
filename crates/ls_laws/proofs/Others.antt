-- What a step leaves of a world: it changes one session, the one that it means.
use Rattle.std.proofs.Common.{◌≡◌, ◌==◌, ◌⊎◌, inl, inr, ℕ, zero, suc, ◌+◌, ◌<◌, List, [], ◌∷◌, ◌++◌, length, refl, sym, ◌∙◌, ap, arith}
use Rattle.std.proofs.Common.{true, false, Option, Some, None, map, nat_lt, slice_get, codes, option_map}
use Rattle.std.specs.Prelude.{option_and_then}
use Rattle.std.specs.Option.{option_map_or}
use Rattle.std.proofs.lemmas.Bool.{eq-eqb}
use Rattle.std.proofs.lemmas.Option.{slice_get_within}
use Rattle.std.proofs.lemmas.List.{length-append, length-map}
use Rattle.ls_event.specs.declared.event.Entry.{Entry}
use Rattle.ls_event.specs.declared.event.Event.TheVariants.{Update, Clear}
use Rattle.ls_form.specs.declared.form.Pair.{Pair}
use Rattle.ls_form.specs.Forms.{form_of}
use Rattle.ls_request.specs.declared.request.LinkKind.{LinkKind}
use Rattle.ls_request.specs.declared.request.LinkKind.TheVariants as link
use Rattle.ls_request.specs.declared.request.Bind.{Bind}
use Rattle.ls_request.specs.declared.request.Create.{Create}
use Rattle.ls_request.specs.declared.request.Op.{Op}
use Rattle.ls_request.specs.declared.request.Op.TheVariants as op
use Rattle.ls_request.specs.declared.request.Request.{Request}
use Rattle.ls_request.specs.declared.request.Request.TheVariants as request
use Rattle.ls_request.specs.Requests.{req_behind}
use Rattle.ls_step.specs.declared.step.Step.{Step}
use Rattle.ls_step.specs.declared.step.Step.TheVariants as step
use Rattle.ls_step.specs.Adding.{add_pairs}
use Rattle.ls_world.specs.World.{World, Connection}
use Rattle.ls_record.specs.Records.{Session, history_of, change, live_at, enqueued_in, on_board, opened, ended}
use Rattle.ls_record.specs.Records.{removed, is_alive}
use Rattle.ls_record.specs.Records.{reconfigured, constrained, numbered, forced, rebound, is_bound, unbound_at}
use Rattle.ls_record.specs.Records.{unless_timed_out}
use Rattle.ls_world.specs.Acting.{subscribed, add_code, create_code}
use Rattle.ls_record.specs.Acting.{change_code, constrain_code, bind_code, destroyed}
use Rattle.ls_world.specs.Steps.{Stepped, Once, session_of, cause_to_refuse, publishes, with_link, creates, operates}
use Rattle.ls_record.specs.Records.{grown, is_whole}
use Rattle.ls_world.specs.Steps.{session_named, acts, is_opening, malformed, requests, connects, plain_create}
use Rattle.ls_world.specs.Steps.{enqueue_once}
use Rattle.ls_record.specs.Acting.{request_over}
use Rattle.ls_record.specs.Turning.{TurnGives, Send, Idle, NotDue, Spent, Superseded, Unbound, Ended, SessionTurn}
use Rattle.ls_record.specs.Turning.{session_turn}
use Rattle.ls_world.specs.Steps.{took, take_once, epoch_of, link_of}
use Rattle.ls_world.specs.Steps.{binds, loses, ticks, does}
use Rattle.ls_record.proofs.Rules.{found_rule, cond_rule}
use Rattle.ls_world.proofs.Rules.{repeated_keeps}
use Rattle.ls_world.proofs.Unmoved.{declared_by}
use Rattle.ls_lawful.proofs.Asked.{element_found}
use Rattle.ls_laws.specs.Alone.{connection_of, session_asked, session_meant, is_own, changes_items, sets_clock}

-- a step gives a session to its own connection, or to the one that it makes
abbrev pub MayLink : World → Step → ℕ → Type 0
MayLink w s connection = (connection_of s ≡ Some connection) ⊎ (connection ≡ length w.connections)

-- what a step itself declares; and a tick ends sessions that were without a stream for too long
abbrev pub begins : World → Step → World
begins w (step.Tick ms) = ticks w ms
begins w s = declared_by w s

-- what stays true of a world where the session that a step means is changed, where one is made, which a connection is
-- given with an epoch, where an item's history grows, and as the step begins
pub record Stays (P : World → Type 0) (w : World) (s : Step) : Type 0 where
  pub changed : (v : World) (m : ℕ) (f : Session → Session) → session_meant w s ≡ Some m → P v → P (record v { sessions = change m f v.sessions })
  pub made : (v : World) (x : Session) → P v → P (record v { sessions = v.sessions ++ x ∷ [] })
  pub links : (v : World) (connection session epoch : ℕ) → MayLink w s connection → P v → P (with_link connection session epoch v)
  pub grows : (item : ℕ) (e : Entry) → changes_items s ≡ true → P w → P (record w { items = change item (grown e) w.items })
  pub begun : P (begins w s)

-- enqueues and turns: no connection changes
record StaysAt (P : World → Type 0) (w v : World) : Type 0 where
  is : P v
  connections : v.connections ≡ w.connections

abbrev Changes : (World → Type 0) → ℕ → Type 0
Changes P m = (v : World) (f : Session → Session) → P v → P (record v { sessions = change m f v.sessions })

same_session : (w v : World) (connection m : ℕ) → v.connections ≡ w.connections → session_of v connection ≡ Some m → session_of w connection ≡ Some m
same_session w v connection m e is = ap (λ cs. option_and_then (λ c. c.session) (slice_get cs connection)) (sym e) ∙ is

enqueue_stays : (P : World → Type 0) (w : World) (connection sub rank : ℕ) → ((m : ℕ) → session_of w connection ≡ Some m → Changes P m) → (v : World)
    → StaysAt P w v → StaysAt P w (enqueue_once connection sub rank v).after
enqueue_stays P w connection sub rank k v q =
    found_rule (λ (r : Once). StaysAt P w r.after) (session_of v connection) _ _ (λ e. q)
    (λ n e. found_rule (λ (r : Once). StaysAt P w r.after) (slice_get v.sessions n) _ _ (λ x. q)
    (λ s is. found_rule (λ (r : Once). StaysAt P w r.after) (live_at sub rank s.board.round) _ _ (λ x. q)
    (λ u x. cond_rule (λ (r : Once). StaysAt P w r.after) (nat_lt u.slot.last (length (history_of v.items u.item))) _ _
    (λ t. record {
      is = k n (same_session w v connection n q.connections e) v (on_board (enqueued_in v.items sub rank)) q.is;
      connections = q.connections;
    }) (λ t. q))))

took_stays : (P : World → Type 0) (w v : World) (connection n : ℕ) (s : Session) (g : TurnGives) → Changes P n → StaysAt P w v
    → StaysAt P w (took v connection n s g).after
took_stays P w v connection n s (Send text) k q = record { is = k v (λ old. s) q.is; connections = q.connections }
took_stays P w v connection n s Idle k q = record { is = k v (λ old. s) q.is; connections = q.connections }
took_stays P w v connection n s (NotDue tick) k q = record { is = k v (λ old. s) q.is; connections = q.connections }
took_stays P w v connection n s Spent k q = q
took_stays P w v connection n s (Superseded epoch) k q = q
took_stays P w v connection n s Unbound k q = q
took_stays P w v connection n s (Ended code) k q = q

take_stays : (P : World → Type 0) (w : World) (connection : ℕ) → ((m : ℕ) → session_of w connection ≡ Some m → Changes P m) → (v : World) → StaysAt P w v
    → StaysAt P w (take_once connection v).after
take_stays P w connection k v q =
    found_rule (λ (r : Once). StaysAt P w r.after) (session_of v connection) _ _ (λ e. q)
    (λ n e. found_rule (λ (r : Once). StaysAt P w r.after) (slice_get v.sessions n) _ _ (λ x. q)
    (λ s is. let t : SessionTurn = session_turn v.tick v.items (epoch_of v connection) s in took_stays P w v connection n t.session t.gives
    (k n (same_session w v connection n q.connections e)) q))

-- requests
operates_stays : (P : World → Type 0) (w : World) (connection : ℕ) (req : List ℕ) (o : Op) (n : ℕ) (s : Session) → Changes P n → P w
    → P (operates w connection req o n s).after
operates_stays P w connection req (op.Add a) n s k p =
    found_rule (λ (r : Stepped). P r.after) (add_code w s a) _ _ (λ x. k w (subscribed w a) p) (λ code x. p)
operates_stays P w connection req (op.Delete sub) n s k p =
    found_rule (λ (r : Stepped). P r.after) (change_code s sub) _ _ (λ x. k w (numbered (removed sub)) p) (λ code x. p)
operates_stays P w connection req (op.Reconf sub frequency) n s k p =
    found_rule (λ (r : Stepped). P r.after) (change_code s sub) _ _ (λ x. k w (numbered (reconfigured sub frequency)) p) (λ code x. p)
operates_stays P w connection req (op.Constrain limit) n s k p =
    found_rule (λ (r : Stepped). P r.after) (constrain_code s) _ _ (λ x. k w (constrained limit) p) (λ code x. p)
operates_stays P w connection req op.ForceRebind n s k p = k w forced p
operates_stays P w connection req op.Destroy n s k p = k w (ended destroyed) p

creates_stays : (P : World → Type 0) (w : World) (connection : ℕ) (c : Create) → ((v : World) (x : Session) → P v
    → P (record v { sessions = v.sessions ++ x ∷ [] })) → ((v : World) (session epoch : ℕ) → P v → P (with_link connection session epoch v)) → P w
    → P (creates w connection c).after
creates_stays P w connection c made links p =
    let s : Session = opened (length w.sessions + 1) c.keepalive c.bandwidth c.length in
    found_rule (λ (r : Stepped). P r.after) (create_code w c) _ _
    (λ x. links (record w { sessions = w.sessions ++ s ∷ [] }) (length w.sessions) 1 (made w s p)) (λ code x. p)

binds_stay : (P : World → Type 0) (w : World) (connection : ℕ) (b : Bind) → ((m : ℕ) → session_named w connection (Some b.session) ≡ Some m → Changes P m)
    → ((v : World) (session epoch : ℕ) → P v → P (with_link connection session epoch v)) → P w → P (binds w connection b).after
binds_stay P w connection b k links p =
    found_rule (λ (r : Stepped). P r.after) (session_named w connection (Some b.session)) _ _ (λ e. p)
    (λ n e. found_rule (λ (r : Stepped). P r.after) (slice_get w.sessions n) _ _ (λ x. p)
    (λ s is. cond_rule (λ (r : Stepped). P r.after) (is_alive s.life) _ _
    (λ t. found_rule (λ (r : Stepped). P r.after) (bind_code s b) _ _
    (λ none. links (record w { sessions = change n (rebound b.session b) w.sessions }) n (length s.streams + 1) (k n e w (rebound b.session b) p))
    (λ code x. p)) (λ t. p)))

acts_stays : (P : World → Type 0) (w : World) (connection : ℕ) (r : Request) → ((m : ℕ) → session_asked w connection (Some r) ≡ Some m → Changes P m)
    → ((v : World) (x : Session) → P v → P (record v { sessions = v.sessions ++ x ∷ [] }))
    → ((v : World) (session epoch : ℕ) → P v → P (with_link connection session epoch v)) → P w → P (acts w connection r).after
acts_stays P w connection (request.Create c) k made links p = creates_stays P w connection c made links p
acts_stays P w connection (request.Bind b) k made links p = binds_stay P w connection b k links p
acts_stays P w connection (request.Control c) k made links p =
    found_rule (λ (r : Stepped). P r.after) (session_named w connection c.session) _ _ (λ e. p)
    (λ n e. found_rule (λ (r : Stepped). P r.after) (slice_get w.sessions n) _ _ (λ x. p)
    (λ s is. cond_rule (λ (r : Stepped). P r.after) (is_alive s.life) _ _ (λ t. operates_stays P w connection c.req c.op n s (k n e) p) (λ t. p)))
acts_stays P w connection request.Wsok k made links p = p

malformed_stays : (P : World → Type 0) (w : World) (connection : ℕ) (name : List ℕ) (req : Option (List ℕ)) → P w → P (malformed w connection name req).after
malformed_stays P w connection name req p =
    cond_rule (λ (r : Stepped). P r.after) (is_opening name) _ _ (λ t. p) (λ t. found_rule (λ (r : Stepped). P r.after) req _ _ (λ x. p) (λ r x. p))

requests_stay : (P : World → Type 0) (w : World) (connection : ℕ) (l : LinkKind) (name : List ℕ) (ps : Option (List Pair))
    → ((m : ℕ) → session_asked w connection (request_over l name ps) ≡ Some m → Changes P m)
    → ((v : World) (x : Session) → P v → P (record v { sessions = v.sessions ++ x ∷ [] }))
    → ((v : World) (session epoch : ℕ) → P v → P (with_link connection session epoch v)) → P w → P (requests w connection l name ps).after
requests_stay P w connection l name ps k made links p =
    found_rule (λ (r : Stepped). P r.after) (request_over l name ps) _ (acts w connection)
    (λ x. malformed_stays P w connection name (option_and_then (req_behind name) ps) p)
    (λ r x. acts_stays P w connection r (λ m is. k m (ap (session_asked w connection) x ∙ is)) made links p)

-- a publish
publish_stays : (P : World → Type 0) (w : World) (item : ℕ) (e : Entry) → (P w → P (record w { items = change item (grown e) w.items })) → P w
    → P (publishes w item e).after
publish_stays P w item e grows p =
    found_rule (λ (r : Stepped). P r.after) (slice_get w.items item) _ _ (λ x. p)
    (λ i x. cond_rule (λ (r : Stepped). P r.after) (is_whole (length i.definition.fields) e.event) _ _
    (λ t. found_rule (λ (r : Stepped). P r.after) (cause_to_refuse w item e i) _ _ (λ y. grows p) (λ cause y. p)) (λ t. p))

-- a loss
loses_stay : (P : World → Type 0) (w : World) (connection : ℕ) → ((m : ℕ) → session_of w connection ≡ Some m → Changes P m) → P w
    → P (loses w connection).after
loses_stay P w connection k p =
    found_rule (λ (r : Stepped). P r.after) (session_of w connection) _ _ (λ e. p)
    (λ n e. found_rule (λ (r : Stepped). P r.after) (slice_get w.sessions n) _ _ (λ x. p)
    (λ s is. cond_rule (λ (r : Stepped). P r.after) (nat_lt (epoch_of w connection) (length s.streams)) _ _ (λ t. p)
    (λ t. cond_rule (λ (r : Stepped). P r.after) (is_bound s) _ _ (λ u. k n e w (unbound_at w.tick) p) (λ u. p))))

-- a step
pub does_stay : (P : World → Type 0) (w : World) (s : Step) (times : ℕ) → Stays P w s → P (does w s times).after
does_stay P w (step.Set name) times k = k.begun
does_stay P w (step.Item name kind fields) times k = k.begun
does_stay P w (step.Tick ms) times k = k.begun
does_stay P w (step.Conn name l) times k = k.begun
does_stay P w (step.Open name) times k =
    creates_stays P (connects w name link.Ws) (length w.connections) plain_create k.made
    (λ v session epoch p. k.links v (length w.connections) session epoch (inr refl) p) k.begun
does_stay P w (step.Add connection words) times k =
    requests_stay P w connection link.Ws (codes "control") (add_pairs w.line words) (λ m is v f p. k.changed v m f is p) k.made
    (λ v session epoch p. k.links v connection session epoch (inl refl) p) k.begun
does_stay P w (step.Request connection name parameters) times k =
    requests_stay P w connection (link_of w connection) name (form_of parameters) (λ m is v f p. k.changed v m f is p) k.made
    (λ v session epoch p. k.links v connection session epoch (inl refl) p) k.begun
does_stay P w (step.Publish adapter seq item cells) times k =
    let e : Entry = record { adapter = adapter; seq = seq; event = Update cells } in
    publish_stays P w item e (k.grows item e refl) k.begun
does_stay P w (step.Clear adapter seq item) times k =
    let e : Entry = record { adapter = adapter; seq = seq; event = Clear } in
    publish_stays P w item e (k.grows item e refl) k.begun
does_stay P w (step.Enqueue connection sub rank) times k =
    (repeated_keeps (StaysAt P w) (enqueue_once connection sub rank) times w
    (λ v q. enqueue_stays P w connection sub rank (λ m is u f p. k.changed u m f is p) v q) (record { is = k.begun; connections = refl })).is
does_stay P w (step.Take connection) times k =
    (repeated_keeps (StaysAt P w) (take_once connection) times w
    (λ v q. take_stays P w connection (λ m is u f p. k.changed u m f is p) v q) (record { is = k.begun; connections = refl })).is
does_stay P w (step.Lose connection) times k =
    loses_stay P w connection (λ m is v f p. k.changed v m f is p) k.begun

-- places of a list of which another is changed, or to which one more comes
pub changed_elsewhere : {A : Type 0} (m n : ℕ) (f : A → A) (xs : List A) → (m ≡ n → ⊥) → slice_get (change m f xs) n ≡ slice_get xs n
changed_elsewhere m n f [] differ = refl
changed_elsewhere zero zero f (x ∷ xs) differ = absurd (differ refl)
changed_elsewhere zero (suc n) f (x ∷ xs) differ = refl
changed_elsewhere (suc m) zero f (x ∷ xs) differ = refl
changed_elsewhere (suc m) (suc n) f (x ∷ xs) differ = changed_elsewhere m n f xs (λ e. differ (ap (λ k. suc k) e))

pub there_before : {A : Type 0} (n : ℕ) (x : A) (xs ys : List A) → slice_get xs n ≡ Some x → slice_get (xs ++ ys) n ≡ Some x
there_before n x [] ys is = absurd (let y : None ≡ Some x = is in cc)
there_before zero x (y ∷ xs) ys is = is
there_before (suc n) x (y ∷ xs) ys is = there_before n x xs ys is

-- a step of another session leaves a session
not_own : (n m : ℕ) (w : World) (s : Step) → is_own n w s ≡ false → session_meant w s ≡ Some m → m ≡ n → ⊥
not_own n m w s other is same = absurd (
    let t : is_own n w s ≡ (m == n) = ap (λ o. option_map_or (λ k. k == n) o false) is in
    let v : true ≡ false = sym (eq-eqb m n same) ∙ (sym t ∙ other) in cc)

begun_sessions : (w : World) (s : Step) → sets_clock s ≡ false → (begins w s).sessions ≡ w.sessions
begun_sessions w (step.Set name) kept = refl
begun_sessions w (step.Item name k fields) kept = refl
begun_sessions w (step.Tick ms) kept = absurd (let x : true ≡ false = kept in cc)
begun_sessions w (step.Conn name l) kept = refl
begun_sessions w (step.Open name) kept = refl
begun_sessions w (step.Add connection words) kept = refl
begun_sessions w (step.Request connection name parameters) kept = refl
begun_sessions w (step.Publish adapter seq item cells) kept = refl
begun_sessions w (step.Clear adapter seq item) kept = refl
begun_sessions w (step.Enqueue connection sub rank) kept = refl
begun_sessions w (step.Take connection) kept = refl
begun_sessions w (step.Lose connection) kept = refl

left_session : (w : World) (n : ℕ) (x : Session) (s : Step) (times : ℕ) → slice_get w.sessions n ≡ Some x → is_own n w s ≡ false → sets_clock s ≡ false
    → slice_get (does w s times).after.sessions n ≡ Some x
left_session w n x s times is other kept =
    does_stay (λ v. slice_get v.sessions n ≡ Some x) w s times (record {
      changed = λ v m f mine p. changed_elsewhere m n f v.sessions (not_own n m w s other mine) ∙ p;
      made = λ v y p. there_before n x v.sessions (y ∷ []) p;
      links = λ v connection session epoch may p. p;
      grows = λ item e c p. p;
      begun = ap (λ ss. slice_get ss n) (begun_sessions w s kept) ∙ is;
    })

pub session_left : (w : World) (n : ℕ) (s : Step) (times : ℕ) → n < length w.sessions → is_own n w s ≡ false → sets_clock s ≡ false
    → slice_get (does w s times).after.sessions n ≡ slice_get w.sessions n
session_left w n s times within other kept =
    let x = element_found w.sessions n within in left_session w n x.0 s times x.1 other kept ∙ sym x.1

-- and a step that sets the clock changes it by that alone
mapped_at : {A : Type 0} (f : A → A) (xs : List A) (n : ℕ) → slice_get (map f xs) n ≡ option_map f (slice_get xs n)
mapped_at f [] n = refl
mapped_at f (x ∷ xs) zero = refl
mapped_at f (x ∷ xs) (suc n) = mapped_at f xs n

pub session_ticked : (w : World) (n ms times : ℕ) → slice_get (does w (step.Tick ms) times).after.sessions n
    ≡ option_map (unless_timed_out ms) (slice_get w.sessions n)
session_ticked w n ms times = mapped_at (unless_timed_out ms) w.sessions n

-- so a session after a step of others is a change of it by the clock, or none
abbrev pub by_clock : Step → Session → Session
by_clock (step.Tick ms) x = unless_timed_out ms x
by_clock s x = x

same_mapped : {A : Type 0} (o : Option A) → o ≡ option_map (λ x. x) o
same_mapped None = refl
same_mapped (Some x) = refl

pub session_clocked : (w : World) (n : ℕ) (s : Step) (times : ℕ) → n < length w.sessions → is_own n w s ≡ false
    → slice_get (does w s times).after.sessions n ≡ option_map (by_clock s) (slice_get w.sessions n)
session_clocked w n (step.Set name) times within other = session_left w n (step.Set name) times within other refl ∙ same_mapped _
session_clocked w n (step.Item name k fields) times within other = session_left w n (step.Item name k fields) times within other refl ∙ same_mapped _
session_clocked w n (step.Tick ms) times within other = session_ticked w n ms times
session_clocked w n (step.Conn name l) times within other = session_left w n (step.Conn name l) times within other refl ∙ same_mapped _
session_clocked w n (step.Open name) times within other = session_left w n (step.Open name) times within other refl ∙ same_mapped _
session_clocked w n (step.Add connection words) times within other =
    session_left w n (step.Add connection words) times within other refl ∙ same_mapped _
session_clocked w n (step.Request connection name parameters) times within other =
    session_left w n (step.Request connection name parameters) times within other refl ∙ same_mapped _
session_clocked w n (step.Publish adapter seq item cells) times within other =
    session_left w n (step.Publish adapter seq item cells) times within other refl ∙ same_mapped _
session_clocked w n (step.Clear adapter seq item) times within other =
    session_left w n (step.Clear adapter seq item) times within other refl ∙ same_mapped _
session_clocked w n (step.Enqueue connection sub rank) times within other =
    session_left w n (step.Enqueue connection sub rank) times within other refl ∙ same_mapped _
session_clocked w n (step.Take connection) times within other = session_left w n (step.Take connection) times within other refl ∙ same_mapped _
session_clocked w n (step.Lose connection) times within other = session_left w n (step.Lose connection) times within other refl ∙ same_mapped _

-- and one that may change no item leaves the items
begun_items : (w : World) (s : Step) → changes_items s ≡ false → (begins w s).items ≡ w.items
begun_items w (step.Set name) kept = refl
begun_items w (step.Item name k fields) kept = absurd (let x : true ≡ false = kept in cc)
begun_items w (step.Tick ms) kept = refl
begun_items w (step.Conn name l) kept = refl
begun_items w (step.Open name) kept = refl
begun_items w (step.Add connection words) kept = refl
begun_items w (step.Request connection name parameters) kept = refl
begun_items w (step.Publish adapter seq item cells) kept = refl
begun_items w (step.Clear adapter seq item) kept = refl
begun_items w (step.Enqueue connection sub rank) kept = refl
begun_items w (step.Take connection) kept = refl
begun_items w (step.Lose connection) kept = refl

pub items_left : (w : World) (s : Step) (times : ℕ) → changes_items s ≡ false → (does w s times).after.items ≡ w.items
items_left w s times kept =
    does_stay (λ v. v.items ≡ w.items) w s times (record {
      changed = λ v m f mine p. p;
      made = λ v y p. p;
      links = λ v connection session epoch may p. p;
      grows = λ item e c p. absurd (let x : true ≡ false = sym c ∙ kept in cc);
      begun = begun_items w s kept;
    })

-- and one that doesn't set the clock leaves it
begun_tick : (w : World) (s : Step) → sets_clock s ≡ false → (begins w s).tick ≡ w.tick
begun_tick w (step.Set name) kept = refl
begun_tick w (step.Item name k fields) kept = refl
begun_tick w (step.Tick ms) kept = absurd (let x : true ≡ false = kept in cc)
begun_tick w (step.Conn name l) kept = refl
begun_tick w (step.Open name) kept = refl
begun_tick w (step.Add connection words) kept = refl
begun_tick w (step.Request connection name parameters) kept = refl
begun_tick w (step.Publish adapter seq item cells) kept = refl
begun_tick w (step.Clear adapter seq item) kept = refl
begun_tick w (step.Enqueue connection sub rank) kept = refl
begun_tick w (step.Take connection) kept = refl
begun_tick w (step.Lose connection) kept = refl

pub tick_left : (w : World) (s : Step) (times : ℕ) → sets_clock s ≡ false → (does w s times).after.tick ≡ w.tick
tick_left w s times kept =
    does_stay (λ v. v.tick ≡ w.tick) w s times (record {
      changed = λ v m f mine p. p;
      made = λ v y p. p;
      links = λ v connection session epoch may p. p;
      grows = λ item e c p. p;
      begun = begun_tick w s kept;
    })

-- and one on another connection leaves a connection
begun_connection : (w : World) (n : ℕ) (x : Connection) (s : Step) → slice_get w.connections n ≡ Some x
    → slice_get (begins w s).connections n ≡ Some x
begun_connection w n x (step.Set name) is = is
begun_connection w n x (step.Item name k fields) is = is
begun_connection w n x (step.Tick ms) is = is
begun_connection w n x (step.Conn name l) is = there_before n x w.connections _ is
begun_connection w n x (step.Open name) is = there_before n x w.connections _ is
begun_connection w n x (step.Add connection words) is = is
begun_connection w n x (step.Request connection name parameters) is = is
begun_connection w n x (step.Publish adapter seq item cells) is = is
begun_connection w n x (step.Clear adapter seq item) is = is
begun_connection w n x (step.Enqueue connection sub rank) is = is
begun_connection w n x (step.Take connection) is = is
begun_connection w n x (step.Lose connection) is = is

other_connection : (w : World) (s : Step) (n connection : ℕ) → n < length w.connections → (connection_of s ≡ Some n → ⊥) → MayLink w s connection
    → connection ≡ n → ⊥
other_connection w s n connection within other (inl is) same = other (is ∙ ap Some same)
other_connection w s n connection within other (inr is) same = absurd (omega (arith, within, is, same))

left_connection : (w : World) (n : ℕ) (x : Connection) (s : Step) (times : ℕ) → slice_get w.connections n ≡ Some x → (connection_of s ≡ Some n → ⊥)
    → slice_get (does w s times).after.connections n ≡ Some x
left_connection w n x s times is other =
    does_stay (λ v. slice_get v.connections n ≡ Some x) w s times (record {
      changed = λ v m f mine p. p;
      made = λ v y p. p;
      links = λ v connection session epoch may p.
          changed_elsewhere connection n (λ c. record c { session = Some session; epoch = epoch }) v.connections
          (other_connection w s n connection (slice_get_within w.connections n x is) other may) ∙ p;
      grows = λ item e c p. p;
      begun = begun_connection w n x s is;
    })

pub connection_left : (w : World) (n : ℕ) (s : Step) (times : ℕ) → n < length w.connections → (connection_of s ≡ Some n → ⊥)
    → slice_get (does w s times).after.connections n ≡ slice_get w.connections n
connection_left w n s times within other =
    let x = element_found w.connections n within in left_connection w n x.0 s times x.1 other ∙ sym x.1

-- a session and a connection that are there stay there
pub record AreThere (n c : ℕ) (w : World) : Type 0 where
  pub session : n < length w.sessions
  pub connection : c < length w.connections

length_changed : {A : Type 0} (n : ℕ) (f : A → A) (xs : List A) → length (change n f xs) ≡ length xs
length_changed n f [] = refl
length_changed zero f (x ∷ xs) = refl
length_changed (suc n) f (x ∷ xs) = ap (λ k. suc k) (length_changed n f xs)

begun_there : (n c : ℕ) (w : World) (s : Step) → AreThere n c w → AreThere n c (begins w s)
begun_there n c w (step.Set name) h = record { session = h.session; connection = h.connection }
begun_there n c w (step.Item name k fields) h = record { session = h.session; connection = h.connection }
begun_there n c w (step.Tick ms) h =
    record { session = omega (arith, h.session, length-map w.sessions (unless_timed_out ms)); connection = h.connection }
begun_there n c w (step.Conn name l) h =
    record {
      session = h.session;
      connection = omega (arith, h.connection, length-append w.connections (record { name = name; link = l; session = None; epoch = 0 } ∷ []));
    }
begun_there n c w (step.Open name) h =
    record {
      session = h.session;
      connection = omega (arith, h.connection, length-append w.connections (record { name = name; link = link.Ws; session = None; epoch = 0 } ∷ []));
    }
begun_there n c w (step.Add connection words) h = h
begun_there n c w (step.Request connection name parameters) h = h
begun_there n c w (step.Publish adapter seq item cells) h = h
begun_there n c w (step.Clear adapter seq item) h = h
begun_there n c w (step.Enqueue connection sub rank) h = h
begun_there n c w (step.Take connection) h = h
begun_there n c w (step.Lose connection) h = h

pub stay_there : (n c : ℕ) (w : World) (s : Step) (times : ℕ) → AreThere n c w → AreThere n c (does w s times).after
stay_there n c w s times h =
    does_stay (AreThere n c) w s times (record {
      changed = λ v m f mine p. record { session = omega (arith, p.session, length_changed m f v.sessions); connection = p.connection };
      made = λ v y p. record { session = omega (arith, p.session, length-append v.sessions (y ∷ [])); connection = p.connection };
      links = λ v connection session epoch may p. record {
        session = p.session;
        connection = omega (arith, p.connection, length_changed connection (λ x. record x { session = Some session; epoch = epoch }) v.connections);
      };
      grows = λ item e g p. record { session = p.session; connection = p.connection };
      begun = begun_there n c w s h;
    })
