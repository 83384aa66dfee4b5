-- What a session's own step prints and leaves rests on what the session sees.
use Rattle.std.proofs.Common.{◌≡◌, ◌==◌, ℕ, zero, suc, ◌+◌, List, [], ◌∷◌, length, refl, sym, ◌∙◌, ap, subst, cond, Bool, true, false, Option, Some, None}
use Rattle.std.proofs.Common.{nat_lt, slice_get, option_map, codes}
use Rattle.std.specs.Prelude.{option_and_then}
use Rattle.std.specs.Option.{option_map_or}
use Rattle.std.proofs.lemmas.Bool.{eqb-true}
use Rattle.ls_form.specs.declared.form.Pair.{Pair}
use Rattle.ls_form.specs.Forms.{form_of}
use Rattle.ls_line.specs.declared.line.Line.TheVariants as line
use Rattle.ls_line.specs.Lines.{text_of_line}
use Rattle.ls_request.specs.declared.request.LinkKind.{LinkKind}
use Rattle.ls_request.specs.declared.request.LinkKind.TheVariants as link
use Rattle.ls_request.specs.declared.request.Bind.{Bind}
use Rattle.ls_request.specs.declared.request.Op.{Op}
use Rattle.ls_request.specs.declared.request.Op.TheVariants as op
use Rattle.ls_request.specs.declared.request.Request.{Request}
use Rattle.ls_request.specs.declared.request.Request.TheVariants as request
use Rattle.ls_request.specs.Requests.{req_behind}
use Rattle.ls_request.specs.declared.request.Add.{Add}
use Rattle.ls_step.specs.declared.out.Out.TheVariants as out
use Rattle.ls_step.specs.declared.step.Step.{Step}
use Rattle.ls_step.specs.declared.step.Step.TheVariants as step
use Rattle.ls_step.specs.Adding.{add_pairs}
use Rattle.ls_record.specs.Cases.{with_found, first_code}
use Rattle.ls_world.specs.World.{World, Connection}
use Rattle.ls_record.specs.Records.{Item, LiveSlot, Board, Session, definitions, history_of, change, live_at, added}
use Rattle.ls_record.specs.Records.{removed, enqueued_in}
use Rattle.ls_record.specs.Records.{free_number, on_board, trimmed, numbered, ended, is_alive, reconfigured}
use Rattle.ls_record.specs.Records.{constrained, rebound, forced, is_bound, unbound_at}
use Rattle.ls_record.specs.Acting.{message_of, asks_of, free_slots, change_code, constrain_code, bind_code, destroyed}
use Rattle.ls_world.specs.Acting.{subscribed, add_code}
use Rattle.ls_world.specs.Steps.{Stepped, Once, behind, repeated, stays, ends, goes_on, with_session, session_of}
use Rattle.ls_world.specs.Steps.{name_of, on}
use Rattle.ls_world.specs.Steps.{refuses, operated, operates, session_named, acts, is_opening, malformed, requests}
use Rattle.ls_world.specs.Steps.{enqueue_once}
use Rattle.ls_record.specs.Acting.{request_over}
use Rattle.ls_record.specs.Turning.{TurnGives, Send}
use Rattle.ls_record.specs.Turning.{Idle, NotDue, Spent, Superseded, Unbound, Ended, SessionTurn, session_turn}
use Rattle.ls_world.specs.Steps.{took, take_once, epoch_of, link_of, with_link}
use Rattle.ls_world.specs.Steps.{refuses_stream, bound, binds, loses, does}
use Rattle.ls_world.proofs.Parts.{enqueued_by}
use Rattle.ls_laws.specs.Alone.{unnumbered_slot, unnumbered, Seen, seen, connection_of, session_asked, is_own}
use Rattle.ls_laws.specs.Alone.{lacks_slots_for, lacks_slots_of, lacks_slots}
use Rattle.ls_laws.proofs.Unnumbered.{live_same, refusals_by, refusals_same, change_same, added_same, removed_same, reconfigured_same}
use Rattle.ls_laws.proofs.Unnumbered.{enqueued_same, turn_without, turn_same}

-- two worlds that a session sees alike
abbrev pub Alike : ℕ → ℕ → World → World → Type 0
Alike n c w v = seen n c w ≡ seen n c v

same_items : (n c : ℕ) (w v : World) → Alike n c w v → w.items ≡ v.items
same_items n c w v e = ap (λ (z : Seen). z.items) e

same_tick : (n c : ℕ) (w v : World) → Alike n c w v → w.tick ≡ v.tick
same_tick n c w v e = ap (λ (z : Seen). z.tick) e

pub same_line : (n c : ℕ) (w v : World) → Alike n c w v → w.line ≡ v.line
same_line n c w v e = ap (λ (z : Seen). z.line) e

same_connection : (n c : ℕ) (w v : World) → Alike n c w v → slice_get w.connections c ≡ slice_get v.connections c
same_connection n c w v e = ap (λ (z : Seen). z.connection) e

same_session : (n c : ℕ) (w v : World) → Alike n c w v → option_map unnumbered (slice_get w.sessions n) ≡ option_map unnumbered (slice_get v.sessions n)
same_session n c w v e = ap (λ (z : Seen). z.session) e

same_name : (n c : ℕ) (w v : World) → Alike n c w v → name_of w c ≡ name_of v c
same_name n c w v e = ap (λ o. option_map_or (λ (x : Connection). x.name) o []) (same_connection n c w v e)

pub same_place : (n c : ℕ) (w v : World) → Alike n c w v → session_of w c ≡ session_of v c
same_place n c w v e = ap (λ o. option_and_then (λ (x : Connection). x.session) o) (same_connection n c w v e)

same_epoch : (n c : ℕ) (w v : World) → Alike n c w v → epoch_of w c ≡ epoch_of v c
same_epoch n c w v e = ap (λ o. option_map_or (λ (x : Connection). x.epoch) o 0) (same_connection n c w v e)

pub same_link : (n c : ℕ) (w v : World) → Alike n c w v → link_of w c ≡ link_of v c
same_link n c w v e = ap (λ o. option_map_or (λ (x : Connection). x.link) o link.Ws) (same_connection n c w v e)

pub the_same : {A : Type 0} (a b : A) → Some a ≡ Some b → a ≡ b
the_same a b is = cc

-- the session of both worlds, and what is done with it
abbrev Sessions : ℕ → World → World → Session → Session → Type 0
Sessions n w v s t = (slice_get w.sessions n ≡ Some s) × (slice_get v.sessions n ≡ Some t) × (unnumbered s ≡ unnumbered t)

both_rule : {A : Type 0} (R : A → A → Type 0) (n : ℕ) (w v : World) (o p : Option ℕ) (none none' : A) (f g : ℕ → Session → A) → o ≡ Some n → p ≡ Some n
    → option_map unnumbered (slice_get w.sessions n) ≡ option_map unnumbered (slice_get v.sessions n) → R none none'
    → ((s t : Session) → Sessions n w v s t → R (f n s) (g n t)) → R (with_session w.sessions o none f) (with_session v.sessions p none' g)
both_rule {A} R n w v o p none none' f g is is' same r k =
    subst (λ x. R (with_session w.sessions x none f) (with_session v.sessions p none' g)) (sym is)
    (subst (λ x. R (with_session w.sessions (Some n) none f) (with_session v.sessions x none' g)) (sym is')
    (by_found (slice_get w.sessions n) (slice_get v.sessions n) refl refl same))
  where
    by_found : (x y : Option Session) → slice_get w.sessions n ≡ x → slice_get v.sessions n ≡ y → option_map unnumbered x ≡ option_map unnumbered y
        → R (with_found x none (f n)) (with_found y none' (g n))
    by_found None None e e' q = r
    by_found None (Some t) e e' q = absurd (let z : None ≡ Some (unnumbered t) = q in cc)
    by_found (Some s) None e e' q = absurd (let z : Some (unnumbered s) ≡ None = q in cc)
    by_found (Some s) (Some t) e e' q =
        k s t (e, e', the_same (unnumbered s) (unnumbered t) q)

-- a change of the session of both
pub slice_changed : {A : Type 0} (n : ℕ) (f : A → A) (xs : List A) (x : A) → slice_get xs n ≡ Some x → slice_get (change n f xs) n ≡ Some (f x)
slice_changed n f [] x is = absurd (let y : None ≡ Some x = is in cc)
slice_changed zero f (y ∷ xs) x is = let e : y ≡ x = cc in ap (λ z. Some (f z)) e
slice_changed (suc n) f (y ∷ xs) x is = slice_changed n f xs x is

changed_alike : (n c : ℕ) (w v : World) (s t : Session) (f g : Session → Session) → Alike n c w v → Sessions n w v s t → unnumbered (f s) ≡ unnumbered (g t)
    → Alike n c (record w { sessions = change n f w.sessions }) (record v { sessions = change n g v.sessions })
changed_alike n c w v s t f g e is same =
    let here : option_map unnumbered (slice_get (change n f w.sessions) n) ≡ option_map unnumbered (slice_get (change n g v.sessions) n) =
    ap (option_map unnumbered) (slice_changed n f w.sessions s is.0)
    ∙ (ap Some same ∙ sym (ap (option_map unnumbered) (slice_changed n g v.sessions t is.1))) in
    λ i. record { items = (e i).items; tick = (e i).tick; line = (e i).line; connection = (e i).connection; session = here i }

-- steps that print the same and lead to worlds that are related again
pub record StepsAs (R : World → World → Type 0) (a b : Stepped) : Type 0 where
  pub outs : a.outs ≡ b.outs
  pub after : R a.after b.after

record OnceAs (R : World → World → Type 0) (a b : Once) : Type 0 where
  out : a.out ≡ b.out
  more : a.more ≡ b.more
  after : R a.after b.after

behind_as : (R : World → World → Type 0) (a b : Once) (rest : World → Stepped) → OnceAs R a b → StepsAs R (rest a.after) (rest b.after)
    → StepsAs R (behind a rest) (behind b rest)
behind_as R a b rest o k = by_more a.more b.more o.more
  where
    by_more : (p q : Bool) → p ≡ q → StepsAs R
        (cond p (record { after = (rest a.after).after; outs = a.out ∷ (rest a.after).outs }) (record { after = a.after; outs = a.out ∷ [] }))
        (cond q (record { after = (rest b.after).after; outs = b.out ∷ (rest b.after).outs }) (record { after = b.after; outs = b.out ∷ [] }))
    by_more true true e = record { outs = λ i. o.out i ∷ k.outs i; after = k.after }
    by_more false false e = record { outs = λ i. o.out i ∷ []; after = o.after }
    by_more true false e = absurd (let x : true ≡ false = e in cc)
    by_more false true e = absurd (let x : false ≡ true = e in cc)

repeated_as : (R : World → World → Type 0) (f : World → Once) (times : ℕ) (w v : World) → ((x y : World) → R x y → OnceAs R (f x) (f y)) → R w v
    → StepsAs R (repeated f times w) (repeated f times v)
repeated_as R f zero w v k r = record { outs = refl; after = r }
repeated_as R f (suc times) w v k r =
    behind_as R (f w) (f v) (λ x. repeated f times x) (k w v r) (repeated_as R f times (f w).after (f v).after k (k w v r).after)

-- the connection has the session, in both
record Standing (n c : ℕ) (w v : World) : Type 0 where
  alike : Alike n c w v
  own : session_of w c ≡ Some n

-- a take
turn_alike : (now now' : ℕ) (items items' : List Item) (epoch epoch' : ℕ) (s t : Session) → now ≡ now' → items ≡ items' → epoch ≡ epoch'
    → unnumbered s ≡ unnumbered t → turn_without (session_turn now items epoch s) ≡ turn_without (session_turn now' items' epoch' t)
turn_alike now now' items items' epoch epoch' s t at e as' same =
    sym (turn_same now items epoch s) ∙ (λ i. session_turn (at i) (e i) (as' i) (same i)) ∙ turn_same now' items' epoch' t

took_alike : (n c : ℕ) (w v : World) (s t s' t' : Session) (g h : TurnGives) → Standing n c w v → Sessions n w v s t → unnumbered s' ≡ unnumbered t' → g ≡ h
    → OnceAs (Standing n c) (took w c n s' g) (took v c n t' h)
took_alike n c w v s t s' t' g h r is same e = subst (λ x. OnceAs (Standing n c) (took w c n s' g) (took v c n t' x)) e (by_gives g)
  where
    after : Standing n c (record w { sessions = change n (λ old. s') w.sessions }) (record v { sessions = change n (λ old. t') v.sessions })
    after = record { alike = changed_alike n c w v s t (λ old. s') (λ old. t') r.alike is same; own = r.own }

    by_gives : (x : TurnGives) → OnceAs (Standing n c) (took w c n s' x) (took v c n t' x)
    by_gives (Send text) = record { out = ap (λ name. out.Line name text) (same_name n c w v r.alike); more = refl; after = after }
    by_gives Idle = record { out = refl; more = refl; after = after }
    by_gives (NotDue tick) = record { out = refl; more = refl; after = after }
    by_gives Spent = record { out = refl; more = refl; after = r }
    by_gives (Superseded epoch) = record { out = refl; more = refl; after = r }
    by_gives Unbound = record { out = refl; more = refl; after = r }
    by_gives (Ended code) = record { out = refl; more = refl; after = r }

take_alike : (n c : ℕ) (w v : World) → Standing n c w v → OnceAs (Standing n c) (take_once c w) (take_once c v)
take_alike n c w v r =
    both_rule (OnceAs (Standing n c)) n w v (session_of w c) (session_of v c) _ _ _ _ r.own (sym (same_place n c w v r.alike) ∙ r.own)
    (same_session n c w v r.alike) (record { out = refl; more = refl; after = r })
    (λ s t is.
    let a : SessionTurn = session_turn w.tick w.items (epoch_of w c) s in
    let b : SessionTurn = session_turn v.tick v.items (epoch_of v c) t in
    let e : turn_without a ≡ turn_without b =
    turn_alike w.tick v.tick w.items v.items (epoch_of w c) (epoch_of v c) s t (same_tick n c w v r.alike) (same_items n c w v r.alike)
    (same_epoch n c w v r.alike) is.2 in
    took_alike n c w v s t a.session b.session a.gives b.gives r is
    (ap (λ (x : SessionTurn). x.session) e) (ap (λ (x : SessionTurn). x.gives) e))

-- an enqueue
enqueue_alike : (items items' : List Item) (sub rank : ℕ) (s t : Session) → items ≡ items' → unnumbered s ≡ unnumbered t
    → unnumbered (on_board (enqueued_in items sub rank) s) ≡ unnumbered (on_board (enqueued_in items' sub rank) t)
enqueue_alike items items' sub rank s t e same =
    ap (λ (b : Board). record s { board = b }) (sym (enqueued_same items sub rank s.board))
    ∙ (λ i. on_board (enqueued_in (e i) sub rank) (same i))
    ∙ ap (λ (b : Board). record t { board = b }) (enqueued_same items' sub rank t.board)

slot_alike : (n c sub rank : ℕ) (w v : World) (s t : Session) (o p : Option LiveSlot) → Standing n c w v → Sessions n w v s t
    → option_map unnumbered_slot o ≡ option_map unnumbered_slot p → OnceAs (Standing n c) (enqueued_by w n sub rank o) (enqueued_by v n sub rank p)
slot_alike n c sub rank w v s t None None r is e = record { out = refl; more = refl; after = r }
slot_alike n c sub rank w v s t None (Some b) r is e = absurd (let x : None ≡ Some (unnumbered_slot b) = e in cc)
slot_alike n c sub rank w v s t (Some a) None r is e = absurd (let x : Some (unnumbered_slot a) ≡ None = e in cc)
slot_alike n c sub rank w v s t (Some a) (Some b) r is e =
    by_test (nat_lt a.slot.last (length (history_of w.items a.item))) (nat_lt b.slot.last (length (history_of v.items b.item)))
    (λ i. nat_lt (x i).slot.last (length (history_of (same_items n c w v r.alike i) (x i).item)))
  where
    x : unnumbered_slot a ≡ unnumbered_slot b
    x = the_same (unnumbered_slot a) (unnumbered_slot b) e

    by_test : (p q : Bool) → p ≡ q → OnceAs (Standing n c)
        (cond p (goes_on (record w { sessions = change n (on_board (enqueued_in w.items sub rank)) w.sessions }) (out.Moved (a.slot.last + 1)))
        (ends w out.UpToDate))
        (cond q (goes_on (record v { sessions = change n (on_board (enqueued_in v.items sub rank)) v.sessions }) (out.Moved (b.slot.last + 1)))
        (ends v out.UpToDate))
    by_test true true q =
        record {
          out = ap (λ (y : LiveSlot). out.Moved (y.slot.last + 1)) x;
          more = refl;
          after = record {
            alike = changed_alike n c w v s t (on_board (enqueued_in w.items sub rank)) (on_board (enqueued_in v.items sub rank)) r.alike is
                (enqueue_alike w.items v.items sub rank s t (same_items n c w v r.alike) is.2);
            own = r.own;
          };
        }
    by_test false false q = record { out = refl; more = refl; after = r }
    by_test true false q = absurd (let y : true ≡ false = q in cc)
    by_test false true q = absurd (let y : false ≡ true = q in cc)

enqueued_alike : (n c sub rank : ℕ) (w v : World) → Standing n c w v → OnceAs (Standing n c) (enqueue_once c sub rank w) (enqueue_once c sub rank v)
enqueued_alike n c sub rank w v r =
    both_rule (OnceAs (Standing n c)) n w v (session_of w c) (session_of v c) _ _
    (λ m s. enqueued_by w m sub rank (live_at sub rank s.board.round)) (λ m t. enqueued_by v m sub rank (live_at sub rank t.board.round)) r.own
    (sym (same_place n c w v r.alike) ∙ r.own) (same_session n c w v r.alike) (record { out = refl; more = refl; after = r })
    (λ s t is. slot_alike n c sub rank w v s t (live_at sub rank s.board.round) (live_at sub rank t.board.round) r is
    (sym (live_same sub rank s.board.round) ∙ ap (λ (x : Session). live_at sub rank x.board.round) is.2 ∙ live_same sub rank t.board.round))

-- requests
abbrev AlikeAfter : ℕ → ℕ → Stepped → Stepped → Type 0
AlikeAfter n c a b = StepsAs (Alike n c) a b

says_alike : (n c : ℕ) (w v : World) (text : List ℕ) → Alike n c w v → AlikeAfter n c (stays w (on w c text)) (stays v (on v c text))
says_alike n c w v text e = record { outs = ap (λ name. out.Line name text ∷ []) (same_name n c w v e); after = e }

operated_alike : (n c : ℕ) (w v : World) (req : List ℕ) (s t : Session) (code code' : Option ℕ) (f g : Session → Session) → Alike n c w v
    → Sessions n w v s t → code ≡ code' → unnumbered (f s) ≡ unnumbered (g t) → AlikeAfter n c (operated w c req n code f) (operated v c req n code' g)
operated_alike n c w v req s t code code' f g e is same as' =
    subst (λ x. AlikeAfter n c (operated w c req n code f) (operated v c req n x g)) same (by_code code)
  where
    by_code : (o : Option ℕ) → AlikeAfter n c (operated w c req n o f) (operated v c req n o g)
    by_code None = record {
      outs = ap (λ name. out.Line name (text_of_line (line.ReqOk req)) ∷ []) (same_name n c w v e);
      after = changed_alike n c w v s t f g e is as';
    }
    by_code (Some x) = says_alike n c w v (text_of_line (line.ReqErr req x (message_of x))) e

add_alike : (n c : ℕ) (w v : World) (s t : Session) (a : Add) → Alike n c w v → unnumbered s ≡ unnumbered t
    → unnumbered (subscribed w a s) ≡ unnumbered (subscribed v a t)
add_alike n c w v s t a e same =
    ap (λ (b : Board). trimmed (record s { board = b }))
    (added_same w.items (free_number w.sessions) a.sub (length a.schema) (asks_of (definitions w.items) a) s.board)
    ∙ (λ i. numbered (added (same_items n c w v e i) (λ item. 0) a.sub (length a.schema) (asks_of (definitions (same_items n c w v e i)) a)) (same i))
    ∙ ap (λ (b : Board). trimmed (record t { board = b }))
    (sym (added_same v.items (free_number v.sessions) a.sub (length a.schema) (asks_of (definitions v.items) a) t.board))

code_alike : (n c : ℕ) (w v : World) (s t : Session) (a : Add) → Alike n c w v → unnumbered s ≡ unnumbered t
    → lacks_slots_for w (op.Add a) ≡ lacks_slots_for v (op.Add a) → add_code w s a ≡ add_code v t a
code_alike n c w v s t a e same lacks =
    ap first_code (sym (refusals_same (definitions w.items) (free_slots w.sessions) s a)
    ∙ (λ i. refusals_by (definitions (same_items n c w v e i)) (lacks i) (same i) a)
    ∙ refusals_same (definitions v.items) (free_slots v.sessions) t a)

remove_alike : (sub : ℕ) (s t : Session) → unnumbered s ≡ unnumbered t → unnumbered (numbered (removed sub) s) ≡ unnumbered (numbered (removed sub) t)
remove_alike sub s t same =
    ap (λ (b : Board). trimmed (record s { board = b })) (sym (removed_same sub s.board))
    ∙ ap (numbered (removed sub)) same
    ∙ ap (λ (b : Board). trimmed (record t { board = b })) (removed_same sub t.board)

reconf_alike : (sub : ℕ) (frequency : Option ℕ) (s t : Session) → unnumbered s ≡ unnumbered t
    → unnumbered (numbered (reconfigured sub frequency) s) ≡ unnumbered (numbered (reconfigured sub frequency) t)
reconf_alike sub frequency s t same =
    ap (λ (b : Board). trimmed (record s { board = b })) (sym (reconfigured_same sub frequency s.board))
    ∙ ap (numbered (reconfigured sub frequency)) same
    ∙ ap (λ (b : Board). trimmed (record t { board = b })) (reconfigured_same sub frequency t.board)

operates_alike : (n c : ℕ) (w v : World) (req : List ℕ) (o : Op) (s t : Session) → Alike n c w v → Sessions n w v s t
    → lacks_slots_for w o ≡ lacks_slots_for v o → AlikeAfter n c (operates w c req o n s) (operates v c req o n t)
operates_alike n c w v req (op.Add a) s t e is room =
    operated_alike n c w v req s t (add_code w s a) (add_code v t a) (subscribed w a) (subscribed v a) e is (code_alike n c w v s t a e is.2 room)
    (add_alike n c w v s t a e is.2)
operates_alike n c w v req (op.Delete sub) s t e is room =
    operated_alike n c w v req s t (change_code s sub) (change_code t sub) (numbered (removed sub)) (numbered (removed sub)) e is
    (sym (change_same s sub) ∙ ap (λ x. change_code x sub) is.2 ∙ change_same t sub) (remove_alike sub s t is.2)
operates_alike n c w v req (op.Reconf sub frequency) s t e is room =
    operated_alike n c w v req s t (change_code s sub) (change_code t sub) (numbered (reconfigured sub frequency)) (numbered (reconfigured sub frequency)) e is
    (sym (change_same s sub) ∙ ap (λ x. change_code x sub) is.2 ∙ change_same t sub) (reconf_alike sub frequency s t is.2)
operates_alike n c w v req (op.Constrain limit) s t e is room =
    operated_alike n c w v req s t (constrain_code s) (constrain_code t) (constrained limit) (constrained limit) e is
    (ap (λ x. constrain_code x) is.2) (ap (constrained limit) is.2)
operates_alike n c w v req op.ForceRebind s t e is room =
    operated_alike n c w v req s t None None forced forced e is refl (ap forced is.2)
operates_alike n c w v req op.Destroy s t e is room =
    operated_alike n c w v req s t None None (ended destroyed) (ended destroyed) e is refl (ap (ended destroyed) is.2)

-- a session that means this one
is_meant : (n : ℕ) (o : Option ℕ) → option_map_or (λ m. m == n) o false ≡ true → o ≡ Some n
is_meant n None own = cc
is_meant n (Some m) own = ap Some (eqb-true m n own)

pub same_named : (n c : ℕ) (w v : World) (o : Option ℕ) → Alike n c w v → session_named w c o ≡ session_named v c o
same_named n c w v None e = same_place n c w v e
same_named n c w v (Some zero) e = refl
same_named n c w v (Some (suc m)) e = refl

living_alike : (n c : ℕ) (w v : World) (req : List ℕ) (o : Op) (s t : Session) (a b : Bool) → a ≡ b → Alike n c w v → Sessions n w v s t
    → lacks_slots_for w o ≡ lacks_slots_for v o
    → AlikeAfter n c (cond a (operates w c req o n s) (refuses w c req 20)) (cond b (operates v c req o n t) (refuses v c req 20))
living_alike n c w v req o s t true true q e is room = operates_alike n c w v req o s t e is room
living_alike n c w v req o s t false false q e is room = says_alike n c w v (text_of_line (line.ReqErr req 20 (message_of 20))) e
living_alike n c w v req o s t true false q e is room = absurd (let y : true ≡ false = q in cc)
living_alike n c w v req o s t false true q e is room = absurd (let y : false ≡ true = q in cc)

-- a bind
pub change_at : {A : Type 0} (n : ℕ) (f : A → A) (xs : List A) → slice_get (change n f xs) n ≡ option_map f (slice_get xs n)
change_at n f [] = refl
change_at zero f (x ∷ xs) = refl
change_at (suc n) f (x ∷ xs) = change_at n f xs

linked_alike : (n c session epoch epoch' : ℕ) (w v : World) → epoch ≡ epoch' → Alike n c w v
    → Alike n c (with_link c session epoch w) (with_link c session epoch' v)
linked_alike n c session epoch epoch' w v as' e =
    let link : ℕ → Connection → Connection = λ m k. record k { session = Some session; epoch = m } in
    let here : slice_get (change c (link epoch) w.connections) c ≡ slice_get (change c (link epoch') v.connections) c =
    change_at c (link epoch) w.connections
    ∙ ((λ i. option_map (link (as' i)) (same_connection n c w v e i)) ∙ sym (change_at c (link epoch') v.connections)) in
    λ i. record { items = (e i).items; tick = (e i).tick; line = (e i).line; connection = here i; session = (e i).session }

bound_alike : (n c : ℕ) (w v : World) (s t : Session) (b : Bind) → Alike n c w v → Sessions n w v s t
    → AlikeAfter n c (with_found (bind_code s b) (stays (bound w c n s b) []) (refuses_stream w c))
    (with_found (bind_code t b) (stays (bound v c n t b) []) (refuses_stream v c))
bound_alike n c w v s t b e is =
    subst (λ x. AlikeAfter n c (with_found (bind_code s b) (stays (bound w c n s b) []) (refuses_stream w c))
    (with_found x (stays (bound v c n t b) []) (refuses_stream v c))) (ap (λ x. bind_code x b) is.2) (by_code (bind_code s b))
  where
    by_code : (o : Option ℕ) → AlikeAfter n c (with_found o (stays (bound w c n s b) []) (refuses_stream w c))
        (with_found o (stays (bound v c n t b) []) (refuses_stream v c))
    by_code None =
        record {
          outs = refl;
          after = linked_alike n c n (length s.streams + 1) (length t.streams + 1) (record w { sessions = change n (rebound b.session b) w.sessions })
              (record v { sessions = change n (rebound b.session b) v.sessions }) (ap (λ (x : Session). length x.streams + 1) is.2)
              (changed_alike n c w v s t (rebound b.session b) (rebound b.session b) e is (ap (rebound b.session b) is.2));
        }
    by_code (Some code) = says_alike n c w v (text_of_line (line.ConErr code (message_of code))) e

binds_alike : (n c : ℕ) (w v : World) (b : Bind) → Alike n c w v → session_named w c (Some b.session) ≡ Some n
    → AlikeAfter n c (binds w c b) (binds v c b)
binds_alike n c w v b e is =
    both_rule (AlikeAfter n c) n w v (session_named w c (Some b.session)) (session_named v c (Some b.session)) (refuses_stream w c 20)
    (refuses_stream v c 20)
    (λ m s. cond (is_alive s.life) (with_found (bind_code s b) (stays (bound w c m s b) []) (refuses_stream w c)) (refuses_stream w c 20))
    (λ m t. cond (is_alive t.life) (with_found (bind_code t b) (stays (bound v c m t b) []) (refuses_stream v c)) (refuses_stream v c 20))
    is (sym (same_named n c w v (Some b.session) e) ∙ is) (same_session n c w v e) unknown
    (λ s t z. by_life s t z (is_alive s.life) (is_alive t.life) (ap (λ (y : Session). is_alive y.life) z.2))
  where
    unknown : AlikeAfter n c (refuses_stream w c 20) (refuses_stream v c 20)
    unknown = says_alike n c w v (text_of_line (line.ConErr 20 (message_of 20))) e

    by_life : (s t : Session) → Sessions n w v s t → (p q : Bool) → p ≡ q → AlikeAfter n c
        (cond p (with_found (bind_code s b) (stays (bound w c n s b) []) (refuses_stream w c)) (refuses_stream w c 20))
        (cond q (with_found (bind_code t b) (stays (bound v c n t b) []) (refuses_stream v c)) (refuses_stream v c 20))
    by_life s t z true true as' = bound_alike n c w v s t b e z
    by_life s t z false false as' = unknown
    by_life s t z true false as' = absurd (let y : true ≡ false = as' in cc)
    by_life s t z false true as' = absurd (let y : false ≡ true = as' in cc)

acts_alike : (n c : ℕ) (w v : World) (r : Request) → Alike n c w v → option_map_or (λ m. m == n) (session_asked w c (Some r)) false ≡ true
    → lacks_slots_of w r ≡ lacks_slots_of v r → AlikeAfter n c (acts w c r) (acts v c r)
acts_alike n c w v (request.Create x) e own room = absurd (let y : false ≡ true = own in cc)
acts_alike n c w v (request.Bind x) e own room = binds_alike n c w v x e (is_meant n (session_named w c (Some x.session)) own)
acts_alike n c w v (request.Control x) e own room =
    let is : session_named w c x.session ≡ Some n = is_meant n (session_named w c x.session) own in
    both_rule (AlikeAfter n c) n w v (session_named w c x.session) (session_named v c x.session) (refuses w c x.req 20) (refuses v c x.req 20)
    (λ m s. cond (is_alive s.life) (operates w c x.req x.op m s) (refuses w c x.req 20))
    (λ m t. cond (is_alive t.life) (operates v c x.req x.op m t) (refuses v c x.req 20)) is (sym (same_named n c w v x.session e) ∙ is)
    (same_session n c w v e) (says_alike n c w v (text_of_line (line.ReqErr x.req 20 (message_of 20))) e)
    (λ s t z. living_alike n c w v x.req x.op s t (is_alive s.life) (is_alive t.life) (ap (λ (y : Session). is_alive y.life) z.2) e z room)
acts_alike n c w v request.Wsok e own room = says_alike n c w v (text_of_line line.WsOk) e

malformed_alike : (n c : ℕ) (w v : World) (name : List ℕ) (req : Option (List ℕ)) → Alike n c w v
    → AlikeAfter n c (malformed w c name req) (malformed v c name req)
malformed_alike n c w v name req e = by_name (is_opening name) req
  where
    by_req : (o : Option (List ℕ)) → AlikeAfter n c (with_found o (stays w (on w c (text_of_line (line.Error 65 (message_of 65))))) (λ r. refuses w c r 65))
        (with_found o (stays v (on v c (text_of_line (line.Error 65 (message_of 65))))) (λ r. refuses v c r 65))
    by_req None = says_alike n c w v (text_of_line (line.Error 65 (message_of 65))) e
    by_req (Some r) = says_alike n c w v (text_of_line (line.ReqErr r 65 (message_of 65))) e

    by_name : (b : Bool) (o : Option (List ℕ)) → AlikeAfter n c
        (cond b (stays w (on w c (text_of_line (line.ConErr 65 (message_of 65)))))
        (with_found o (stays w (on w c (text_of_line (line.Error 65 (message_of 65))))) (λ r. refuses w c r 65)))
        (cond b (stays v (on v c (text_of_line (line.ConErr 65 (message_of 65)))))
        (with_found o (stays v (on v c (text_of_line (line.Error 65 (message_of 65))))) (λ r. refuses v c r 65)))
    by_name true o = says_alike n c w v (text_of_line (line.ConErr 65 (message_of 65))) e
    by_name false o = by_req o

requests_alike : (n c : ℕ) (w v : World) (l : LinkKind) (name : List ℕ) (ps : Option (List Pair)) → Alike n c w v
    → option_map_or (λ m. m == n) (session_asked w c (request_over l name ps)) false ≡ true
    → option_map_or (lacks_slots_of w) (request_over l name ps) false ≡ option_map_or (lacks_slots_of v) (request_over l name ps) false
    → AlikeAfter n c (requests w c l name ps) (requests v c l name ps)
requests_alike n c w v l name ps e own room = by_request (request_over l name ps) own room
  where
    by_request : (o : Option Request) → option_map_or (λ m. m == n) (session_asked w c o) false ≡ true
        → option_map_or (lacks_slots_of w) o false ≡ option_map_or (lacks_slots_of v) o false
        → AlikeAfter n c (with_found o (malformed w c name (option_and_then (req_behind name) ps)) (acts w c))
        (with_found o (malformed v c name (option_and_then (req_behind name) ps)) (acts v c))
    by_request None own room = malformed_alike n c w v name (option_and_then (req_behind name) ps) e
    by_request (Some r) own room = acts_alike n c w v r e own room

-- a loss
loses_alike : (n c : ℕ) (w v : World) → Alike n c w v → session_of w c ≡ Some n → AlikeAfter n c (loses w c) (loses v c)
loses_alike n c w v e is =
    both_rule (AlikeAfter n c) n w v (session_of w c) (session_of v c) _ _ _ _ is (sym (same_place n c w v e) ∙ is) (same_session n c w v e)
    (record { outs = refl; after = e })
    (λ s t z. by_test s t z (nat_lt (epoch_of w c) (length s.streams)) (nat_lt (epoch_of v c) (length t.streams))
    (λ i. nat_lt (same_epoch n c w v e i) (length (z.2 i).streams)) (is_bound s) (is_bound t) (ap (λ (x : Session). is_bound x) z.2))
  where
    by_test : (s t : Session) → Sessions n w v s t → (a b : Bool) → a ≡ b → (p q : Bool) → p ≡ q → AlikeAfter n c
        (cond a (stays w (out.Superseded (length s.streams) ∷ [])) (cond p
        (record { after = record w { sessions = change n (unbound_at w.tick) w.sessions }; outs = out.Lost ∷ [] }) (stays w (out.Unbound ∷ []))))
        (cond b (stays v (out.Superseded (length t.streams) ∷ [])) (cond q
        (record { after = record v { sessions = change n (unbound_at v.tick) v.sessions }; outs = out.Lost ∷ [] }) (stays v (out.Unbound ∷ []))))
    by_test s t z true true as' p q pq = record { outs = ap (λ (x : Session). out.Superseded (length x.streams) ∷ []) z.2; after = e }
    by_test s t z false false as' true true pq =
        record {
          outs = refl;
          after = changed_alike n c w v s t (unbound_at w.tick) (unbound_at v.tick) e z (λ i. unbound_at (same_tick n c w v e i) (z.2 i));
        }
    by_test s t z false false as' false false pq = record { outs = refl; after = e }
    by_test s t z true false as' p q pq = absurd (let y : true ≡ false = as' in cc)
    by_test s t z false true as' p q pq = absurd (let y : false ≡ true = as' in cc)
    by_test s t z false false as' true false pq = absurd (let y : true ≡ false = pq in cc)
    by_test s t z false false as' false true pq = absurd (let y : false ≡ true = pq in cc)

-- a step
abbrev OwnStep : ℕ → ℕ → World → World → Step → ℕ → Type 0
OwnStep n c w v s times = is_own n w s ≡ true → lacks_slots w s ≡ lacks_slots v s
    → AlikeAfter n c (does w s times) (does v s times)

standing : (n c : ℕ) (a b : Stepped) → StepsAs (Standing n c) a b → AlikeAfter n c a b
standing n c a b r = record { outs = r.outs; after = r.after.alike }

pub own_alike : (n c : ℕ) (w v : World) (s : Step) (times : ℕ) → Alike n c w v → connection_of s ≡ Some c → OwnStep n c w v s times
own_alike n c w v (step.Set name) times e at = absurd (let y : None ≡ Some c = at in cc)
own_alike n c w v (step.Item name k fields) times e at = absurd (let y : None ≡ Some c = at in cc)
own_alike n c w v (step.Tick ms) times e at = absurd (let y : None ≡ Some c = at in cc)
own_alike n c w v (step.Conn name l) times e at = absurd (let y : None ≡ Some c = at in cc)
own_alike n c w v (step.Open name) times e at = absurd (let y : None ≡ Some c = at in cc)
own_alike n c w v (step.Add x words) times e at =
    subst (λ y. OwnStep n c w v (step.Add y words) times) (sym (the_same x c at))
    (λ own room. subst (λ k. AlikeAfter n c (requests w c link.Ws (codes "control") (add_pairs w.line words))
    (requests v c link.Ws (codes "control") (add_pairs k words)))
    (same_line n c w v e) (requests_alike n c w v link.Ws (codes "control") (add_pairs w.line words) e own
    (room ∙ sym (ap (λ k. option_map_or (lacks_slots_of v) (request_over link.Ws (codes "control") (add_pairs k words)) false) (same_line n c w v e)))))
own_alike n c w v (step.Request x name parameters) times e at =
    subst (λ y. OwnStep n c w v (step.Request y name parameters) times) (sym (the_same x c at))
    (λ own room. subst (λ l. AlikeAfter n c (requests w c (link_of w c) name (form_of parameters)) (requests v c l name (form_of parameters)))
    (same_link n c w v e) (requests_alike n c w v (link_of w c) name (form_of parameters) e own
    (room ∙ sym (ap (λ l. option_map_or (lacks_slots_of v) (request_over l name (form_of parameters)) false) (same_link n c w v e)))))
own_alike n c w v (step.Publish adapter seq item cells) times e at = absurd (let y : None ≡ Some c = at in cc)
own_alike n c w v (step.Clear adapter seq item) times e at = absurd (let y : None ≡ Some c = at in cc)
own_alike n c w v (step.Enqueue x sub rank) times e at =
    subst (λ y. OwnStep n c w v (step.Enqueue y sub rank) times) (sym (the_same x c at))
    (λ own room. standing n c (does w (step.Enqueue c sub rank) times) (does v (step.Enqueue c sub rank) times)
    (repeated_as (Standing n c) (enqueue_once c sub rank) times w v (λ a b r. enqueued_alike n c sub rank a b r)
    (record { alike = e; own = is_meant n (session_of w c) own })))
own_alike n c w v (step.Take x) times e at =
    subst (λ y. OwnStep n c w v (step.Take y) times) (sym (the_same x c at))
    (λ own room. standing n c (does w (step.Take c) times) (does v (step.Take c) times)
    (repeated_as (Standing n c) (take_once c) times w v (λ a b r. take_alike n c a b r) (record { alike = e; own = is_meant n (session_of w c) own })))
own_alike n c w v (step.Lose x) times e at =
    subst (λ y. OwnStep n c w v (step.Lose y) times) (sym (the_same x c at)) (λ own room. loses_alike n c w v e (is_meant n (session_of w c) own))
