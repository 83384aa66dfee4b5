-- New streams of sessions, and lost ones.
use Rattle.std.proofs.Common.{◌≡◌, ℕ, zero, suc, ◌+◌, ◌<◌, ◌≤◌, List, [], ◌∷◌, ◌++◌, length, map, get_or, refl, sym, ◌∙◌, ap, arith, subst, cond, Bool, true, false}
use Rattle.std.proofs.Common.{append-nil, append_assoc, nat_lt, slice_get, slice_index_or, Option, Some, None}
use Rattle.std.proofs.lemmas.Bool.{eq-eqb}
use Rattle.ls_value.specs.declared.limits.TheConstants.{GREATEST_TICK}
use Rattle.ls_request.specs.declared.request.Bind.{Bind}
use Rattle.ls_step.specs.declared.out.Out.TheVariants as out
use Rattle.ls_step.specs.declared.limits.TheConstants.{LONGEST_NOTE}
use Rattle.ls_step.specs.Notes.{text_of_out, room_for}
use Rattle.ls_record.specs.Cases.{with_found}
use Rattle.ls_record.specs.Acting.{bind_code}
use Rattle.ls_world.specs.World.{World}
use Rattle.ls_record.specs.Records.{Session, change, is_alive, is_bound, rebound, unbound_at}
use Rattle.ls_world.specs.Steps.{Stepped, stays, with_link, refuses_stream, bound, binds, loses, session_of, epoch_of}
use Rattle.ls_world.specs.Steps.{session_named, with_session}
use Rattle.ls_cells.specs.Cells.{StandsCells}
use Rattle.ls_cells.proofs.Lives.{SessionAt, session_at as session_at_place}
use Rattle.ls_session.specs.Record.{Record, begun_at, begun_anew, unless_ended, binding_code, loss_of, after_loss}
use Rattle.ls_session.specs.Session.{StandsSession}
use Rattle.ls_session.specs.declared.session.Lost.{Lost}
use Rattle.ls_session.specs.declared.session.Lost.TheVariants as lost
use Rattle.ls_session.specs.declared.session.Session.{Session as Kept}
use Rattle.ls_hub.specs.declared.hub.Hub.{Hub}
use Rattle.ls_hub.specs.Hub.{StandsHub, Prints, IsSession, seen, place_in}
use Rattle.ls_hub.specs.Requests.{IsLiving, DidOperate, unless_refused, living_place, binds_living, out_of_loss}
use Rattle.ls_hub.proofs.Connected.{linked_to}
use Rattle.ls_hub.proofs.KeptSessions.{change_as}
use Rattle.ls_hub.proofs.Hubs.{ChangedAt, There, changed_at, is_there, not_there, stayed}
use Rattle.ls_hub.proofs.Operated.{Replaces, became_at, session_there, done}
use Rattle.ls_hub.proofs.Repeats.{text_one}
use Rattle.ls_hub.proofs.Requested.{living_none, living_some}
use Rattle.ls_hub.proofs.Sessions.{session_read, number_read, anew_is}

-- a bind that names no session that hasn't ended, and one that does
pub unknown_bound : (h : Hub) (w : World) (n : ℕ) (b : Bind) (before after : List ℕ)
    → living_place w.sessions (session_named w n (Some b.session)) ≡ None → Prints (refuses_stream w n 20) before after h
    → Prints (binds w n b) before after h
unknown_bound h w n b before after none did =
    subst (λ (s : Stepped). Prints s before after h)
    (sym (living_none w.sessions (session_named w n (Some b.session)) (refuses_stream w n 20) (binds_living w n b) none)) did

-- the place of a session that is named
living_named : (w : World) (o : Option ℕ) (place : ℕ) → living_place w.sessions o ≡ Some place → o ≡ Some place
living_named w None place some = absurd (let x : None ≡ Some place = some in cc)
living_named w (Some n) place some = by_found (slice_get w.sessions n) some
  where
    by_found : (o : Option Session) → with_found o None (λ s. cond (is_alive s.life) (Some n) None) ≡ Some place → Some n ≡ Some place
    by_found None e = absurd (let x : None ≡ Some place = e in cc)
    by_found (Some s) e = by_life (is_alive s.life) e
      where
        by_life : (b : Bool) → cond {A = Option ℕ} b (Some n) None ≡ Some place → Some n ≡ Some place
        by_life true f = f
        by_life false f = absurd (let x : None ≡ Some place = f in cc)

named_there : (w : World) (n number place : ℕ) → session_named w n (Some number) ≡ Some place → number ≡ place + 1
named_there w n zero place some = absurd (let x : None ≡ Some place = some in cc)
named_there w n (suc m) place some = let same : m ≡ place = cc in omega (arith, same)

pub known_bound : (h : Hub) (w : World) (n : ℕ) (b : Bind) (place : ℕ) (before after : List ℕ)
    → living_place w.sessions (session_named w n (Some b.session)) ≡ Some place
    → ((s : Session) → IsLiving w place s → b.session ≡ place + 1 → Prints (binds_living w n b place s) before after h)
    → Prints (binds w n b) before after h
known_bound h w n b place before after some did =
    let l = living_some w (session_named w n (Some b.session)) place (refuses_stream w n 20) (binds_living w n b) some in
    subst (λ (s : Stepped). Prints s before after h) (sym l.is)
    (did l.session l.living (named_there w n b.session place (living_named w (session_named w n (Some b.session)) place some)))

-- one that is refused for the cause of a code
pub bind_refused : (h : Hub) (w : World) (n : ℕ) (b : Bind) (place : ℕ) (s : Session) (f : Session → Session) (code : ℕ) (before after : List ℕ)
    → DidOperate w place (bind_code s b) f (Some code) h → Prints (refuses_stream w n code) before after h
    → Prints (binds_living w n b place s) before after h
bind_refused h w n b place s f code before after d did =
    subst (λ (o : Option ℕ). Prints (with_found o (stays (bound w n place s b) []) (refuses_stream w n)) before after h) d.answered did

-- a hub in which a connection has a session and a stream of it
pub linked_stands : (h h' : Hub) (w : World) (n place epoch : ℕ) → StandsHub h w → h'.config ≡ h.config → h'.tick ≡ h.tick → h'.cells ≡ h.cells
    → h'.sessions ≡ h.sessions → h'.living ≡ h.living
    → map seen h'.connections.items ≡ change n (linked_to place epoch) (map seen h.connections.items) → StandsHub h' (with_link n place epoch w)
linked_stands h h' w n place epoch st config tick cells sessions living given =
    record {
      set = ap (λ x. x.set) config ∙ st.set;
      tick = tick ∙ st.tick;
      in_range = st.in_range;
      definitions = ap (λ x. x.items) config ∙ st.definitions;
      cells = rw cells st.cells;
      sessions = rw sessions st.sessions;
      numbers = rw sessions st.numbers;
      living = ap (λ x. x.items) living ∙ st.living;
      connections = given ∙ ap (change n (linked_to place epoch)) st.connections;
    }

-- what is kept of a session that was bound anew
abbrev pub IsBound : Kept → Kept → Bind → ℕ → ℕ → Type 0
IsBound k k' b epoch now =
    (r : Record) → StandsSession k r
    → (binding_code r.number r.session b ≡ None) × (epoch ≡ length r.session.streams + 1)
    × (r.floor ≤ now → now ≤ GREATEST_TICK → StandsSession k' (begun_at now (rebound r.number b r.session) r))

-- why a bind that names the session of a place is refused
pub named_code : (h : Hub) (w : World) (n : ℕ) (k : Kept) (q : Record) (b : Bind) → StandsHub h w → n < length h.sessions.items
    → k ≡ slice_index_or h.sessions.items n k → b.session ≡ n + 1 → StandsSession k q
    → (q.number ≡ b.session) × (binding_code q.number q.session b ≡ unless_ended q.session (bind_code q.session b))
named_code h w n k q b st low at named stands =
    let same : q.number ≡ b.session = omega (arith, stands.number, named, number_read 0 h.sessions.items n k st.numbers low at) in
    (same, ap (λ v. cond v (unless_ended q.session (bind_code q.session b)) (Some 20)) (eq-eqb q.number b.session same))

pub bind_done : (h h' : Hub) (w : World) (s : Session) (n place : ℕ) (k k' : Kept) (b : Bind) (epoch : ℕ) (text : List ℕ) → StandsHub h w
    → IsLiving w place s → b.session ≡ place + 1 → Replaces h (record h' { connections = h.connections }) place k k' → h'.living ≡ h.living → h'.cells ≡ h.cells
    → map seen h'.connections.items ≡ change n (linked_to place epoch) (map seen h.connections.items) → IsBound k k' b epoch h.tick
    → Prints (binds_living w n b place s) text text h'
bind_done h h' w s n place k k' b epoch text st l named r living cells given is =
    let between : Hub = record h' { connections = h.connections } in
    let i : IsSession w.tick k s = session_there h between w s place k k' st l r in
    let x = is i.asking i.stands in
    let d : DidOperate w place (bind_code s b) (rebound b.session b) None between =
    done h between w s place k k' (λ y. bind_code y b) (rebound b.session b) st l r living refl
    (λ q stands. sym (named_code h w place k q b st r.low r.at named stands).1 ∙ (is q stands).0)
    (λ told. became_at w s (rebound b.session b) k k' i.asking.floor h.tick i i.early
    (subst (λ (m : ℕ). StandsSession k' (begun_at h.tick (rebound m b i.asking.session) i.asking))
    (named_code h w place k i.asking b st r.low r.at named i.stands).0
    (x.2 (omega (arith, i.early, st.tick)) (omega (arith, st.tick, st.in_range)))))
    (λ told before after stands all. rw cells stands) in
    let changed : World = record w { sessions = change place (rebound b.session b) w.sessions } in
    let stands : StandsHub between changed =
    subst (λ (o : Option ℕ). StandsHub between (unless_refused o place (rebound b.session b) w)) (sym d.answered) d.stands in
    subst (λ (o : Option ℕ). Prints (with_found o (stays (bound w n place s b) []) (refuses_stream w n)) text text h') d.answered
    (record {
      text = sym (append-nil text);
      stands = subst (λ (e : ℕ). StandsHub h' (with_link n place e changed)) (x.1 ∙ ap (λ (y : Session). length y.streams + 1) i.session)
          (linked_stands between h' changed n place epoch stands refl refl refl refl refl given);
    })

-- the loss of a stream of a session, by what comes of it
abbrev lost_after : World → ℕ → Lost → World
lost_after w place lost.Unbound = record w { sessions = change place (unbound_at w.tick) w.sessions }
lost_after w place (lost.Superseded epoch) = w
lost_after w place lost.NotBound = w

abbrev lost_on : World → ℕ → ℕ → Session → Stepped
lost_on w epoch n s =
    cond (nat_lt epoch (length s.streams)) (stays w (out.Superseded (length s.streams) ∷ []))
    (cond (is_bound s) (record { after = record w { sessions = change n (unbound_at w.tick) w.sessions }; outs = out.Lost ∷ [] })
    (stays w (out.Unbound ∷ [])))

lost_is : (w : World) (epoch place : ℕ) (s : Session)
    → record { after = lost_after w place (loss_of epoch s); outs = out_of_loss (loss_of epoch s) ∷ [] } ≡ lost_on w epoch place s
lost_is w epoch place s = by_tests (nat_lt epoch (length s.streams)) (is_bound s)
  where
    loss : Bool → Bool → Lost
    loss a b = cond a (lost.Superseded (length s.streams)) (cond b lost.Unbound lost.NotBound)

    by_tests : (a b : Bool) → record { after = lost_after w place (loss a b); outs = out_of_loss (loss a b) ∷ [] }
        ≡ cond a (stays w (out.Superseded (length s.streams) ∷ []))
        (cond b (record { after = record w { sessions = change place (unbound_at w.tick) w.sessions }; outs = out.Lost ∷ [] })
        (stays w (out.Unbound ∷ [])))
    by_tests true b = refl
    by_tests false true = refl
    by_tests false false = refl

-- its note has room
pub room_lost : (l : Lost) → room_for (out_of_loss l) ≡ LONGEST_NOTE
room_lost lost.Unbound = refl
room_lost (lost.Superseded epoch) = refl
room_lost lost.NotBound = refl

-- a session that stays, or has no stream from now on
lost_stands : (h h' : Hub) (w : World) (place : ℕ) (k k' : Kept) (s : Session) (l : Lost) → StandsHub h w → slice_get w.sessions place ≡ Some s
    → ChangedAt h h' place k' → h'.cells ≡ h.cells → (i : IsSession w.tick k s) → k.number ≡ place + 1 → StandsSession k' (after_loss h.tick l i.asking)
    → StandsHub h' (lost_after w place l)
lost_stands h h' w place k k' s l st found same cells i number stands = by_loss l stands
  where
    at : SessionAt w.sessions place s
    at = session_at_place w.sessions place s found

    these : StandsCells h'.cells w.items (at.before ++ s.board.round ++ at.after)
    these = rw cells (subst (StandsCells h.cells w.items) (at.all ∙ sym (append_assoc at.before s.board.round at.after)) st.cells)

    stays_there : StandsSession k' i.asking → StandsHub h' w
    stays_there still =
        stayed h' w place s s found refl
        (changed_at h h' w place k' s s at st found same
        (record { asking = i.asking; session = i.session; early = i.early; first = i.first; stands = still })
        (still.number ∙ sym i.stands.number ∙ number) refl these)

    by_loss : (l : Lost) → StandsSession k' (after_loss h.tick l i.asking) → StandsHub h' (lost_after w place l)
    by_loss lost.Unbound still =
        let s' : Session = unbound_at w.tick s in
        let gone : StandsSession k' (begun_anew w.tick s' i.asking) =
        subst (λ (n : ℕ). StandsSession k' (begun_anew n (unbound_at n s) i.asking)) st.tick
        (subst (λ (y : Session). StandsSession k' (begun_anew h.tick (unbound_at h.tick y) i.asking)) i.session still) in
        subst (λ ss. StandsHub h' (record w { sessions = ss })) (change_as place w.sessions s (λ y. s') (unbound_at w.tick) found refl)
        (changed_at h h' w place k' s s' at st found same (anew_is w.tick i.asking.number w.tick w.tick k' s' (omega arith) gone)
        (gone.number ∙ sym i.stands.number ∙ number) refl these)
    by_loss (lost.Superseded epoch) still = stays_there still
    by_loss lost.NotBound still = stays_there still

-- what a loss prints
pub lost_none : (h : Hub) (w : World) (connection : ℕ) (text last : List ℕ) → StandsHub h w → None ≡ place_in w.sessions (session_of w connection)
    → last ≡ text ++ text_of_out out.NoSession → Prints (loses w connection) text last h
lost_none h w connection text last st none is =
    subst (λ (s : Stepped). Prints s text last h)
    (sym (not_there w.sessions (session_of w connection) (stays w (out.NoSession ∷ [])) (lost_on w (epoch_of w connection)) none))
    (record { text = is ∙ ap (λ xs. text ++ xs) (sym (text_one out.NoSession)); stands = st })

pub lost_printed : (h h' : Hub) (w : World) (connection epoch place : ℕ) (k k' : Kept) (l : Lost) (text last : List ℕ) → StandsHub h w
    → Some place ≡ place_in w.sessions (session_of w connection) → epoch ≡ epoch_of w connection → place < length h.sessions.items
    → k ≡ get_or h.sessions.items place k → ChangedAt h h' place k' → h'.cells ≡ h.cells
    → ((r : Record) → StandsSession k r → r.floor ≤ h.tick → h.tick ≤ GREATEST_TICK
    → (l ≡ loss_of epoch r.session) × StandsSession k' (after_loss h.tick l r))
    → last ≡ text ++ text_of_out (out_of_loss l) → Prints (loses w connection) text last h'
lost_printed h h' w connection epoch place k k' l text last st linked newest low at same cells did is =
    let there : There w.sessions (session_of w connection) place (stays w (out.NoSession ∷ [])) (lost_on w epoch) =
    is_there w.sessions (session_of w connection) place (stays w (out.NoSession ∷ [])) (lost_on w epoch) linked in
    let s : Session = there.session in
    let i : IsSession w.tick k s = session_read w.tick h.sessions.items w.sessions place k s st.sessions low at there.found in
    let d = did i.asking i.stands (omega (arith, i.early, st.tick)) (omega (arith, st.tick, st.in_range)) in
    let number : k.number ≡ place + 1 = omega (arith, number_read 0 h.sessions.items place k st.numbers low at) in
    let loss : l ≡ loss_of epoch s = d.0 ∙ ap (loss_of epoch) i.session in
    subst (λ (x : Stepped). Prints x text last h')
    (ap (λ x. record { after = lost_after w place x; outs = out_of_loss x ∷ [] }) loss ∙ lost_is w epoch place s ∙ sym there.is
    ∙ ap (λ (n : ℕ). with_session w.sessions (session_of w connection) (stays w (out.NoSession ∷ [])) (lost_on w n)) newest)
    (record {
      text = is ∙ ap (λ xs. text ++ xs) (sym (text_one (out_of_loss l)));
      stands = lost_stands h h' w place k k' s l st there.found same cells i number d.1;
    })
