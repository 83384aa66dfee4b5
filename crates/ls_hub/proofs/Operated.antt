-- An operation on the session of a place: it was refused, or the session changed and its slots joined or left.
use Rattle.std.proofs.Common.{◌≡◌, ℕ, ◌-◌, ◌<◌, ◌≤◌, List, ◌++◌, length, map, refl, sym, ◌∙◌, ap, arith, subst, cond, true}
use Rattle.std.proofs.Common.{Option, Some, None, slice_set, slice_index_or}
use Rattle.ls_event.specs.declared.limits.TheConstants.{MOST_SLOTS}
use Rattle.ls_request.specs.declared.request.Op.{Op}
use Rattle.ls_request.specs.declared.request.Op.TheVariants as op
use Rattle.ls_record.specs.Acting.{free_slots, destroyed}
use Rattle.ls_record.specs.Records.{Item, LiveSlot, Session, all_live, is_alive, change, ended}
use Rattle.ls_world.specs.World.{World}
use Rattle.ls_cells.specs.Cells.{StandsCells, free_in}
use Rattle.ls_cells.proofs.Items.{change_self}
use Rattle.ls_cells.proofs.Lives.{SessionAt, session_at}
use Rattle.ls_session.specs.Record.{Record, rests, begun_again, unless_ended}
use Rattle.ls_session.specs.Session.{StandsSession}
use Rattle.ls_session.specs.declared.session.Session.{Session as Kept}
use Rattle.ls_acts.specs.Acting.{act_code, acted_at, after_act, StandsAmong, Acts}
use Rattle.ls_hub.specs.Clock.{without_place}
use Rattle.ls_hub.specs.Hub.{StandsHub, IsSession, BeginsAnew, seen, living_from}
use Rattle.ls_hub.specs.Requests.{IsLiving, DidOperate, unless_refused, operation, operation_code, is_end}
use Rattle.ls_hub.specs.declared.hub.Hub.{Hub}
use Rattle.ls_hub.proofs.Alive.{living_changed, living_ends}
use Rattle.ls_hub.proofs.Sessions.{KeptAt, kept_read, session_read, kept_changed, anew_is, number_read, numbers_set}

-- a hub of which the session of a place is another one
pub record Replaces (h h' : Hub) (n : ℕ) (k k' : Kept) : Type 0 where
  pub low : n < length h.sessions.items
  pub at : k ≡ slice_index_or h.sessions.items n k
  pub config : h'.config ≡ h.config
  pub tick : h'.tick ≡ h.tick
  pub connections : h'.connections ≡ h.connections
  pub sessions : h'.sessions.items ≡ slice_set h.sessions.items n k'

-- the session of a place, as it is kept
pub session_there : (h h' : Hub) (w : World) (s : Session) (n : ℕ) (k k' : Kept) → StandsHub h w → IsLiving w n s → Replaces h h' n k k'
    → IsSession w.tick k s
session_there h h' w s n k k' st l r = session_read w.tick h.sessions.items w.sessions n k s st.sessions r.low r.at l.found

-- what a session that hasn't ended is refused for
pub living_code : (s : Session) (code : Option ℕ) → is_alive s.life ≡ true → unless_ended s code ≡ code
living_code s code living = ap (λ b. cond b code (Some 20)) living

-- what becomes of a session by a change that isn't refused: what is kept then stands for it, and it has its number
pub record Became (w : World) (s : Session) (f : Session → Session) (k k' : Kept) : Type 0 where
  pub is : IsSession w.tick k' (f s)
  pub number : k'.number ≡ k.number

-- at a tick of its own, or without one
pub became_at : (w : World) (s : Session) (f : Session → Session) (k k' : Kept) (floor tick : ℕ) → (i : IsSession w.tick k s) → floor ≤ w.tick
    → StandsSession k' (rests i.asking.number floor tick (f i.asking.session)) → Became w s f k k'
became_at w s f k k' floor tick i early stands =
    record {
      is = subst (λ (x : Session). IsSession w.tick k' (f x)) i.session
          (anew_is w.tick i.asking.number floor tick k' (f i.asking.session) early stands);
      number = stands.number ∙ sym i.stands.number;
    }

-- the hub with a session that changed
pub changed_stands : (h h' : Hub) (w : World) (s : Session) (n : ℕ) (k k' : Kept) (f : Session → Session) → StandsHub h w → IsLiving w n s
    → Replaces h h' n k k' → Became w s f k k' → h'.living.items ≡ living_from 0 (change n f w.sessions)
    → StandsCells h'.cells w.items (all_live (change n f w.sessions)) → StandsHub h' (record w { sessions = change n f w.sessions })
changed_stands h h' w s n k k' f st l r became living cells =
    record {
      set = ap (λ x. x.set) r.config ∙ st.set;
      tick = r.tick ∙ st.tick;
      in_range = st.in_range;
      definitions = ap (λ x. x.items) r.config ∙ st.definitions;
      cells = cells;
      sessions = rw r.sessions
          (kept_changed w.tick h.sessions.items w.sessions n k' s f st.sessions l.found became.is);
      numbers = rw r.sessions
          (numbers_set 0 h.sessions.items n k' st.numbers (became.number ∙ number_read 0 h.sessions.items n k st.numbers r.low r.at));
      living = living;
      connections = ap (λ x. map seen x.items) r.connections ∙ st.connections;
    }

-- the hub whose session of a place is another one that stands for the same, and whose cells stand for the same
pub unchanged : (h h' : Hub) (w : World) (n : ℕ) (k k' : Kept) → StandsHub h w → Replaces h h' n k k' → h'.living ≡ h.living
    → ((items : List Item) (lives : List LiveSlot) → StandsCells h.cells items lives → StandsCells h'.cells items lives)
    → ((q : Record) → StandsSession k q → StandsSession k' q) → StandsHub h' w
unchanged h h' w n k k' st r living cells same =
    let i : KeptAt w.tick k w.sessions n = kept_read w.tick h.sessions.items w.sessions n k st.sessions r.low r.at in
    let is : IsSession w.tick k i.session = i.stands in
    record {
      set = ap (λ x. x.set) r.config ∙ st.set;
      tick = r.tick ∙ st.tick;
      in_range = st.in_range;
      definitions = ap (λ x. x.items) r.config ∙ st.definitions;
      cells = cells w.items (all_live w.sessions) st.cells;
      sessions = rw (r.sessions, sym (change_self n w.sessions))
          (kept_changed w.tick h.sessions.items w.sessions n k' i.session (λ x. x) st.sessions i.found
          (record { asking = is.asking; session = is.session; early = is.early; first = is.first; stands = same is.asking is.stands }));
      numbers = rw r.sessions
          (numbers_set 0 h.sessions.items n k' st.numbers ((same is.asking is.stands).number ∙ sym is.stands.number
          ∙ number_read 0 h.sessions.items n k st.numbers r.low r.at));
      living = ap (λ x. x.items) living ∙ st.living;
      connections = ap (λ x. map seen x.items) r.connections ∙ st.connections;
    }

-- the hub after a refusal
pub refused : (h h' : Hub) (w : World) (s : Session) (n : ℕ) (k k' : Kept) (expected : Session → Option ℕ) (code : ℕ) (f : Session → Session)
    → StandsHub h w → IsLiving w n s → Replaces h h' n k k' → h'.living ≡ h.living → h'.cells ≡ h.cells
    → ((q : Record) → StandsSession k q → unless_ended q.session (expected q.session) ≡ Some code)
    → ((q : Record) → StandsSession k q → StandsSession k' q) → DidOperate w n (expected s) f (Some code) h'
refused h h' w s n k k' expected code f st l r living cells is same =
    let i : IsSession w.tick k s = session_there h h' w s n k k' st l r in
    let told : expected s ≡ Some code = sym (living_code s (expected s) l.alive)
    ∙ subst (λ (x : Session). unless_ended x (expected x) ≡ Some code) i.session (is i.asking i.stands) in
    record {
      answered = sym told;
      stands = subst (λ (o : Option ℕ). StandsHub h' (unless_refused o n f w)) (sym told)
          (unchanged h h' w n k k' st r living (λ items lives stands. rw cells stands) same);
    }

-- the hub after a change by which the session doesn't end
pub done : (h h' : Hub) (w : World) (s : Session) (n : ℕ) (k k' : Kept) (expected : Session → Option ℕ) (f : Session → Session)
    → StandsHub h w → IsLiving w n s → Replaces h h' n k k' → h'.living ≡ h.living → is_alive (f s).life ≡ is_alive s.life
    → ((q : Record) → StandsSession k q → unless_ended q.session (expected q.session) ≡ None)
    → (expected s ≡ None → Became w s f k k')
    → (expected s ≡ None → (before after : List LiveSlot) → StandsCells h.cells w.items (before ++ (s.board.round ++ after))
    → all_live w.sessions ≡ before ++ (s.board.round ++ after) → StandsCells h'.cells w.items (before ++ ((f s).board.round ++ after)))
    → DidOperate w n (expected s) f None h'
done h h' w s n k k' expected f st l r living same is stands cells =
    let i : IsSession w.tick k s = session_there h h' w s n k k' st l r in
    let told : expected s ≡ None = sym (living_code s (expected s) l.alive)
    ∙ subst (λ (x : Session). unless_ended x (expected x) ≡ None) i.session (is i.asking i.stands) in
    let at : SessionAt w.sessions n s = session_at w.sessions n s l.found in
    let b : Became w s f k k' = stands told in
    record {
      answered = sym told;
      stands = subst (λ (o : Option ℕ). StandsHub h' (unless_refused o n f w)) (sym told)
          (changed_stands h h' w s n k k' f st l r b
          (ap (λ x. x.items) living ∙ st.living ∙ sym (living_changed 0 w.sessions n s f l.found same))
          (subst (λ (vs : List LiveSlot). StandsCells h'.cells w.items vs) (sym (at.changed f))
          (cells told at.before at.after (subst (λ (vs : List LiveSlot). StandsCells h.cells w.items vs) at.all st.cells) at.all)));
    }

-- an operation on the session of a record
module _ (h h' : Hub) (w : World) (q : Record) (n : ℕ) (k k' : Kept) (st : StandsHub h w) (l : IsLiving w n q.session) (r : Replaces h h' n k k')
    (early : q.floor ≤ w.tick) (first : BeginsAnew q) (stands : StandsSession k q) where
  at : SessionAt w.sessions n q.session
  at = session_at w.sessions n q.session l.found

  became_rests : (f : Session → Session) (floor tick : ℕ) → floor ≤ w.tick → StandsSession k' (rests q.number floor tick (f q.session))
      → Became w q.session f k k'
  became_rests f floor tick low x =
      record { is = anew_is w.tick q.number floor tick k' (f q.session) low x; number = x.number ∙ sym stands.number }

  among : StandsAmong (StandsCells h.cells) k w.items at.before at.after q
  among = (stands, subst (StandsCells h.cells w.items) at.all st.cells)

  module _ (o : Op) (code : Option ℕ) (acts : Acts (StandsCells h.cells) (StandsCells h'.cells) k k' h.config.items h.tick o code)
      (living : h'.living.items ≡ cond (is_end o) (without_place n h.living.items) h.living.items) where
    abbrev after : Option ℕ → List LiveSlot → Record
    after c lives = after_act c h.tick w.items (free_in lives) o q

    did : (code ≡ act_code h.config.items (free_slots w.sessions) q.session o)
        × StandsAmong (StandsCells h'.cells) k' w.items at.before at.after (after code (all_live w.sessions))
    did =
        subst (λ (lives : List LiveSlot). (code ≡ act_code h.config.items (MOST_SLOTS - length lives) q.session o)
        × StandsAmong (StandsCells h'.cells) k' w.items at.before at.after (after code lives)) (sym at.all)
        (acts w.items at.before at.after q among st.definitions (omega (arith, early, st.tick)) (omega (arith, st.tick, st.in_range)))

    told : code ≡ operation_code w q.session o
    told =
        did.0 ∙ ap (λ defs. act_code defs (free_slots w.sessions) q.session o) st.definitions
        ∙ living_code q.session (operation_code w q.session o) l.alive

    acted_early : (p : Op) → acted_at h.tick p q.floor ≤ w.tick
    acted_early (op.Add a) = early
    acted_early (op.Delete sub) = early
    acted_early (op.Reconf sub frequency) = early
    acted_early (op.Constrain limit) = omega (arith, st.tick)
    acted_early op.Destroy = early
    acted_early op.ForceRebind = early

    -- the places of those that haven't ended
    stay : (f : Session → Session) → is_alive (f q.session).life ≡ is_alive q.session.life → h'.living.items ≡ h.living.items
        → h'.living.items ≡ living_from 0 (change n f w.sessions)
    stay f same is = is ∙ st.living ∙ sym (living_changed 0 w.sessions n q.session f l.found same)

    living_after : (p : Op) → h'.living.items ≡ cond (is_end p) (without_place n h.living.items) h.living.items
        → h'.living.items ≡ living_from 0 (change n (operation w p) w.sessions)
    living_after (op.Add a) is = stay (operation w (op.Add a)) refl is
    living_after (op.Delete sub) is = stay (operation w (op.Delete sub)) refl is
    living_after (op.Reconf sub frequency) is = stay (operation w (op.Reconf sub frequency)) refl is
    living_after (op.Constrain limit) is = stay (operation w (op.Constrain limit)) refl is
    living_after op.Destroy is =
        is ∙ ap (without_place n) st.living ∙ sym (living_ends w.sessions n q.session (ended destroyed) l.found l.alive refl)
    living_after op.ForceRebind is = stay (operation w op.ForceRebind) refl is

    living_same : (p : Op) (c : ℕ) → Some c ≡ operation_code w q.session p
        → h'.living.items ≡ cond (is_end p) (without_place n h.living.items) h.living.items → h'.living.items ≡ h.living.items
    living_same (op.Add a) c e is = is
    living_same (op.Delete sub) c e is = is
    living_same (op.Reconf sub frequency) c e is = is
    living_same (op.Constrain limit) c e is = is
    living_same op.Destroy c e is = absurd (let x : Some c ≡ None = e in cc)
    living_same op.ForceRebind c e is = absurd (let x : Some c ≡ None = e in cc)

    by_code : (c : Option ℕ) → c ≡ operation_code w q.session o
        → StandsAmong (StandsCells h'.cells) k' w.items at.before at.after (after c (all_live w.sessions))
        → StandsHub h' (unless_refused c n (operation w o) w)
    by_code None is x =
        changed_stands h h' w q.session n k k' (operation w o) st l r (became_rests (operation w o) (acted_at h.tick o q.floor) (acted_at h.tick o q.tick) (acted_early o) x.0) (living_after o living)
        (subst (λ (vs : List LiveSlot). StandsCells h'.cells w.items vs) (sym (at.changed (operation w o))) x.1)
    by_code (Some c) is x =
        subst (λ (ss : List Session). StandsHub h' (record w { sessions = ss })) (change_self n w.sessions)
        (changed_stands h h' w q.session n k k' (λ s. s) st l r
        (record {
          is = record { asking = q; session = refl; early = early; first = first; stands = x.0 };
          number = x.0.number ∙ sym stands.number;
        }) (stay (λ s. s) refl (living_same o c is living))
        (subst (λ (vs : List LiveSlot). StandsCells h'.cells w.items vs) (sym (at.changed (λ s. s))) x.1))

    did_operate : DidOperate w n (operation_code w q.session o) (operation w o) code h'
    did_operate =
        record {
          answered = told;
          stands = subst (λ (c : Option ℕ). StandsHub h' (unless_refused c n (operation w o) w)) told (by_code code told did.1);
        }

  did_end : (code : ℕ) → h'.living.items ≡ without_place n h.living.items
      → ((items : List Item) (before after : List LiveSlot) (p : Record) → StandsAmong (StandsCells h.cells) k items before after p
      → is_alive p.session.life ≡ true
      → StandsAmong (StandsCells h'.cells) k' items before after (begun_again (ended code p.session) p))
      → DidOperate w n None (ended code) None h'
  did_end code living ends =
      let x = ends w.items at.before at.after q among l.alive in
      record {
        answered = refl;
        stands = changed_stands h h' w q.session n k k' (ended code) st l r (became_rests (ended code) q.floor q.tick early x.0)
            (living ∙ ap (without_place n) st.living ∙ sym (living_ends w.sessions n q.session (ended code) l.found l.alive refl))
            (subst (λ (vs : List LiveSlot). StandsCells h'.cells w.items vs) (sym (at.changed (ended code))) x.1);
      }

-- an operation on the session of a place
pub operated : (h h' : Hub) (w : World) (s : Session) (n : ℕ) (k k' : Kept) (o : Op) (code : Option ℕ) → StandsHub h w → IsLiving w n s
    → Replaces h h' n k k' → h'.living.items ≡ cond (is_end o) (without_place n h.living.items) h.living.items
    → Acts (StandsCells h.cells) (StandsCells h'.cells) k k' h.config.items h.tick o code
    → DidOperate w n (operation_code w s o) (operation w o) code h'
operated h h' w s n k k' o code st l r living acts =
    let i : IsSession w.tick k s = session_there h h' w s n k k' st l r in
    subst (λ (x : Session). DidOperate w n (operation_code w x o) (operation w o) code h') i.session
    (did_operate h h' w i.asking n k k' st (subst (λ (x : Session). IsLiving w n x) (sym i.session) l) r i.early i.first i.stands o code acts living)

-- a session that ended for the cause of a code
pub ended_stands : (h h' : Hub) (w : World) (s : Session) (n : ℕ) (k k' : Kept) (code : ℕ) → StandsHub h w → IsLiving w n s
    → Replaces h h' n k k' → h'.living.items ≡ without_place n h.living.items
    → ((items : List Item) (before after : List LiveSlot) (p : Record) → StandsAmong (StandsCells h.cells) k items before after p
    → is_alive p.session.life ≡ true
    → StandsAmong (StandsCells h'.cells) k' items before after (begun_again (ended code p.session) p))
    → DidOperate w n None (ended code) None h'
ended_stands h h' w s n k k' code st l r living ends =
    let i : IsSession w.tick k s = session_there h h' w s n k k' st l r in
    did_end h h' w i.asking n k k' st (subst (λ (x : Session). IsLiving w n x) (sym i.session) l) r i.early i.first i.stands code living ends
