-- A create_session: why it is refused, and the hub with a session more.
use Rattle.std.proofs.Common.{◌≡◌, ℕ, zero, suc, ◌+◌, ◌<◌, ◌≤◌, List, [], ◌∷◌, ◌++◌, length, map, take, refl, sym, ◌∙◌, ap, arith, subst, cond, Bool, true, false, not}
use Rattle.std.proofs.Common.{Some, None, nat_le}
use Rattle.std.proofs.lemmas.Bool.Decides.{nat_tests}
use Rattle.std.proofs.lemmas.List.{length-map, take_at}
use Rattle.ls_value.specs.declared.limits.TheConstants.{GREATEST_NUMBER}
use Rattle.ls_request.specs.declared.request.Create.{Create}
use Rattle.ls_request.specs.declared.request.LinkKind.{LinkKind}
use Rattle.ls_world.specs.World.{World}
use Rattle.ls_record.specs.Records.{LiveSlot, alive, all_live, opened, change}
use Rattle.ls_world.specs.Acting.{create_code, is_set_of}
use Rattle.ls_record.specs.Cases.{with_found}
use Rattle.ls_world.specs.Steps.{Stepped, stays, connects, creates, created, refuses_stream}
use Rattle.ls_record.specs.declared.TheConstants.{MOST_SESSIONS}
use Rattle.ls_cells.specs.Cells.{StandsCells}
use Rattle.ls_cells.proofs.Lives.{all_live_more}
use Rattle.ls_session.specs.Record.{created as session_created}
use Rattle.ls_session.specs.Session.{StandsSession}
use Rattle.ls_session.specs.declared.session.Session.{Session as Kept}
use Rattle.ls_hub.specs.Hub.{StandsHub, StandsAsBefore, Prints, seen, living_from}
use Rattle.ls_hub.specs.declared.hub.Connection.{Connection as Linked}
use Rattle.ls_hub.specs.declared.hub.Hub.{Hub}
use Rattle.ls_hub.proofs.Alive.{living_count, living_next}
use Rattle.ls_hub.proofs.Connected.{linked_to}
use Rattle.ls_hub.proofs.Sessions.{as_many, kept_more, anew_is, numbers_more}

pub few : (m n : ℕ) → n < m → nat_le m n ≡ false
few m n low = grind (arith, nat_tests)

pub many : (m n : ℕ) → m ≤ n → nat_le m n ≡ true
many m n high = grind (arith, nat_tests)

-- as many places are kept as there are sessions that haven't ended
pub living_are : (h : Hub) (w : World) → StandsHub h w → length h.living.items ≡ alive w.sessions
living_are h w st = ap length st.living ∙ living_count 0 w.sessions

-- the code by its conditions
pub codes_are : (w : World) (c : Create) (set full spent : Bool) → is_set_of w c.set ≡ set → nat_le MOST_SESSIONS (alive w.sessions) ≡ full
    → nat_le GREATEST_NUMBER (length w.sessions) ≡ spent
    → create_code w c ≡ cond (not set) (Some 2) (cond full (Some 8) (cond spent (Some 74) None))
codes_are w c set full spent a b d =
    ap (λ x. cond (not x) (Some 2) (cond (nat_le MOST_SESSIONS (alive w.sessions)) (Some 8)
    (cond (nat_le GREATEST_NUMBER (length w.sessions)) (Some 74) None))) a
    ∙ ap (λ x. cond (not set) (Some 2) (cond x (Some 8) (cond (nat_le GREATEST_NUMBER (length w.sessions)) (Some 74) None))) b
    ∙ ap (λ x. cond (not set) (Some 2) (cond full (Some 8) (cond x (Some 74) None))) d

-- a create that is refused
pub refused_printed : (h : Hub) (w : World) (n : ℕ) (c : Create) (code : ℕ) (before after : List ℕ) → create_code w c ≡ Some code
    → Prints (refuses_stream w n code) before after h → Prints (creates w n c) before after h
refused_printed h w n c code before after some did =
    subst (λ (s : Stepped). Prints s before after h) (sym (ap (λ o. with_found o (stays (created w n c) []) (refuses_stream w n)) some)) did

-- a hub with a session more
pub begun : (h h' : Hub) (w : World) (n : ℕ) (c : Create) (place : ℕ) (k : Kept) → StandsHub h w → h'.config ≡ h.config → h'.tick ≡ h.tick
    → h'.cells ≡ h.cells
    → h'.living.items ≡ h.living.items ++ place ∷ [] → place ≡ length h.sessions.items → h'.sessions.items ≡ h.sessions.items ++ k ∷ []
    → StandsSession k (session_created (place + 1) h.tick (opened (place + 1) c.keepalive c.bandwidth c.length))
    → map seen h'.connections.items ≡ change n (linked_to place 1) (map seen h.connections.items)
    → StandsHub h' (created w n c)
begun h h' w n c place k st config tick cells living last more stands given =
    subst (λ (m : ℕ). StandsHub h' (record w {
      sessions = w.sessions ++ opened (m + 1) c.keepalive c.bandwidth c.length ∷ [];
      connections = change n (linked_to m 1) w.connections;
    })) (last ∙ as_many w.tick h.sessions.items w.sessions st.sessions)
    (record {
      set = ap (λ x. x.set) config ∙ st.set;
      tick = tick ∙ st.tick;
      in_range = st.in_range;
      definitions = ap (λ x. x.items) config ∙ st.definitions;
      cells = subst (λ x. StandsCells x w.items (all_live (w.sessions ++ opened (place + 1) c.keepalive c.bandwidth c.length ∷ []))) (sym cells)
          (subst (λ (vs : List LiveSlot). StandsCells h.cells w.items vs)
          (sym (all_live_more w.sessions (opened (place + 1) c.keepalive c.bandwidth c.length) refl)) st.cells);
      sessions = rw more
          (kept_more w.tick h.sessions.items w.sessions k (opened (place + 1) c.keepalive c.bandwidth c.length) st.sessions
          (anew_is w.tick (place + 1) h.tick h.tick k (opened (place + 1) c.keepalive c.bandwidth c.length) (omega (arith, st.tick)) stands));
      numbers = rw more (numbers_more 0 h.sessions.items k st.numbers (omega (arith, stands.number, last)));
      living = living ∙ ap (λ ns. ns ++ place ∷ []) st.living
          ∙ ap (λ m. living_from 0 w.sessions ++ m ∷ []) (last ∙ as_many w.tick h.sessions.items w.sessions st.sessions)
          ∙ sym (living_next w.sessions (opened (place + 1) c.keepalive c.bandwidth c.length) refl);
      connections = given ∙ ap (change n (linked_to place 1)) st.connections;
    })

-- the place of a new connection
pub connected_many : (h : Hub) (w : World) (n : ℕ) → StandsHub h w → n ≡ length h.connections.items → n ≡ length w.connections
connected_many h w n st is = is ∙ sym (length-map h.connections.items seen) ∙ ap length st.connections

-- a hub that differs in no list
pub record SameHub (h h' : Hub) : Type 0 where
  pub config : h'.config ≡ h.config
  pub tick : h'.tick ≡ h.tick
  pub cells : h'.cells ≡ h.cells
  pub connections : h'.connections.items ≡ h.connections.items
  pub sessions : h'.sessions.items ≡ h.sessions.items
  pub living : h'.living.items ≡ h.living.items

pub same_hub : (h h' : Hub) → SameHub h h' → StandsAsBefore h h'
same_hub h h' same w st =
    record {
      set = ap (λ x. x.set) same.config ∙ st.set;
      tick = same.tick ∙ st.tick;
      in_range = st.in_range;
      definitions = ap (λ x. x.items) same.config ∙ st.definitions;
      cells = subst (λ x. StandsCells x w.items (all_live w.sessions)) (sym same.cells) st.cells;
      sessions = rw same.sessions st.sessions;
      numbers = rw same.sessions st.numbers;
      living = same.living ∙ st.living;
      connections = ap (map seen) same.connections ∙ st.connections;
    }

-- a hub whose last connection is gone again
seen_first : (n : ℕ) (cs : List Linked) → map seen (take n cs) ≡ take n (map seen cs)
seen_first zero [] = refl
seen_first (suc n) [] = refl
seen_first zero (c ∷ cs) = refl
seen_first (suc n) (c ∷ cs) = ap (λ t. seen c ∷ t) (seen_first n cs)

pub disconnected : (h h' : Hub) (w : World) (name : List ℕ) (l : LinkKind) (n : ℕ) → StandsHub h (connects w name l) → n ≡ length w.connections
    → h'.config ≡ h.config → h'.tick ≡ h.tick → h'.cells ≡ h.cells → h'.sessions ≡ h.sessions → h'.living ≡ h.living
    → h'.connections.items ≡ take n h.connections.items → StandsHub h' w
disconnected h h' w name l n st many config tick cells sessions living is =
    record {
      set = ap (λ x. x.set) config ∙ st.set;
      tick = tick ∙ st.tick;
      in_range = st.in_range;
      definitions = ap (λ x. x.items) config ∙ st.definitions;
      cells = subst (λ x. StandsCells x w.items (all_live w.sessions)) (sym cells) st.cells;
      sessions = rw sessions st.sessions;
      numbers = rw sessions st.numbers;
      living = ap (λ x. x.items) living ∙ st.living;
      connections = ap (map seen) is ∙ seen_first n h.connections.items ∙ ap (take n) st.connections
          ∙ take_at w.connections (record { name = name; link = l; session = None; epoch = 0 } ∷ []) n (sym many);
    }
