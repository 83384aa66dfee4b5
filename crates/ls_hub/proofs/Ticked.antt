-- The clock goes on, and the sessions end that were without a stream for too long.
use Rattle.std.proofs.Common.{◌≡◌, ℕ, zero, suc, ◌+◌, ◌<◌, ◌≤◌, List, [], ◌∷◌, ◌++◌, length, map, refl, sym, ◌∙◌, ap, arith, subst, cond, true, false}
use Rattle.std.proofs.Common.{append-nil, append_assoc, slice_get, slice_index_or, nat_le, ◌&&◌, Bool, Option, Some, None}
use Rattle.std.specs.Option.{option_map_or}
use Rattle.ls_value.specs.declared.limits.TheConstants.{GREATEST_TICK}
use Rattle.ls_step.specs.declared.step.Step.TheVariants as step
use Rattle.ls_step.specs.declared.step.Step.{Step}
use Rattle.ls_step.specs.Ranges.{Fits, LaterTick}
use Rattle.ls_world.specs.Script.{known_of}
use Rattle.ls_world.specs.Steps.{does, ticks}
use Rattle.ls_record.specs.declared.TheConstants.{MOST_UNBOUND}
use Rattle.ls_world.specs.World.{World}
use Rattle.ls_record.specs.Records.{Session, alive, change, is_alive, ended, timed_out, is_timed_out}
use Rattle.ls_record.specs.Records.{unless_timed_out}
use Rattle.ls_session.specs.Record.{Record}
use Rattle.ls_session.specs.Session.{StandsSession}
use Rattle.ls_session.specs.declared.session.Session.{Session as Kept}
use Rattle.ls_hub.specs.declared.hub.Hub.{Hub}
use Rattle.ls_hub.specs.Clock.{Clocked}
use Rattle.ls_hub.specs.Hub.{StandsHub, Prints, IsSession, living_from}
use Rattle.ls_hub.specs.Requests.{IsLiving, DidOperate}
use Rattle.ls_hub.proofs.Alive.{FirstLiving, first_living, ended_stay, alive_both, alive_first, living_count, living_both}
use Rattle.ls_hub.proofs.Sessions.{none_kept, session_read, are_later}

-- whether the time of a session is out, as it is kept: it is alive, and its stream is gone for so long; or it isn't alive
pub timed_out_is : (h : Hub) (w : World) (n : ℕ) (k : Kept) (s : Session) (living : Bool) (since : Option ℕ) (out : Bool) → StandsHub h w
    → n < length h.sessions.items → k ≡ slice_index_or h.sessions.items n k → slice_get w.sessions n ≡ Some s
    → ((r : Record) → StandsSession k r → living ≡ is_alive r.session.life) → living ≡ true
    → ((r : Record) → StandsSession k r → since ≡ r.session.unbound)
    → out ≡ option_map_or (λ tick. nat_le (tick + MOST_UNBOUND) h.tick) since false → out ≡ is_timed_out w.tick s
timed_out_is h w n k s living since out st low at found lives true_is gone is =
    let i : IsSession w.tick k s = session_read w.tick h.sessions.items w.sessions n k s st.sessions low at found in
    is ∙ ap (λ o. option_map_or (λ tick. nat_le (tick + MOST_UNBOUND) h.tick) o false)
    (gone i.asking i.stands ∙ ap (λ (x : Session). x.unbound) i.session)
    ∙ ap (λ now. option_map_or (λ tick. nat_le (tick + MOST_UNBOUND) now) s.unbound false) st.tick
    ∙ sym (ap (λ b. b && option_map_or (λ tick. nat_le (tick + MOST_UNBOUND) w.tick) s.unbound false)
    (sym (lives i.asking i.stands ∙ ap (λ (x : Session). is_alive x.life) i.session) ∙ true_is))

pub living_is : (h : Hub) (w : World) (n : ℕ) (k : Kept) (s : Session) (living : Bool) → StandsHub h w
    → n < length h.sessions.items → k ≡ slice_index_or h.sessions.items n k → slice_get w.sessions n ≡ Some s
    → ((r : Record) → StandsSession k r → living ≡ is_alive r.session.life) → living ≡ false → living ≡ is_timed_out w.tick s
living_is h w n k s living st low at found lives is =
    let i : IsSession w.tick k s = session_read w.tick h.sessions.items w.sessions n k s st.sessions low at found in
    is ∙ sym (ap (λ b. b && option_map_or (λ tick. nat_le (tick + MOST_UNBOUND) w.tick) s.unbound false)
    (sym (lives i.asking i.stands ∙ ap (λ (x : Session). is_alive x.life) i.session) ∙ is))

-- a session that isn't there
pub nothing_there : (h : Hub) (w : World) (n : ℕ) (s : Session) → StandsHub h w → length h.sessions.items ≤ n → slice_get w.sessions n ≡ Some s → ⊥
nothing_there h w n s st high found =
    let e : None ≡ Some s = sym (none_kept w.tick h.sessions.items w.sessions n st.sessions high) ∙ found in
    absurd cc

map_both : {A B : Type 0} (f : A → B) (xs ys : List A) → map f (xs ++ ys) ≡ map f xs ++ map f ys
map_both f [] ys = refl
map_both f (x ∷ xs) ys = ap (λ zs. f x ∷ zs) (map_both f xs ys)

-- the element behind others
behind_at : {A : Type 0} (xs ys : List A) (y : A) → slice_get (xs ++ y ∷ ys) (length xs) ≡ Some y
behind_at [] ys y = refl
behind_at (x ∷ xs) ys y = behind_at xs ys y

behind_changed : {A : Type 0} (f : A → A) (xs ys : List A) (y : A) → change (length xs) f (xs ++ y ∷ ys) ≡ xs ++ f y ∷ ys
behind_changed f [] ys y = refl
behind_changed f (x ∷ xs) ys y = ap (λ zs. x ∷ zs) (behind_changed f xs ys y)

read_is : {A : Type 0} (xs : List A) (n : ℕ) (x y : A) → slice_get xs n ≡ Some y → x ≡ slice_index_or xs n x → x ≡ y
read_is [] n x y found at = absurd (let e : None ≡ Some y = found in cc)
read_is (z ∷ xs) zero x y found at = let same : z ≡ y = cc in at ∙ same
read_is (z ∷ xs) (suc n) x y found at = read_is xs n x y found at

past_none : {A : Type 0} (xs : List A) (n : ℕ) (y : A) → slice_get xs n ≡ Some y → length xs ≤ n → ⊥
past_none [] n y found high = absurd (let e : None ≡ Some y = found in cc)
past_none (z ∷ xs) zero y found high = omega (arith, high)
past_none (z ∷ xs) (suc n) y found high = past_none xs n y found (omega (arith, high))

-- the clock is set
pub clock_set : (h : Hub) (w : World) (ms : ℕ) → StandsHub h w → w.tick ≤ ms → ms ≤ GREATEST_TICK
    → Clocked w ms 0 (length h.living.items) (record h { tick = ms })
clock_set h w ms st later most =
    record {
      before = [];
      behind = w.sessions;
      all = refl;
      met_are = refl;
      left_are = ap length st.living ∙ living_count 0 w.sessions;
      stands = record {
        set = st.set;
        tick = refl;
        in_range = most;
        definitions = st.definitions;
        cells = st.cells;
        sessions = are_later w.tick ms h.sessions.items w.sessions later st.sessions;
        numbers = st.numbers;
        living = st.living;
        connections = st.connections;
      };
    }

-- the next session that hasn't ended, behind those that met the clock
pub record NextLiving (w : World) (ms met left : ℕ) (h : Hub) : Type 0 where
  pub before : List Session
  pub next : Session
  pub behind : List Session
  pub all : w.sessions ≡ before ++ next ∷ behind
  pub met_are : met ≡ alive (map (unless_timed_out ms) before)
  pub left_are : left ≡ alive behind
  pub living : is_alive next.life ≡ true
  pub stands : StandsHub h (record w { tick = ms; sessions = map (unless_timed_out ms) before ++ next ∷ behind })
  pub place : slice_get h.living.items met ≡ Some (length (map (unless_timed_out ms) before))

pub next_living : (w : World) (ms met left : ℕ) (h : Hub) → Clocked w ms met (left + 1) h → NextLiving w ms met left h
next_living w ms met left h k =
    let x : FirstLiving k.behind = first_living k.behind (omega (arith, k.left_are)) in
    let clock : Session → Session = unless_timed_out ms in
    let first : List Session = map clock (k.before ++ x.ended) in
    let split : map clock k.before ++ k.behind ≡ first ++ x.first ∷ x.behind =
    ap (λ ss. map clock k.before ++ ss) x.all ∙ sym (append_assoc (map clock k.before) x.ended (x.first ∷ x.behind))
    ∙ ap (λ ss. (map clock k.before ++ ss) ++ x.first ∷ x.behind) (sym (ended_stay ms x.ended x.none))
    ∙ ap (λ ss. ss ++ x.first ∷ x.behind) (sym (map_both clock k.before x.ended)) in
    let stands : StandsHub h (record w { tick = ms; sessions = first ++ x.first ∷ x.behind }) =
    subst (λ (ss : List Session). StandsHub h (record w { tick = ms; sessions = ss })) split k.stands in
    let met_are : met ≡ alive first =
    k.met_are ∙ sym (ap alive (map_both clock k.before x.ended) ∙ ap (λ ss. alive (map clock k.before ++ ss)) (ended_stay ms x.ended x.none)
    ∙ alive_both (map clock k.before) x.ended ∙ ap (λ n. alive (map clock k.before) + n) x.none ∙ plain (alive (map clock k.before))) in
    record {
      before = k.before ++ x.ended;
      next = x.first;
      behind = x.behind;
      all = k.all ∙ ap (λ ss. k.before ++ ss) x.all ∙ sym (append_assoc k.before x.ended (x.first ∷ x.behind));
      met_are = met_are;
      left_are = omega (
        arith,
        k.left_are,
        ap alive x.all,
        alive_both x.ended (x.first ∷ x.behind),
        x.none,
        alive_first x.first x.behind x.living,
      );
      living = x.living;
      stands = stands;
      place = ap (λ ns. slice_get ns met) (stands.living ∙ living_both 0 first (x.first ∷ x.behind)
          ∙ ap (λ b. living_from 0 first ++ cond b ((0 + length first) ∷ living_from (0 + length first + 1) x.behind)
          (living_from (0 + length first + 1) x.behind)) x.living)
          ∙ ap (λ n. slice_get (living_from 0 first ++ (0 + length first) ∷ living_from (0 + length first + 1) x.behind) n)
          (met_are ∙ sym (living_count 0 first))
          ∙ behind_at (living_from 0 first) (living_from (0 + length first + 1) x.behind) (0 + length first)
          ∙ ap Some {x = 0 + length first} {y = length first} (omega arith);
    }
  where
    plain : (n : ℕ) → n + 0 ≡ n
    plain n = omega arith

-- it met the clock
module _ (w : World) (ms met left : ℕ) (h h' : Hub) (x : NextLiving w ms met left h) where
  abbrev now_first : List Session
  now_first = map (unless_timed_out ms) x.before

  abbrev there : World
  there = record w { tick = ms; sessions = now_first ++ x.next ∷ x.behind }

  pub next_found : slice_get there.sessions (length now_first) ≡ Some x.next
  next_found = behind_at now_first x.behind x.next

  one_more : map (unless_timed_out ms) (x.before ++ x.next ∷ []) ≡ now_first ++ unless_timed_out ms x.next ∷ []
  one_more = map_both (unless_timed_out ms) x.before (x.next ∷ [])

  met_all : now_first ++ unless_timed_out ms x.next ∷ x.behind ≡ map (unless_timed_out ms) (x.before ++ x.next ∷ []) ++ x.behind
  met_all = sym (ap (λ ss. ss ++ x.behind) one_more ∙ append_assoc now_first (unless_timed_out ms x.next ∷ []) x.behind)

  met_one : (n : ℕ) → alive (unless_timed_out ms x.next ∷ []) ≡ n → met + n ≡ alive (map (unless_timed_out ms) (x.before ++ x.next ∷ []))
  met_one n is =
      omega (arith, x.met_are, is, ap alive one_more, alive_both now_first (unless_timed_out ms x.next ∷ []))

  goes : (k : ℕ) → k ≡ alive (map (unless_timed_out ms) (x.before ++ x.next ∷ []))
      → StandsHub h' (record w { tick = ms; sessions = now_first ++ unless_timed_out ms x.next ∷ x.behind }) → Clocked w ms k left h'
  goes k is st =
      record {
        before = x.before ++ x.next ∷ [];
        behind = x.behind;
        all = x.all ∙ sym (append_assoc x.before (x.next ∷ []) x.behind);
        met_are = is;
        left_are = x.left_are;
        stands = subst (λ (ss : List Session). StandsHub h' (record w { tick = ms; sessions = ss })) met_all st;
      }

  -- it is the session of the place that is read
  pub next_place : (place : ℕ) → place ≡ slice_index_or h.living.items met place → place ≡ length now_first
  next_place place at = read_is h.living.items met place (length now_first) x.place at

  -- and its time is out, or isn't
  abbrev pub Tells : ℕ → Bool → Type 0
  Tells place out = (v : World) (s : Session) → StandsHub h v → slice_get v.sessions place ≡ Some s → out ≡ is_timed_out v.tick s

  told : (place : ℕ) (out : Bool) → place ≡ length now_first → Tells place out → out ≡ is_timed_out ms x.next
  told place out at tells = tells there x.next x.stands (ap (λ n. slice_get there.sessions n) at ∙ next_found)

  pub met_out : (place : ℕ) (out : Bool) → place ≡ length now_first → Tells place out → out ≡ true
      → ((v : World) (s : Session) → StandsHub h v → IsLiving v place s → DidOperate v place None (ended timed_out) None h')
      → Clocked w ms met left h'
  met_out place out at tells is ends =
      let over : is_timed_out ms x.next ≡ true = sym (told place out at tells) ∙ is in
      let after : unless_timed_out ms x.next ≡ ended timed_out x.next = ap (λ b. cond b (ended timed_out x.next) x.next) over in
      let d : DidOperate there place None (ended timed_out) None h' =
      ends there x.next x.stands (record { found = ap (λ n. slice_get there.sessions n) at ∙ next_found; alive = x.living }) in
      goes met (omega (arith, met_one 0 (ap (λ (s : Session). alive (s ∷ [])) after)))
      (subst (λ (ss : List Session). StandsHub h' (record w { tick = ms; sessions = ss }))
      (ap (λ n. change n (ended timed_out) there.sessions) at ∙ behind_changed (ended timed_out) now_first x.behind x.next
      ∙ ap (λ (s : Session). now_first ++ s ∷ x.behind) (sym after)) d.stands)

pub met_left : (w : World) (ms met left : ℕ) (h : Hub) (x : NextLiving w ms met left h) (place : ℕ) (out : Bool)
    → place ≡ length (map (unless_timed_out ms) x.before) → Tells w ms met left h h x place out → out ≡ false → Clocked w ms (met + 1) left h
met_left w ms met left h x place out at tells is =
    let lasts : is_timed_out ms x.next ≡ false = sym (told w ms met left h h x place out at tells) ∙ is in
    let after : unless_timed_out ms x.next ≡ x.next = ap (λ b. cond b (ended timed_out x.next) x.next) lasts in
    goes w ms met left h h x (met + 1)
    (met_one w ms met left h h x 1 (ap (λ (s : Session). alive (s ∷ [])) after ∙ alive_first x.next [] x.living))
    (subst (λ (s : Session). StandsHub h (record w { tick = ms; sessions = map (unless_timed_out ms) x.before ++ s ∷ x.behind })) (sym after) x.stands)

-- there is one
pub not_past : (w : World) (ms met left : ℕ) (h : Hub) → Clocked w ms met (left + 1) h → length h.living.items ≤ met → ⊥
not_past w ms met left h k high =
    let x = next_living w ms met left h k in
    past_none h.living.items met (length (map (unless_timed_out ms) x.before)) x.place high

-- all did
pub clock_all : (w : World) (ms met : ℕ) (h : Hub) → Clocked w ms met 0 h → StandsHub h (ticks w ms)
clock_all w ms met h k =
    subst (λ (ss : List Session). StandsHub h (record w { tick = ms; sessions = ss }))
    (ap (λ ss. map (unless_timed_out ms) k.before ++ ss) (sym (ended_stay ms k.behind (sym k.left_are)))
    ∙ sym (map_both (unless_timed_out ms) k.before k.behind) ∙ ap (map (unless_timed_out ms)) (sym k.all)) k.stands

-- a tick
pub ticked : (h h' : Hub) (w : World) (s : Step) (ms times : ℕ) (text : List ℕ) → StandsHub h w → s ≡ step.Tick ms → Fits (known_of w) s
    → ((v : World) → StandsHub h v → v.tick ≤ ms → ms ≤ GREATEST_TICK → StandsHub h' (ticks v ms)) → Prints (does w s times) text text h'
ticked h h' w s ms times text st is fits did =
    let later : LaterTick (known_of w) ms = subst (λ (x : Step). Fits (known_of w) x) is fits in
    subst (λ (x : Step). Prints (does w x times) text text h') (sym is)
    (record { text = sym (append-nil text); stands = did w st later.later (omega (arith, later.most)) })
