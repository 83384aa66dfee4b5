-- The first slots of a round, which are known to wait for their frequency.
use Rattle.std.proofs.Common.{◌≡◌, ◌==◌, ◌≤◌, ◌<◌, ◌+◌, ◌++◌, ◌&&◌, ◌||◌, ◌⊎◌, ℕ, zero, suc, Bool, Option, List, [], ◌∷◌, map, take, drop, true, false}
use Rattle.std.proofs.Common.{None, Some, inl, inr, refl, sym, ◌∙◌, ap, subst, cond, arith, min, max, slice_get, option_map, nat_lt}
use Rattle.std.specs.Option.{ForSome, option_map_or}
use Rattle.std.proofs.lemmas.Bool.{leb-true, leb-false, ltb-true, ltb-false}
use Rattle.std.proofs.lemmas.List.{take-map}
use Rattle.ls_budget.specs.Budget.{credit_tick}
use Rattle.ls_event.specs.declared.event.Entry.{Entry}
use Rattle.ls_event.specs.declared.event.Mode.{Mode}
use Rattle.ls_event.specs.declared.event.Mode.TheVariants as mode
use Rattle.ls_event.specs.declared.event.Taken.{Taken}
use Rattle.ls_event.specs.Cuts.{is_behind, is_pending, pending_of}
use Rattle.ls_event.specs.Slots.{Slot, enqueued}
use Rattle.ls_turns.specs.Round.{Round, Seat, AreApart, seat_at, node_of_place, slots_of, gave}
use Rattle.ls_value.specs.Each.{Each}
use Rattle.ls_record.specs.Apart.{Apart}
use Rattle.ls_record.specs.Came.{Came}
use Rattle.ls_record.specs.Lines.{Line, Tells, Answers, MessageOutcome, is_update, updated, spends_behind}
use Rattle.ls_record.specs.Records.{Item, LiveSlot, Session, change, history_of, is_at, is_due, due_at, enqueue_at}
use Rattle.ls_record.proofs.Each.{each_at, each_map, each_mapped}
use Rattle.ls_subs.specs.Standing.{ref_of, passed_live, passed_at, passed_back}
use Rattle.ls_subs.proofs.Rounds.{eqb_swap}
use Rattle.ls_session.specs.Asking.{Asking, Extends, GoesFurther}
use Rattle.ls_session.specs.Front.{IsHeld, tick_of, least_by, IsFront, HoldsFirst}
use Rattle.ls_session.specs.declared.asking.Front.{Front}
use Rattle.ls_session.proofs.Seats.{gave_node}

-- what is true of all is true of each
pub each_all : {A : Type 0} (P : A → Type 0) (xs : List A) → ((x : A) → P x) → Each P xs
each_all P [] f = tt
each_all P (x ∷ xs) f = (f x, each_all P xs f)

each_snoc : {A : Type 0} (P : A → Type 0) (xs : List A) (x : A) → Each P xs → P x → Each P (xs ++ x ∷ [])
each_snoc P [] x e p = (p, tt)
each_snoc P (y ∷ xs) x e p = (e.0, each_snoc P xs x e.1 p)

pub take_suc : {A : Type 0} (xs : List A) (n : ℕ) (x : A) → slice_get xs n ≡ Some x → take (suc n) xs ≡ take n xs ++ x ∷ []
take_suc [] n x is = absurd (let y : None ≡ Some x = is in cc)
take_suc (y ∷ xs) zero x is = let same : y ≡ x = cc in ap (λ z. z ∷ []) same
take_suc (y ∷ xs) (suc n) x is = ap (λ zs. y ∷ zs) (take_suc xs n x is)

pub take_at : {A : Type 0} (xs : List A) (n : ℕ) (x : A) → slice_get xs n ≡ Some x → take (n + 1) xs ≡ take n xs ++ x ∷ []
take_at xs n x is = ap (λ m. take m xs) {x = n + 1} {y = suc n} (omega arith) ∙ take_suc xs n x is

get_taken : {A : Type 0} (xs : List A) (n m : ℕ) (x : A) → slice_get xs n ≡ Some x → n < m → slice_get (take m xs) n ≡ Some x
get_taken [] n m x is low = absurd (let y : None ≡ Some x = is in cc)
get_taken (y ∷ xs) n zero x is low = absurd (omega (arith, low))
get_taken (y ∷ xs) zero (suc m) x is low = is
get_taken (y ∷ xs) (suc n) (suc m) x is low = get_taken xs n m x is (omega (arith, low))

-- the least of ticks is none of a greater one's, it is that of one more, and it is the same of the same ticks
least_early : (tick : LiveSlot → ℕ) (w : Option ℕ) (vs : List LiveSlot) (t : ℕ) → least_by tick w vs ≡ Some t
    → Each (λ v. t ≤ tick v) vs × ForSome w (λ n. t ≤ n)
least_early tick w [] t is = (tt, λ n e. let x : Some n ≡ Some t = sym e ∙ is in let same : n ≡ t = cc in omega (arith, same))
least_early tick w (v ∷ vs) t is =
    let more = least_early tick (Some (option_map_or (min (tick v)) w (tick v))) vs t is in
    let first = by_least w (more.1 (option_map_or (min (tick v)) w (tick v)) refl) in
    ((first.0, more.0), first.1)
  where
    by_least : (o : Option ℕ) → t ≤ option_map_or (min (tick v)) o (tick v) → (t ≤ tick v) × ForSome o (λ n. t ≤ n)
    by_least None low = (low, λ n e. absurd (let x : None ≡ Some n = e in cc))
    by_least (Some m) low = (
      (let a : t ≤ min (tick v) m = low in omega (arith, a)),
      λ n e. let x : Some m ≡ Some n = e in let same : m ≡ n = cc in let a : t ≤ min (tick v) m = low in omega (arith, a, same),
    )

pub least_snoc : (tick : LiveSlot → ℕ) (w : Option ℕ) (vs : List LiveSlot) (v : LiveSlot)
    → least_by tick w (vs ++ v ∷ []) ≡ Some (option_map_or (min (tick v)) (least_by tick w vs) (tick v))
least_snoc tick w [] v = refl
least_snoc tick w (u ∷ vs) v = least_snoc tick (Some (option_map_or (min (tick u)) w (tick u))) vs v

least_same : (tick tick' : LiveSlot → ℕ) (w : Option ℕ) (vs : List LiveSlot) → Each (λ v. tick' v ≡ tick v) vs → least_by tick' w vs ≡ least_by tick w vs
least_same tick tick' w [] same = refl
least_same tick tick' w (v ∷ vs) same =
    ap (λ n. least_by tick' (Some (option_map_or (min n) w n)) vs) same.0
    ∙ least_same tick tick' (Some (option_map_or (min (tick v)) w (tick v))) vs same.1

least_mapped : (tick : LiveSlot → ℕ) (g : LiveSlot → LiveSlot) (w : Option ℕ) (vs : List LiveSlot) → ((v : LiveSlot) → tick (g v) ≡ tick v)
    → least_by tick w (map g vs) ≡ least_by tick w vs
least_mapped tick g w [] same = refl
least_mapped tick g w (v ∷ vs) same =
    ap (λ n. least_by tick (Some (option_map_or (min n) w n)) (map g vs)) (same v)
    ∙ least_mapped tick g (Some (option_map_or (min (tick v)) w (tick v))) vs same

-- by the credit too
least_later : (tick : LiveSlot → ℕ) (c : ℕ) (w : Option ℕ) (vs : List LiveSlot)
    → least_by (λ v. max (tick v) c) (option_map (λ n. max n c) w) vs ≡ option_map (λ n. max n c) (least_by tick w vs)
least_later tick c w [] = refl
least_later tick c w (v ∷ vs) =
    ap (λ o. least_by (λ u. max (tick u) c) o vs) (by_least w)
    ∙ least_later tick c (Some (option_map_or (min (tick v)) w (tick v))) vs
  where
    by_least : (o : Option ℕ) → Some (option_map_or (min (max (tick v) c)) (option_map (λ n. max n c) o) (max (tick v) c))
        ≡ option_map (λ n. max n c) (Some (option_map_or (min (tick v)) o (tick v)))
    by_least None = refl
    by_least (Some m) = ap (λ n. Some n) (let e : min (max (tick v) c) (max m c) ≡ max (min (tick v) m) c = omega arith in e)

-- a front whose slots are the same stays
front_moved : (turns turns' : Round) (f : Front) (lines lines' : List Line) (round round' : List LiveSlot) → (st : IsFront turns f lines round)
    → node_of_place turns' st.last ≡ node_of_place turns st.last → take (st.last + 1) round' ≡ take (st.last + 1) round
    → Each (λ v. tick_of lines' v ≡ tick_of lines v) (take (st.last + 1) round) → IsFront turns' f lines' round'
front_moved turns turns' f lines lines' round round' st node same ticks =
    record {
      last = st.last;
      node = node ∙ st.node;
      held = subst (λ (vs : List LiveSlot). Each IsHeld vs) (sym same) st.held;
      least = ap (least_by (tick_of lines') None) same ∙ least_same (tick_of lines) (tick_of lines') None (take (st.last + 1) round) ticks ∙ st.least;
    }

-- an outcome is told
pub front_answers : (turns : Round) (f : Front) (lines : List Line) (round : List LiveSlot) (outcome : MessageOutcome) → IsFront turns f lines round
    → IsFront turns f (Answers outcome ∷ lines) round
front_answers turns f lines round outcome st =
    front_moved turns turns f lines (Answers outcome ∷ lines) round round st refl refl
    (each_all (λ v. tick_of (Answers outcome ∷ lines) v ≡ tick_of lines v) (take (st.last + 1) round) (λ v. refl))

-- the round's seats are the same
pub front_seats : (turns turns' : Round) (f : Front) (lines : List Line) (round : List LiveSlot) → turns'.seats ≡ turns.seats → IsFront turns f lines round
    → IsFront turns' f lines round
front_seats turns turns' f lines round same st =
    front_moved turns turns' f lines lines round round st
    (ap (λ (seats : List Seat). option_map (λ (s : Seat). s.node) (slice_get seats st.last)) same) refl
    (each_all (λ v. tick_of lines v ≡ tick_of lines v) (take (st.last + 1) round) (λ v. refl))

-- a slot takes an event
behind_more : (s : Slot) → is_behind s ≡ true → is_behind (enqueued s) ≡ true
behind_more s is = by_owed (nat_lt 0 s.owed) is
  where
    low_more : (n m : ℕ) → nat_lt n m ≡ true → nat_lt n (m + 1) ≡ true
    low_more n m e = by_test (nat_lt n (m + 1)) refl
      where
        by_test : (b : Bool) → nat_lt n (m + 1) ≡ b → b ≡ true
        by_test true t = refl
        by_test false t = absurd (omega (arith, ltb-true n m e, ltb-false n (m + 1) t))

    by_ends : (b : Bool) → (b || nat_lt s.cursor s.last) ≡ true → (b || nat_lt s.cursor (s.last + 1)) ≡ true
    by_ends true e = refl
    by_ends false e = low_more s.cursor s.last e

    by_owed : (b : Bool) → ((b || s.ends) || nat_lt s.cursor s.last) ≡ true → ((b || s.ends) || nat_lt s.cursor (s.last + 1)) ≡ true
    by_owed true e = refl
    by_owed false e = by_ends s.ends e

held_enqueued : (items : List Item) (sub rank : ℕ) (v : LiveSlot) → IsHeld v → IsHeld (enqueue_at items sub rank v)
held_enqueued items sub rank v h = by_test (is_at sub rank v) (nat_lt v.slot.last (length_of (history_of items v.item)))
  where
    length_of : List Entry → ℕ
    length_of es = Rattle.std.specs.Prelude.length es

    by_test : (a b : Bool) → IsHeld (cond a (cond b (record v { slot = enqueued v.slot }) v) v)
    by_test true true = record { mode = h.mode; behind = behind_more v.slot h.behind }
    by_test true false = h
    by_test false b = h

tick_enqueued : (lines : List Line) (items : List Item) (sub rank : ℕ) (v : LiveSlot) → tick_of lines (enqueue_at items sub rank v) ≡ tick_of lines v
tick_enqueued lines items sub rank v = by_test (is_at sub rank v) (nat_lt v.slot.last (Rattle.std.specs.Prelude.length (history_of items v.item)))
  where
    by_test : (a b : Bool) → tick_of lines (cond a (cond b (record v { slot = enqueued v.slot }) v) v) ≡ tick_of lines v
    by_test true true = refl
    by_test true false = refl
    by_test false b = refl

pub front_enqueued : (turns : Round) (f : Front) (lines : List Line) (items : List Item) (sub rank : ℕ) (round : List LiveSlot) → IsFront turns f lines round
    → IsFront turns f lines (map (enqueue_at items sub rank) round)
front_enqueued turns f lines items sub rank round st =
    let same = take-map (enqueue_at items sub rank) (st.last + 1) round in
    record {
      last = st.last;
      node = st.node;
      held = subst (λ (vs : List LiveSlot). Each IsHeld vs) (sym same)
          (each_mapped IsHeld IsHeld (enqueue_at items sub rank) (take (st.last + 1) round) (held_enqueued items sub rank) st.held);
      least = ap (least_by (tick_of lines) None) same
          ∙ least_mapped (tick_of lines) (enqueue_at items sub rank) None (take (st.last + 1) round) (tick_enqueued lines items sub rank) ∙ st.least;
    }

-- a slot whose frequency allows an update is behind them
behind_front : (turns : Round) (f : Front) (lines : List Line) (round : List LiveSlot) (n : ℕ) (v : LiveSlot) → (st : IsFront turns f lines round)
    → slice_get round n ≡ Some v → tick_of lines v < f.tick → st.last < n
behind_front turns f lines round n v st found early = by_test (nat_lt st.last n) refl
  where
    by_test : (b : Bool) → nat_lt st.last n ≡ b → st.last < n
    by_test true t = ltb-true st.last n t
    by_test false t =
        let low : n ≤ st.last = ltb-false st.last n t in
        absurd (omega (
          arith,
          early,
          each_at (λ u. f.tick ≤ tick_of lines u) n v (take (st.last + 1) round) (get_taken round n (st.last + 1) v found (omega (arith, low)))
              (least_early (tick_of lines) None (take (st.last + 1) round) f.tick st.least).0,
        ))

pub due_early : (now : ℕ) (s : Session) (v : LiveSlot) → is_due now s v ≡ true → tick_of s.board.lines v ≤ now
due_early now s v due =
    let c : ℕ = credit_tick s.rate.limit (spends_behind s.rate.behind s.board.lines) now in
    let most : max (tick_of s.board.lines v) c ≤ now = leb-true (due_at now s v) now due in omega (arith, most)

-- a slot behind them was moved past a cut: it stays there
take_changed : {A : Type 0} (g : A → A) (xs : List A) (n m : ℕ) → m ≤ n → take m (change n g xs) ≡ take m xs
take_changed g [] n m low = refl
take_changed g (x ∷ xs) n zero low = refl
take_changed g (x ∷ xs) zero (suc m) low = absurd (omega (arith, low))
take_changed g (x ∷ xs) (suc n) (suc m) low = ap (λ ys. x ∷ ys) (take_changed g xs n m (omega (arith, low)))

pub front_silent : (turns : Round) (f : Front) (lines : List Line) (round : List LiveSlot) (n : ℕ) (v : LiveSlot) (t : Taken) → IsFront turns f lines round
    → slice_get round n ≡ Some v → tick_of lines v < f.tick → IsFront turns f lines (passed_at n t round)
front_silent turns f lines round n v t st found early =
    front_moved turns turns f lines lines round (passed_at n t round) st refl
    (take_changed (passed_live t) round n (st.last + 1) (omega (arith, behind_front turns f lines round n v st found early)))
    (each_all (λ u. tick_of lines u ≡ tick_of lines u) (take (st.last + 1) round) (λ u. refl))

-- or it goes to the back, and its line is told
take_back : {A : Type 0} (xs ys zs : List A) (n m : ℕ) (x : A) → slice_get xs n ≡ Some x → m ≤ n → take m ((take n xs ++ ys) ++ zs) ≡ take m xs
take_back [] ys zs n m x found low = absurd (let y : None ≡ Some x = found in cc)
take_back (y ∷ xs) ys zs n zero x found low = refl
take_back (y ∷ xs) ys zs zero (suc m) x found low = absurd (omega (arith, low))
take_back (y ∷ xs) ys zs (suc n) (suc m) x found low = ap (λ vs. y ∷ vs) (take_back xs ys zs n m x found (omega (arith, low)))

each_apart : (round : List LiveSlot) (n m : ℕ) (v : LiveSlot) → Apart round → slice_get round n ≡ Some v → m ≤ n
    → Each (λ u. is_at u.sub u.rank v ≡ false) (take m round)
each_apart [] n m v apart found low = absurd (let y : None ≡ Some v = found in cc)
each_apart (u ∷ round) n zero v apart found low = tt
each_apart (u ∷ round) zero (suc m) v apart found low = absurd (omega (arith, low))
each_apart (u ∷ round) (suc n) (suc m) v apart found low =
    (each_at (λ w. is_at u.sub u.rank w ≡ false) n v round found apart.0, each_apart round n m v apart.1 found (omega (arith, low)))

other_tick : (lines : List Line) (v u : LiveSlot) (now : ℕ) (c : Came) → is_at u.sub u.rank v ≡ false
    → tick_of (Tells v.sub v.rank now c ∷ lines) u ≡ tick_of lines u
other_tick lines v u now c other =
    ap (λ o. Rattle.ls_budget.specs.Budget.frequency_tick u.frequency o)
    (ap (λ b. cond (b && is_update c.what) (Some now) (updated u.sub u.rank lines))
    (ap (λ b. b && (v.rank == u.rank)) (eqb_swap v.sub u.sub) ∙ ap (λ b. (u.sub == v.sub) && b) (eqb_swap v.rank u.rank) ∙ other))

pub front_told : (turns : Round) (f : Front) (lines : List Line) (round : List LiveSlot) (n now : ℕ) (v : LiveSlot) (t : Taken) (c : Came)
    → IsFront turns f lines round → slots_of turns ≡ map ref_of round → Apart round → slice_get round n ≡ Some v → tick_of lines v < f.tick
    → IsFront (gave v.sub v.rank turns) f (Tells v.sub v.rank now c ∷ lines) (passed_back n v t round)
front_told turns f lines round n now v t c st slots apart found early =
    let low = behind_front turns f lines round n v st found early in
    front_moved turns (gave v.sub v.rank turns) f lines (Tells v.sub v.rank now c ∷ lines) round (passed_back n v t round) st
    (gave_node turns round n v st.last apart slots found low)
    (take_back round (drop (n + 1) round) (passed_live t v ∷ []) n (st.last + 1) v found (omega (arith, low)))
    (each_map (λ u. is_at u.sub u.rank v ≡ false) (λ u. tick_of (Tells v.sub v.rank now c ∷ lines) u ≡ tick_of lines u) (take (st.last + 1) round)
    (λ u other. other_tick lines v u now c other) (each_apart round n (st.last + 1) v apart found (omega (arith, low))))

-- no two places have one node
seat_of : (turns : Round) (i node : ℕ) → node_of_place turns i ≡ Some node → (s : Seat) × ((seat_at turns i ≡ Some s) × (s.node ≡ node))
seat_of turns i node at = by_seat (seat_at turns i) refl at
  where
    by_seat : (o : Option Seat) → seat_at turns i ≡ o → option_map (λ (s : Seat). s.node) o ≡ Some node
        → (s : Seat) × ((seat_at turns i ≡ Some s) × (s.node ≡ node))
    by_seat None e is = absurd (let x : None ≡ Some node = is in cc)
    by_seat (Some s) e is = (s, (e, let x : Some s.node ≡ Some node = is in cc))

node_apart : (turns : Round) (i j node : ℕ) → AreApart turns → node_of_place turns i ≡ Some node → node_of_place turns j ≡ Some node → i ≡ j
node_apart turns i j node apart at there =
    let s = seat_of turns i node at in
    let t = seat_of turns j node there in apart.nodes i j s.0 t.0 s.1.0 t.1.0 (s.1.1 ∙ sym t.1.1)

-- the slot behind the first ones waits for its frequency too
module _ (k k' : Asking) (lines : List Line) (round : List LiveSlot) (asked tick : ℕ) (st : ForSome k.front (λ f. IsFront k.turns f lines round))
    (next : k.next ≡ node_of_place k.turns asked) (apart : AreApart k.turns) (g : GoesFurther tick k k') where
  held_before : (o : Option Front) → k.front ≡ o
      → Each IsHeld (take asked round) × (least_by (tick_of lines) None (take asked round) ≡ option_map (λ (f : Front). f.tick) o)
  held_before None e =
      let same : 0 ≡ asked = node_apart k.turns 0 asked g.node apart (sym (g.first e) ∙ g.next) (sym next ∙ g.next) in
      subst (λ n. Each IsHeld (take n round) × (least_by (tick_of lines) None (take n round) ≡ None)) same (tt, refl)
  held_before (Some f) e =
      let known : IsFront k.turns f lines round = st f e in
      let same : known.last + 1 ≡ asked =
      node_apart k.turns (known.last + 1) asked g.node apart (sym (g.behind f known.last e known.node) ∙ g.next) (sym next ∙ g.next) in
      subst (λ n. Each IsHeld (take n round) × (least_by (tick_of lines) None (take n round) ≡ Some f.tick)) same (known.held, known.least)

  least_both : (n : ℕ) (o : Option Front) → tick ≡ n
      → Some (option_map_or (min n) (option_map (λ (f : Front). f.tick) o) n) ≡ Some (option_map_or (λ (f : Front). min tick f.tick) o tick)
  least_both n None is = ap (λ m. Some m) (sym is)
  least_both n (Some f) is = ap (λ m. Some (min m f.tick)) (sym is)

  further : (v : LiveSlot) → slice_get round asked ≡ Some v → IsHeld v → tick ≡ tick_of lines v
      → IsFront k.turns (record { node = g.node; tick = option_map_or (λ (f : Front). min tick f.tick) k.front tick }) lines round
  further v found held is =
      let before = held_before k.front refl in
      let more = take_at round asked v found in
      record {
        last = asked;
        node = sym next ∙ g.next;
        held = subst (λ (vs : List LiveSlot). Each IsHeld vs) (sym more) (each_snoc IsHeld (take asked round) v before.0 held);
        least = ap (least_by (tick_of lines) None) more ∙ least_snoc (tick_of lines) None (take asked round) v
            ∙ ap (λ o. Some (option_map_or (min (tick_of lines v)) o (tick_of lines v))) before.1 ∙ least_both (tick_of lines v) k.front is;
      }

pub front_longer : (k k' : Asking) (lines : List Line) (round : List LiveSlot) (asked tick : ℕ) (v : LiveSlot)
    → ForSome k.front (λ f. IsFront k.turns f lines round) → Extends tick k k' → AreApart k'.turns → k.next ≡ node_of_place k.turns asked
    → slice_get round asked ≡ Some v → IsHeld v → tick ≡ tick_of lines v → ForSome k'.front (λ f. IsFront k'.turns f lines round)
front_longer k k' lines round asked tick v st x apart next found held is =
    subst (λ (a : Asking). ForSome k'.front (λ f. IsFront a.turns f lines round)) (sym x.rest) (by_front x.front)
  where
    by_front : (k'.front ≡ k.front) ⊎ GoesFurther tick k k' → ForSome k'.front (λ f. IsFront k.turns f lines round)
    by_front (inl same) = λ f e. st f (sym same ∙ e)
    by_front (inr g) = λ f e.
        let y : Some (record { node = g.node; tick = option_map_or (λ (h : Front). min tick h.tick) k.front tick }) ≡ Some f = sym g.front ∙ e in
        let same : record { node = g.node; tick = option_map_or (λ (h : Front). min tick h.tick) k.front tick } ≡ f = cc in
        subst (λ (h : Front). IsFront k.turns h lines round) same
        (further k k' lines round asked tick st next (subst (λ (a : Asking). AreApart a.turns) x.rest apart) g v found held is)

-- the first slots, which wait before their tick
pub first_held : (now : ℕ) (s : Session) (turns : Round) (f : Front) → (st : IsFront turns f s.board.lines s.board.round) → now < f.tick
    → HoldsFirst now s (st.last + 1) (Some (max f.tick (credit_tick s.rate.limit (spends_behind s.rate.behind s.board.lines) now)))
first_held now s turns f st early =
    let vs : List LiveSlot = take (st.last + 1) s.board.round in
    let c : ℕ = credit_tick s.rate.limit (spends_behind s.rate.behind s.board.lines) now in
    record {
      held = st.held;
      early = each_map (λ v. f.tick ≤ tick_of s.board.lines v) (λ v. is_due now s v ≡ false) vs not_due
          (least_early (tick_of s.board.lines) None vs f.tick st.least).0;
      least = sym (least_later (tick_of s.board.lines) c None vs ∙ ap (option_map (λ n. max n c)) st.least);
    }
  where
    not_due : (v : LiveSlot) → f.tick ≤ tick_of s.board.lines v → is_due now s v ≡ false
    not_due v late = by_test (is_due now s v) refl
      where
        by_test : (b : Bool) → is_due now s v ≡ b → b ≡ false
        by_test false e = refl
        by_test true e = absurd (omega (arith, early, late, due_early now s v e))

-- the round is at its first slot
pub at_first : (turns : Round) (f : Front) (lines : List Line) (round : List LiveSlot) (asked : ℕ) → IsFront turns f lines round → AreApart turns
    → node_of_place turns asked ≡ node_of_place turns 0 → asked ≡ 0
at_first turns f lines round asked st apart same = by_node (node_of_place turns 0) refl
  where
    some_first : (seats : List Seat) (n node : ℕ) → option_map (λ (s : Seat). s.node) (slice_get seats n) ≡ Some node
        → option_map (λ (s : Seat). s.node) (slice_get seats 0) ≡ None → ⊥
    some_first [] n node at none = absurd (let x : None ≡ Some node = at in cc)
    some_first (s ∷ seats) n node at none = absurd (let x : Some s.node ≡ None = none in cc)

    by_node : (o : Option ℕ) → node_of_place turns 0 ≡ o → asked ≡ 0
    by_node None e = absurd (some_first turns.seats st.last f.node st.node e)
    by_node (Some node) e = node_apart turns asked 0 node apart (same ∙ e) e

-- what is pending of a slot that isn't of mode COMMAND is known without its item
pub pending_held : (h : List Entry) (v : LiveSlot) → (v.slot.plan.mode ≡ mode.Command → ⊥) → is_pending h v.slot ≡ true → IsHeld v
pending_held h v other is = record { mode = other; behind = by_mode v.slot.plan.mode other is }
  where
    by_mode : (m : Mode) → (m ≡ mode.Command → ⊥) → pending_of m h v.slot ≡ true → is_behind v.slot ≡ true
    by_mode mode.Raw away pends = pends
    by_mode mode.Merge away pends = pends
    by_mode mode.Distinct away pends = pends
    by_mode mode.Command away pends = absurd (away refl)

pub held_pending : (h : List Entry) (v : LiveSlot) → IsHeld v → is_pending h v.slot ≡ true
held_pending h v held = by_mode v.slot.plan.mode held.mode
  where
    by_mode : (m : Mode) → (m ≡ mode.Command → ⊥) → pending_of m h v.slot ≡ true
    by_mode mode.Raw away = held.behind
    by_mode mode.Merge away = held.behind
    by_mode mode.Distinct away = held.behind
    by_mode mode.Command away = absurd (away refl)

-- where there is credit, a slot that isn't due waits for its frequency alone
pub frequency_alone : (now : ℕ) (s : Session) (v : LiveSlot) → credit_tick s.rate.limit (spends_behind s.rate.behind s.board.lines) now ≤ now
    → is_due now s v ≡ false → due_at now s v ≡ tick_of s.board.lines v
frequency_alone now s v credit undue =
    let c : ℕ = credit_tick s.rate.limit (spends_behind s.rate.behind s.board.lines) now in
    let late : now < max (tick_of s.board.lines v) c = leb-false (due_at now s v) now undue in
    let same : max (tick_of s.board.lines v) c ≡ tick_of s.board.lines v = omega (arith, late, credit) in same
