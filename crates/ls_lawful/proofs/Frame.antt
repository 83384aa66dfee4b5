-- What is true of each slot of each session, lifted over a change of one of them.
use Rattle.std.proofs.Common.{◌≡◌, ◌==◌, ℕ, zero, suc, ◌+◌, ◌<◌, List, [], ◌∷◌, ◌++◌, length, map, refl, sym, ◌∙◌, ap}
use Rattle.std.proofs.Common.{arith, subst, cond, Bool, true, false, ◌&&◌, ◌||◌, Option, Some, None, nat_lt}
use Rattle.std.proofs.Common.{append-nil}
use Rattle.std.proofs.lemmas.Bool.{ltb-true, eq-eqb, ne_eqb}
use Rattle.std.proofs.lemmas.Bool.Decides.{nat_tests}
use Rattle.ls_event.specs.declared.event.Entry.{Entry}
use Rattle.ls_event.specs.declared.event.Mode.{Mode}
use Rattle.ls_event.specs.Slots.{Plan, Slot, enqueued}
use Rattle.ls_mirror.specs.declared.command.KeyPlaces.{KeyPlaces}
use Rattle.ls_record.specs.Came.{Came}
use Rattle.ls_event.specs.Joining.{plan_of}
use Rattle.ls_lawful.specs.CommandMode.{IsKeyed}
use Rattle.ls_record.specs.Cutting.{Ask, Wanted, Turn, turn}
use Rattle.ls_record.specs.Lines.{Line, Begins, Ends, Configures, Answers, Tells, MessageOutcome, came}
use Rattle.ls_record.specs.Records.{Item, LiveSlot, Board, RoundLine, Round, history_of, shape_at, joined_slot}
use Rattle.ls_record.specs.Records.{keys_shown, are_filtered, change, is_at, is_of, frequency_of, is_used, joined_all}
use Rattle.ls_record.specs.Records.{added, without, removed, enqueue_slot, enqueue_at, enqueued_in, live_turn}
use Rattle.ls_record.specs.Records.{round_of, taken_in, frequency_in, is_filtered, mode_in, with_frequency}
use Rattle.ls_record.specs.Records.{reconfigured, with_outcome, grown}
use Rattle.ls_record.proofs.Parts.{turn_if, met_by, given_by}
use Rattle.ls_value.specs.Each.{Each}
use Rattle.ls_record.specs.Apart.{Apart}
use Rattle.ls_lawful.specs.Lawful.{LawfulSlot, LawfulLive, LawfulBoard}
use Rattle.ls_record.proofs.Rules.{cond_rule}
use Rattle.ls_record.proofs.Each.{each_map, each_mapped, each_both}
use Rattle.ls_value.proofs.Each.{each_append}
use Rattle.ls_lawful.proofs.Modes.{keeps, joined_plan, joins, AfterTurn, turn_keeps, turn_plan}
use Rattle.ls_event.specs.declared.event.Mode.TheVariants as mode

-- an item that remains: it has its shape, and its history begins with the former one
pub record Remains (items items' : List Item) (n : ℕ) : Type 0 where
  pub declared : n < length items'
  pub shape : shape_at items' n ≡ shape_at items n
  pub more : List Entry
  pub history : history_of items' n ≡ history_of items n ++ more

-- items among which each of others remains
abbrev pub Later : List Item → List Item → Type 0
Later items items' = (n : ℕ) → n < length items → Remains items items' n

remains_behind : (i j : Item) (items items' : List Item) (n : ℕ) → Remains items items' n → Remains (i ∷ items) (j ∷ items') (suc n)
remains_behind i j items items' n s = record { declared = omega (arith, s.declared); shape = s.shape; more = s.more; history = s.history }

remains_first : (i : Item) (items items' : List Item) → Remains (i ∷ items) (i ∷ items') zero
remains_first i items items' = record { declared = omega arith; shape = refl; more = []; history = sym (append-nil i.history) }

remains_same : (items : List Item) (n : ℕ) → n < length items → Remains items items n
remains_same items n l = record { declared = l; shape = refl; more = []; history = sym (append-nil (history_of items n)) }

pub later_grown : (items : List Item) (k : ℕ) (e : Entry) → Later items (change k (grown e) items)
later_grown [] k e n l = absurd (omega (arith, l))
later_grown (i ∷ items) zero e zero l = record { declared = l; shape = refl; more = e ∷ []; history = refl }
later_grown (i ∷ items) zero e (suc n) l = remains_behind i (grown e i) items items n (remains_same items n (omega (arith, l)))
later_grown (i ∷ items) (suc k) e zero l = remains_first i items (change k (grown e) items)
later_grown (i ∷ items) (suc k) e (suc n) l = remains_behind i i items (change k (grown e) items) n (later_grown items k e n (omega (arith, l)))

pub later_declared : (items : List Item) (i : Item) → Later items (items ++ i ∷ [])
later_declared [] i n l = absurd (omega (arith, l))
later_declared (j ∷ items) i zero l = remains_first j items (items ++ i ∷ [])
later_declared (j ∷ items) i (suc n) l = remains_behind j j items (items ++ i ∷ []) n (later_declared items i n (omega (arith, l)))

live_later : (items items' : List Item) (lines : List Line) → Later items items' → (v : LiveSlot) → LawfulLive items lines v → LawfulLive items' lines v
live_later items items' lines later v l =
    let s = later v.item l.declared in
    record {
      declared = s.declared;
      shape = l.shape ∙ sym s.shape;
      came = subst (λ (h : List Entry). LawfulSlot h v.wanted v.slot (came v.sub v.rank lines)) (sym s.history)
          ((keeps v.slot.plan.mode).longer (history_of items v.item) s.more v.wanted v.slot (came v.sub v.rank lines) l.came);
    }

pub board_later : (items items' : List Item) → Later items items' → (s : Board) → LawfulBoard items s → LawfulBoard items' s
board_later items items' later s l =
    record { apart = l.apart; slots = each_map (LawfulLive items s.lines) (LawfulLive items' s.lines) s.round (live_later items items' s.lines later) l.slots }

-- an enqueue
enqueue_slot_keeps : (items : List Item) (lines : List Line) (v : LiveSlot) → LawfulLive items lines v
    → LawfulLive items lines (enqueue_slot (history_of items v.item) v)
enqueue_slot_keeps items lines v l = by_test (nat_lt v.slot.last (length (history_of items v.item))) refl
  where
    by_test : (t : Bool) → nat_lt v.slot.last (length (history_of items v.item)) ≡ t → LawfulLive items lines (cond t (record v { slot = enqueued v.slot }) v)
    by_test true t =
        record {
          declared = l.declared;
          shape = l.shape;
          came = (keeps v.slot.plan.mode).enqueue (history_of items v.item) v.wanted v.slot (came v.sub v.rank lines)
              (ltb-true v.slot.last (length (history_of items v.item)) t) l.came;
        }
    by_test false t = l

enqueue_at_keeps : (items : List Item) (lines : List Line) (sub rank : ℕ) (v : LiveSlot) → LawfulLive items lines v
    → LawfulLive items lines (enqueue_at items sub rank v)
enqueue_at_keeps items lines sub rank v l = by_test (is_at sub rank v)
  where
    by_test : (t : Bool) → LawfulLive items lines (cond t (enqueue_slot (history_of items v.item) v) v)
    by_test true = enqueue_slot_keeps items lines v l
    by_test false = l

-- a slot keeps its key
abbrev pub SameKey : LiveSlot → LiveSlot → Type 0
SameKey v u = (u.sub ≡ v.sub) × (u.rank ≡ v.rank)

enqueue_key : (items : List Item) (sub rank : ℕ) (v : LiveSlot) → SameKey v (enqueue_at items sub rank v)
enqueue_key items sub rank v = by_test (is_at sub rank v) (nat_lt v.slot.last (length (history_of items v.item)))
  where
    by_test : (t u : Bool) → ((cond t (cond u (record v { slot = enqueued v.slot }) v) v).sub ≡ v.sub)
        × ((cond t (cond u (record v { slot = enqueued v.slot }) v) v).rank ≡ v.rank)
    by_test true true = (refl, refl)
    by_test true false = (refl, refl)
    by_test false u = (refl, refl)

pub is_at_same : (v v' u u' : LiveSlot) → SameKey v v' → SameKey u u' → is_at v.sub v.rank u ≡ false → is_at v'.sub v'.rank u' ≡ false
is_at_same v v' u u' j k h =
    subst (λ (n : ℕ). ((n == u'.sub) && (v'.rank == u'.rank)) ≡ false) (sym j.0)
    (subst (λ (n : ℕ). ((v.sub == u'.sub) && (n == u'.rank)) ≡ false) (sym j.1)
    (subst (λ (n : ℕ). ((v.sub == n) && (v.rank == u'.rank)) ≡ false) (sym k.0)
    (subst (λ (n : ℕ). ((v.sub == u.sub) && (v.rank == n)) ≡ false) (sym k.1) h)))

apart_mapped : (f : LiveSlot → LiveSlot) → ((v : LiveSlot) → SameKey v (f v)) → (vs : List LiveSlot) → Apart vs → Apart (map f vs)
apart_mapped f same [] a = tt
apart_mapped f same (v ∷ vs) a = (
  each_mapped (λ u. is_at v.sub v.rank u ≡ false) (λ u. is_at (f v).sub (f v).rank u ≡ false) f vs (λ u h. is_at_same v (f v) u (f u) (same v) (same u) h) a.0,
  apart_mapped f same vs a.1,
)

pub enqueue_keeps : (items : List Item) (sub rank : ℕ) (s : Board) → LawfulBoard items s → LawfulBoard items (enqueued_in items sub rank s)
enqueue_keeps items sub rank s l =
    record {
      apart = apart_mapped (enqueue_at items sub rank) (enqueue_key items sub rank) s.round l.apart;
      slots = each_mapped (LawfulLive items s.lines) (LawfulLive items s.lines) (enqueue_at items sub rank) s.round (enqueue_at_keeps items s.lines sub rank)
          l.slots;
    }

-- a line of another slot brings nothing
pub elsewhere : (lines : List Line) (items : List Item) (sub rank tick : ℕ) (c : Came) (v : LiveSlot) → is_at sub rank v ≡ false → LawfulLive items lines v
    → LawfulLive items (Tells sub rank tick c ∷ lines) v
elsewhere lines items sub rank tick c v other l =
    let e : came v.sub v.rank (Tells sub rank tick c ∷ lines) ≡ came v.sub v.rank lines =
    ap (λ (b : Bool). cond b (c ∷ came v.sub v.rank lines) (came v.sub v.rank lines)) other in
    record { declared = l.declared; shape = l.shape; came = subst (λ (cs : List Came). LawfulSlot (history_of items v.item) v.wanted v.slot cs) (sym e) l.came }

eqb_self : (n : ℕ) → (n == n) ≡ true
eqb_self n = eq-eqb n n refl

eqb_swap : (m n : ℕ) → (m == n) ≡ (n == m)
eqb_swap m n = grind (arith, nat_tests)

pub is_at_swap : (v u : LiveSlot) → is_at v.sub v.rank u ≡ false → is_at u.sub u.rank v ≡ false
is_at_swap v u h = rw (eqb_swap u.sub v.sub, eqb_swap u.rank v.rank) h

pub here : (lines : List Line) (items : List Item) (tick : ℕ) (c : Came) (v : LiveSlot) → v.item < length items → v.slot.plan.shape ≡ shape_at items v.item
    → LawfulSlot (history_of items v.item) v.wanted v.slot (c ∷ came v.sub v.rank lines)
    → LawfulLive items (Tells v.sub v.rank tick c ∷ lines) v
here lines items tick c v declared shape l =
    let e : ((v.sub == v.sub) && (v.rank == v.rank)) ≡ true = rw (eqb_self v.sub, eqb_self v.rank) in
    let f : came v.sub v.rank (Tells v.sub v.rank tick c ∷ lines) ≡ c ∷ came v.sub v.rank lines =
    ap (λ (b : Bool). cond b (c ∷ came v.sub v.rank lines) (came v.sub v.rank lines)) e in
    record { declared = declared; shape = shape; came = subst (λ (cs : List Came). LawfulSlot (history_of items v.item) v.wanted v.slot cs) (sym f) l }

-- the round after its turns
abbrev pub CameBy : ℕ → List Item → List Line → Option RoundLine → List LiveSlot → Type 0
CameBy now items lines None kept = Unit {0}
CameBy now items lines (Some t) kept = LawfulLive items (Tells t.live.sub t.live.rank now t.came ∷ lines) t.live
    × Each (λ u. is_at t.live.sub t.live.rank u ≡ false) kept

-- a slot that stands apart from all of the round before
abbrev AwayFrom : LiveSlot → Option RoundLine → Type 0
AwayFrom v None = Unit {0}
AwayFrom v (Some t) = is_at v.sub v.rank t.live ≡ false

record LawfulRound (now : ℕ) (items : List Item) (lines : List Line) (slots : List LiveSlot) (r : Round) : Type 0 where
  kept : Each (LawfulLive items lines) r.kept
  apart : Apart r.kept
  came : CameBy now items lines r.came r.kept
  away : (v : LiveSlot) → Each (λ u. is_at v.sub v.rank u ≡ false) slots → Each (λ u. is_at v.sub v.rank u ≡ false) r.kept × AwayFrom v r.came

met_keeps : (now : ℕ) (items : List Item) (lines : List Line) (v : LiveSlot) (s : Slot) (o : Option Came) (vs : List LiveSlot) (r : Round)
    → v.item < length items → s.plan.shape ≡ shape_at items v.item → AfterTurn (history_of items v.item) v.wanted (came v.sub v.rank lines) s o
    → Each (LawfulLive items lines) vs → Each (λ u. is_at v.sub v.rank u ≡ false) vs → Apart vs → LawfulRound now items lines vs r
    → LawfulRound now items lines (v ∷ vs) (met_by (record v { slot = s }) o vs r)
met_keeps now items lines v s (Some c) vs r declared shape l each away apart rest =
    record { kept = each; apart = apart; came = (here lines items now c (record v { slot = s }) declared shape l, away); away = λ x k. (k.1, k.0) }
met_keeps now items lines v s None vs r declared shape l each away apart rest =
    record {
      kept = (record { declared = declared; shape = shape; came = l }, rest.kept);
      apart = ((rest.away v away).0, rest.apart);
      came = came_more r.came rest.came (rest.away v away).1;
      away = λ x k. ((k.0, (rest.away x k.1).0), (rest.away x k.1).1);
    }
  where
    came_more : (o : Option RoundLine) → CameBy now items lines o r.kept → AwayFrom v o → CameBy now items lines o (record v { slot = s } ∷ r.kept)
    came_more None t a = tt
    came_more (Some x) t a = (t.0, (is_at_swap v x.live a, t.1))

if_keeps : (b : Bool) (h : List Entry) (w : Wanted) (s : Slot) (cs : List Came) (t : Turn) → LawfulSlot h w s cs → AfterTurn h w cs t.slot t.came
    → AfterTurn h w cs (turn_if b s t).slot (turn_if b s t).came
if_keeps true h w s cs t l k = k
if_keeps false h w s cs t l k = l

if_plan : (b : Bool) (s : Slot) (t : Turn) → t.slot.plan ≡ s.plan → (turn_if b s t).slot.plan ≡ s.plan
if_plan true s t e = e
if_plan false s t e = refl

round_keeps : (due : LiveSlot → Bool) (now : ℕ) (items : List Item) (lines : List Line) (vs : List LiveSlot) → Each (LawfulLive items lines) vs → Apart vs
    → LawfulRound now items lines vs (round_of due items lines vs)
round_keeps due now items lines [] e a = record { kept = tt; apart = tt; came = tt; away = λ v k. (tt, tt) }
round_keeps due now items lines (v ∷ vs) e a =
    met_keeps now items lines v (live_turn due items lines v).slot (live_turn due items lines v).came vs (round_of due items lines vs) e.0.declared
    (ap (λ (p : Plan). p.shape) (if_plan (due v) v.slot (turn (history_of items v.item) v.wanted v.slot (came v.sub v.rank lines))
    (turn_plan (history_of items v.item) v.wanted v.slot (came v.sub v.rank lines))) ∙ e.0.shape)
    (if_keeps (due v) (history_of items v.item) v.wanted v.slot (came v.sub v.rank lines)
    (turn (history_of items v.item) v.wanted v.slot (came v.sub v.rank lines)) e.0.came
    (turn_keeps (history_of items v.item) v.wanted v.slot (came v.sub v.rank lines) e.0.came))
    e.1 a.0 a.1 (round_keeps due now items lines vs e.1 a.1)

apart_append : (vs us : List LiveSlot) → Apart vs → Apart us → Each (λ v. Each (λ u. is_at v.sub v.rank u ≡ false) us) vs → Apart (vs ++ us)
apart_append [] us a b c = b
apart_append (v ∷ vs) us a b c = (each_append (λ u. is_at v.sub v.rank u ≡ false) vs us a.0 c.0, apart_append vs us a.1 b c.1)

pub given_keeps : (now : ℕ) (items : List Item) (s : Board) (kept : List LiveSlot) (o : Option RoundLine) → Each (LawfulLive items s.lines) kept → Apart kept
    → CameBy now items s.lines o kept → LawfulBoard items (given_by now s kept o)
given_keeps now items s kept None e a t = record { apart = a; slots = e }
given_keeps now items s kept (Some x) e a t =
    record {
      apart = apart_append kept (x.live ∷ []) a (tt, tt) (each_map (λ u. is_at x.live.sub x.live.rank u ≡ false)
          (λ v. Each (λ u. is_at v.sub v.rank u ≡ false) (x.live ∷ [])) kept (λ u h. (is_at_swap x.live u h, tt)) t.1);
      slots = each_append (LawfulLive items (Tells x.live.sub x.live.rank now x.came ∷ s.lines)) kept (x.live ∷ [])
          (each_map (λ u. (is_at x.live.sub x.live.rank u ≡ false) × LawfulLive items s.lines u)
          (LawfulLive items (Tells x.live.sub x.live.rank now x.came ∷ s.lines)) kept
          (λ u h. elsewhere s.lines items x.live.sub x.live.rank now x.came u h.0 h.1)
          (each_both (λ u. is_at x.live.sub x.live.rank u ≡ false) (LawfulLive items s.lines) kept t.1 e))
          (t.0, tt);
    }

pub take_keeps : (due : LiveSlot → Bool) (now : ℕ) (items : List Item) (s : Board) → LawfulBoard items s → LawfulBoard items (taken_in due now items s)
take_keeps due now items s l =
    let r = round_keeps due now items s.lines s.round l.slots l.apart in
    given_keeps now items s (round_of due items s.lines s.round).kept (round_of due items s.lines s.round).came r.kept r.apart r.came

-- a new subscription
pub or_left : (a b : Bool) → (a || b) ≡ false → a ≡ false
or_left true b h = h
or_left false b h = refl

pub or_right : (a b : Bool) → (a || b) ≡ false → b ≡ false
or_right true b h = absurd (let x : true ≡ false = h in cc)
or_right false b h = h

and_false : (a b : Bool) → a ≡ false → (a && b) ≡ false
and_false true b h = absurd (let x : true ≡ false = h in cc)
and_false false b h = refl

and_false_right : (a b : Bool) → b ≡ false → (a && b) ≡ false
and_false_right true b h = h
and_false_right false b h = refl

pub unused_each : (sub : ℕ) (vs : List LiveSlot) → is_used sub vs ≡ false → Each (λ v. is_of sub v ≡ false) vs
unused_each sub [] h = tt
unused_each sub (v ∷ vs) h = (or_left (is_of sub v) (is_used sub vs) h, unused_each sub vs (or_right (is_of sub v) (is_used sub vs) h))

begun_keeps : (items : List Item) (lines : List Line) (sub : ℕ) (frequency : Option ℕ) (filtered : Bool) (n fields : ℕ) (keys : Option KeyPlaces) (v : LiveSlot)
    → is_of sub v ≡ false
    → LawfulLive items lines v → LawfulLive items (Configures sub frequency filtered ∷ Begins sub n fields keys ∷ lines) v
begun_keeps items lines sub frequency filtered n fields keys v other l =
    record {
      declared = l.declared;
      shape = l.shape;
      came = subst (λ (cs : List Came). LawfulSlot (history_of items v.item) v.wanted v.slot cs)
          (sym (ap (λ (b : Bool). cond b [] (came v.sub v.rank lines)) other)) l.came;
    }

-- what is asked of a slot that may join
pub record MayJoin (items : List Item) (a : Ask) : Type 0 where
  pub declared : a.item < length items
  pub some : 0 < a.size
  pub keys : a.mode ≡ mode.Command → IsKeyed (plan_of (shape_at items a.item) (history_of items a.item) a.mode a.size) a.wanted.places

joined_keeps : (items : List Item) (free : ℕ → ℕ) (lines : List Line) (sub : ℕ) (frequency : Option ℕ) (filtered : Bool) (n fields : ℕ)
    (keys : Option KeyPlaces) (rank : ℕ) (asks : List Ask) → Each (MayJoin items) asks
    → Each (LawfulLive items (Configures sub frequency filtered ∷ Begins sub n fields keys ∷ lines)) (joined_all items free sub rank asks)
joined_keeps items free lines sub frequency filtered n fields keys rank [] may = tt
joined_keeps items free lines sub frequency filtered n fields keys rank (a ∷ asks) may = (
  record {
    declared = may.0.declared;
    shape = ap (λ (p : Plan). p.shape) (joined_plan (plan_of (shape_at items a.item) (history_of items a.item) a.mode a.size) (history_of items a.item)
        a.wanted.snapshot);
    came = subst (λ (cs : List Came). LawfulSlot (history_of items a.item) a.wanted (joined_slot items a) cs)
        (sym (ap (λ (b : Bool). cond b [] (came sub rank lines)) (eqb_self sub)))
        (joins (plan_of (shape_at items a.item) (history_of items a.item) a.mode a.size) (history_of items a.item) a.wanted refl may.0.some may.0.keys);
  },
  joined_keeps items free lines sub frequency filtered n fields keys (rank + 1) asks may.1,
)

not_equal : (m n : ℕ) → m < n → (m == n) ≡ false
not_equal m n l = ne_eqb m n (λ e. absurd (omega (arith, e)))

joined_beyond : (items : List Item) (free : ℕ → ℕ) (sub other low rank : ℕ) (asks : List Ask) → low < rank
    → Each (λ u. ((other == u.sub) && (low == u.rank)) ≡ false) (joined_all items free sub rank asks)
joined_beyond items free sub other low rank [] le = tt
joined_beyond items free sub other low rank (a ∷ asks) le = (
  and_false_right (other == sub) (low == rank) (not_equal low rank le),
  joined_beyond items free sub other low (rank + 1) asks (omega (arith, le)),
)

joined_apart : (items : List Item) (free : ℕ → ℕ) (sub rank : ℕ) (asks : List Ask) → Apart (joined_all items free sub rank asks)
joined_apart items free sub rank [] = tt
joined_apart items free sub rank (a ∷ asks) = (joined_beyond items free sub sub rank (rank + 1) asks (omega arith), joined_apart items free sub (rank + 1) asks)

joined_away : (items : List Item) (free : ℕ → ℕ) (sub rank : ℕ) (asks : List Ask) (v : LiveSlot) → is_of sub v ≡ false
    → Each (λ u. is_at v.sub v.rank u ≡ false) (joined_all items free sub rank asks)
joined_away items free sub rank [] v h = tt
joined_away items free sub rank (a ∷ asks) v h =
    (and_false (v.sub == sub) (v.rank == rank) (eqb_swap v.sub sub ∙ h), joined_away items free sub (rank + 1) asks v h)

pub added_apart : (items : List Item) (free : ℕ → ℕ) (sub : ℕ) (asks : List Ask) (round : List LiveSlot) → Apart round → is_used sub round ≡ false
    → Apart (round ++ joined_all items free sub 1 asks)
added_apart items free sub asks round apart new =
    apart_append round (joined_all items free sub 1 asks) apart (joined_apart items free sub 1 asks)
    (each_map (λ v. is_of sub v ≡ false) (λ v. Each (λ u. is_at v.sub v.rank u ≡ false) (joined_all items free sub 1 asks)) round
    (λ v h. joined_away items free sub 1 asks v h) (unused_each sub round new))

pub add_keeps : (items : List Item) (free : ℕ → ℕ) (sub fields : ℕ) (asks : List Ask) (b : Board) → is_used sub b.round ≡ false → Each (MayJoin items) asks
    → LawfulBoard items b → LawfulBoard items (added items free sub fields asks b)
add_keeps items free sub fields asks b new may l =
    let away = unused_each sub b.round new in
    record {
      apart = added_apart items free sub asks b.round l.apart new;
      slots = each_append (LawfulLive items (added items free sub fields asks b).lines) b.round (joined_all items free sub 1 asks)
          (each_map (λ v. (is_of sub v ≡ false) × LawfulLive items b.lines v) (LawfulLive items (added items free sub fields asks b).lines) b.round
          (λ v h. begun_keeps items b.lines sub (frequency_of asks) (are_filtered asks) (length asks) fields (keys_shown items asks) v h.0 h.1)
          (each_both (λ v. is_of sub v ≡ false) (LawfulLive items b.lines) b.round away l.slots))
          (joined_keeps items free b.lines sub (frequency_of asks) (are_filtered asks) (length asks) fields (keys_shown items asks) 1 asks may);
    }

-- the slots of other subscriptions
pub without_each : (P : LiveSlot → Type 0) (sub : ℕ) (vs : List LiveSlot) → Each P vs → Each P (without sub vs)
without_each P sub [] e = tt
without_each P sub (v ∷ vs) e =
    cond_rule (Each P) (is_of sub v) _ _ (λ t. without_each P sub vs e.1) (λ t. (e.0, without_each P sub vs e.1))

pub without_others : (sub : ℕ) (vs : List LiveSlot) → Each (λ v. is_of sub v ≡ false) (without sub vs)
without_others sub [] = tt
without_others sub (v ∷ vs) =
    cond_rule (Each (λ u. is_of sub u ≡ false)) (is_of sub v) _ _ (λ t. without_others sub vs) (λ t. (t, without_others sub vs))

without_apart : (sub : ℕ) (vs : List LiveSlot) → Apart vs → Apart (without sub vs)
without_apart sub [] a = tt
without_apart sub (v ∷ vs) a =
    cond_rule Apart (is_of sub v) _ _ (λ t. without_apart sub vs a.1)
    (λ t. (without_each (λ u. is_at v.sub v.rank u ≡ false) sub vs a.0, without_apart sub vs a.1))

-- the end of a subscription brings nothing to them
ends_keeps : (items : List Item) (lines : List Line) (sub : ℕ) (v : LiveSlot) → is_of sub v ≡ false → LawfulLive items lines v
    → LawfulLive items (Ends sub ∷ lines) v
ends_keeps items lines sub v other l =
    record {
      declared = l.declared;
      shape = l.shape;
      came = subst (λ (cs : List Came). LawfulSlot (history_of items v.item) v.wanted v.slot cs)
          (sym (ap (λ (b : Bool). cond b [] (came v.sub v.rank lines)) other)) l.came;
    }

pub remove_keeps : (items : List Item) (sub : ℕ) (b : Board) → LawfulBoard items b → LawfulBoard items (removed sub b)
remove_keeps items sub b l =
    record {
      apart = without_apart sub b.round l.apart;
      slots = each_map (λ v. (is_of sub v ≡ false) × LawfulLive items b.lines v) (LawfulLive items (Ends sub ∷ b.lines)) (without sub b.round)
          (λ v h. ends_keeps items b.lines sub v h.0 h.1)
          (each_both (λ v. is_of sub v ≡ false) (LawfulLive items b.lines) (without sub b.round) (without_others sub b.round)
          (without_each (LawfulLive items b.lines) sub b.round l.slots));
    }

-- another frequency of a subscription brings nothing to a slot
frequency_live : (items : List Item) (lines : List Line) (sub n : ℕ) (f g : Option ℕ) (filtered : Bool) (v : LiveSlot) → LawfulLive items lines v
    → LawfulLive items (Configures n g filtered ∷ lines) (with_frequency sub f v)
frequency_live items lines sub n f g filtered v l =
    cond_rule (LawfulLive items (Configures n g filtered ∷ lines)) (is_of sub v) (record v { frequency = f }) v
    (λ t. record { declared = l.declared; shape = l.shape; came = l.came }) (λ t. record { declared = l.declared; shape = l.shape; came = l.came })

frequency_key : (sub : ℕ) (f : Option ℕ) (v : LiveSlot) → SameKey v (with_frequency sub f v)
frequency_key sub f v = cond_rule (SameKey v) (is_of sub v) (record v { frequency = f }) v (λ t. (refl, refl)) (λ t. (refl, refl))

pub reconf_keeps : (items : List Item) (sub : ℕ) (frequency : Option ℕ) (b : Board) → LawfulBoard items b → LawfulBoard items (reconfigured sub frequency b)
reconf_keeps items sub frequency b l =
    let m : Mode = mode_in sub b.round in
    record {
      apart = apart_mapped (with_frequency sub (frequency_in m frequency)) (frequency_key sub (frequency_in m frequency)) b.round l.apart;
      slots = each_mapped (LawfulLive items b.lines) (LawfulLive items (Configures sub (frequency_in m frequency) (is_filtered m) ∷ b.lines))
          (with_frequency sub (frequency_in m frequency)) b.round
          (frequency_live items b.lines sub sub (frequency_in m frequency) (frequency_in m frequency) (is_filtered m)) l.slots;
    }

-- what became of a client's message brings nothing to a slot
answered_live : (items : List Item) (lines : List Line) (outcome : MessageOutcome) (v : LiveSlot) → LawfulLive items lines v
    → LawfulLive items (Answers outcome ∷ lines) v
answered_live items lines outcome v l = record { declared = l.declared; shape = l.shape; came = l.came }

pub answered_keeps : (items : List Item) (outcome : MessageOutcome) (b : Board) → LawfulBoard items b → LawfulBoard items (with_outcome outcome b)
answered_keeps items outcome b l =
    record {
      apart = l.apart;
      slots = each_map (LawfulLive items b.lines) (LawfulLive items (Answers outcome ∷ b.lines)) b.round (answered_live items b.lines outcome) l.slots;
    }
