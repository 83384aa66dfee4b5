-- A subscription is added to a session in threads: what is kept while its slots join, and once it has begun.
use Rattle.std.proofs.Common.{◌≡◌, ◌<◌, ◌≤◌, ◌||◌, ℕ, zero, suc, ◌+◌, List, [], ◌∷◌, ◌++◌, length, map, refl, sym, ◌∙◌, ap, arith, subst, cond, Bool}
use Rattle.std.proofs.Common.{true, false, Option, Some, None, slice_get, get_or, set, append_assoc, take, not, ◌⊎◌, inl, inr, IfSome, IfOk, OnErr}
use Rattle.std.proofs.Common.{Result, Ok, Err, IsTrue, IsFalse}
use Rattle.std.proofs.lemmas.Bool.{eq-eqb, leb-false}
use Rattle.std.proofs.lemmas.List.{take_all}
use Rattle.std.specs.List.{filter}
use mathlib.Core.List.{IsPrefix}
use Rattle.ls_value.specs.Each.{Each}
use Rattle.ls_value.proofs.Each.{each_append}
use Rattle.ls_value.specs.declared.limits.TheConstants.{GREATEST_NUMBER, GREATEST_TICK}
use Rattle.ls_event.specs.declared.event.Entry.{Entry}
use Rattle.ls_event.specs.declared.item.ItemDef.{ItemDef}
use Rattle.ls_event.specs.Joining.{plan_of, joined, rows_asked}
use Rattle.ls_event.specs.Shapes.{Shape}
use Rattle.ls_event.specs.declared.event.Mode.{Mode}
use Rattle.ls_event.specs.Slots.{Plan, Slot}
use Rattle.ls_cell.proofs.Arrivals.{joined_plan}
use Rattle.ls_request.specs.declared.request.Add.{Add}
use Rattle.ls_request.specs.Ranges.{AddFits, IsOrdinal}
use Rattle.ls_lawful.proofs.Asked.{asked_is}
use Rattle.ls_lawful.proofs.Requested.{IsAdd}
use Rattle.ls_record.specs.Acting.{asks_of, group_of, add_refusals}
use Rattle.ls_record.specs.Cases.{first_code}
use Rattle.ls_record.specs.Cutting.{Ask}
use Rattle.ls_record.specs.Lines.{Begins, line_text}
use Rattle.ls_record.specs.declared.TheConstants.{MOST_UNSENT}
use Rattle.ls_record.specs.Records.{Item, LiveSlot, Session, change, shape_in, is_alive, is_of, is_used, numbered, definitions}
use Rattle.ls_record.proofs.Asking.{can_join}
use Rattle.ls_register.specs.Begun.{BegunSeen}
use Rattle.ls_register.specs.declared.told.Told.{Told}
use Rattle.ls_register.specs.declared.told.Told.TheVariants.{Numbered}
use Rattle.ls_live.specs.Live.{HeldItem}
use Rattle.ls_seated.specs.Seats.{SeatSeen, IsAt, first_cursor}
use Rattle.ls_seated.specs.declared.planned.Planned.{Planned}
use Rattle.ls_seated.specs.declared.planned.JoinRefused.{JoinRefused}
use Rattle.ls_subs.specs.declared.plan.AddPlan.{AddPlan}
use Rattle.ls_subs.specs.declared.plan.PlanItem.{PlanItem}
use Rattle.ls_subs.specs.Plans.{IsPlan, IsPlanItem, ArePlanItems, MayJoin, JoinAll, keys_of_asks}
use Rattle.ls_subs.proofs.Joins.{joins_plan}
use Rattle.ls_session.specs.declared.session.Session.{Session as Kept}
use Rattle.ls_session.specs.Record.{Record, begun_again, adding_code, with_plan}
use Rattle.ls_session.specs.Session.{StandsSession, IsReady}
use Rattle.ls_told.specs.Spoken.{Spoken}
use Rattle.ls_told.specs.Heard.{heard}
use Rattle.ls_told.proofs.Appended.{heard_one, latest_rises}
use Rattle.ls_told.specs.Joining.{joins_as}
use Rattle.ls_told.specs.Requests.{op_code, is_spent, plain, begins_with, IsAsked, AreAsked}
use Rattle.ls_told.specs.Seen.{Watched, seen_of, items_seen, FitsWatch, showing, SeesMore}
use Rattle.ls_told.specs.Keeping.{KeepsTold}
use Rattle.ls_told.proofs.Joined.{keeps_added}
use Rattle.ls_told.proofs.Watching.{definitions_seen, sees_changed, sees_appended, sees_same, sees_twice}
use Rattle.ls_request.specs.declared.request.Op.TheVariants as op
use Rattle.ls_parts.specs.Cut.{CutOf}
use Rattle.ls_parts.specs.Sights.{IsFirst, NoneBefore}
use Rattle.ls_parts.specs.Groups.{SubSeen}
use Rattle.ls_parts.specs.Lives.{HasSeat, FitsHistory, LivesAs, Lives}
use Rattle.ls_parts.proofs.Seeing.{lives_seen_at, lives_watched}
use Rattle.ls_parts.proofs.Bounds.{length_one}
use Rattle.ls_parts.proofs.Living.{latest_at}
use Rattle.ls_joining.specs.Adding.{AreSitting, IsAdding, AddsTo, AddsWatch, JoinsNow, JoinsOne, JoinsNone, slot_begun}
use Rattle.ls_joining.proofs.Sitting.{slot_seen, sitting_watched, sitting_next, sitters, sitters_joined, sitters_watched, all_still, sitters_seated}
use Rattle.ls_joining.proofs.Sitting.{settled_sitters, asks_places, begun_sitters}

-- an element that is read
pub read_at : {A : Type 0} (xs : List A) (i : ℕ) (x : A) → i < length xs → x ≡ get_or xs i x → slice_get xs i ≡ Some x
read_at [] i x within is = absurd (omega (arith, within))
read_at (y ∷ xs) zero x within is = ap (λ z. Some z) (sym is)
read_at (y ∷ xs) (suc i) x within is = read_at xs i x (omega (arith, within)) is

-- what an add that isn't refused says
alive_none : (b : Bool) (code : Option ℕ) → cond b code (Some 20) ≡ None → (b ≡ true) × (code ≡ None)
alive_none true code is = (refl, is)
alive_none false code is = absurd (let x : Some 20 ≡ None = is in cc)

pub not_refused : (config : List ItemDef) (free : ℕ) (s : Session) (a : Add) → adding_code config free s a ≡ None
    → (is_alive s.life ≡ true) × (first_code (add_refusals config free s a) ≡ None)
not_refused config free s a none = alive_none (is_alive s.life) (first_code (add_refusals config free s a)) none

-- the item of a plan at a place is what is asked there
pub record PlannedAt (config : List ItemDef) (sub rank : ℕ) (asks : List Ask) (j : ℕ) (p : PlanItem) : Type 0 where
  pub ask : Ask
  pub at : slice_get asks j ≡ Some ask
  pub is : IsPlanItem config sub (rank + j) ask p

planned_at : (config : List ItemDef) (sub rank : ℕ) (asks : List Ask) (ps : List PlanItem) (j : ℕ) (p : PlanItem) → ArePlanItems config sub rank asks ps
    → slice_get ps j ≡ Some p → PlannedAt config sub rank asks j p
planned_at config sub rank [] [] j p are is = absurd (let x : None ≡ Some p = is in cc)
planned_at config sub rank [] (x ∷ ps) j p are is = absurd are
planned_at config sub rank (a ∷ asks) [] j p are is = absurd are
planned_at config sub rank (a ∷ asks) (x ∷ ps) zero p are is =
    let same : x ≡ p = cc in
    record {
      ask = a;
      at = refl;
      is = subst (λ (m : ℕ). IsPlanItem config sub m a p) {x = rank} {y = rank + zero} (omega arith)
          (subst (λ (y : PlanItem). IsPlanItem config sub rank a y) same are.0);
    }
planned_at config sub rank (a ∷ asks) (x ∷ ps) (suc j) p are is =
    let n = planned_at config sub (rank + 1) asks ps j p are.1 is in
    record {
      ask = n.ask;
      at = n.at;
      is = subst (λ (m : ℕ). IsPlanItem config sub m n.ask p) {x = rank + 1 + j} {y = rank + suc j} (omega arith) n.is;
    }

plan_length : (config : List ItemDef) (sub rank : ℕ) (asks : List Ask) (ps : List PlanItem) → ArePlanItems config sub rank asks ps → length ps ≡ length asks
plan_length config sub rank [] [] are = refl
plan_length config sub rank [] (x ∷ ps) are = absurd are
plan_length config sub rank (a ∷ asks) [] are = absurd are
plan_length config sub rank (a ∷ asks) (x ∷ ps) are = ap suc (plan_length config sub (rank + 1) asks ps are.1)

all_declared : (config : List ItemDef) (sub rank : ℕ) (asks : List Ask) (ps : List PlanItem) → ArePlanItems config sub rank asks ps
    → Each (MayJoin config) ps → Each (λ (a : Ask). a.item < length config) asks
all_declared config sub rank [] [] are may = tt
all_declared config sub rank [] (x ∷ ps) are may = absurd are
all_declared config sub rank (a ∷ asks) [] are may = absurd are
all_declared config sub rank (a ∷ asks) (x ∷ ps) are may =
    (omega (arith, are.0.item, may.0.declared), all_declared config sub (rank + 1) asks ps are.1 may.1)

pub items_planned : (config : List ItemDef) (sub rank : ℕ) (asks : List Ask) (ps : List PlanItem) → ArePlanItems config sub rank asks ps
    → map (λ (p : PlanItem). p.item) ps ≡ map (λ (a : Ask). a.item) asks
items_planned config sub rank [] [] are = refl
items_planned config sub rank [] (x ∷ ps) are = absurd are
items_planned config sub rank (a ∷ asks) [] are = absurd are
items_planned config sub rank (a ∷ asks) (x ∷ ps) are =
    ap (λ (n : ℕ). n ∷ map (λ (p : PlanItem). p.item) ps) are.0.item
    ∙ ap (λ (ns : List ℕ). a.item ∷ ns) (items_planned config sub (rank + 1) asks ps are.1)

-- one watch more
pub adding_watched : (config : List ItemDef) (number : ℕ) (es : List Told) (old new : List Watched) (subs : List SubSeen) (k : Kept) (a : Add) (free : ℕ)
    (plan : AddPlan) (seats : List SeatSeen) (numbers : List ℕ) (r : Record) → AddsWatch config old new
    → IsAdding config number es old subs k a free plan seats numbers r → IsAdding config number es new subs k a free plan seats numbers r
adding_watched config number es old new subs k a free plan seats numbers r adds i = by_case adds.adds
  where
    more : (w : Watched) → FitsWatch config w → IsAdding config number es (old ++ w ∷ []) subs k a free plan seats numbers r
    more w fits =
        record {
          lives = lives_watched config number es old subs k r w fits i.lives;
          ready = i.ready;
          plan_is = i.plan_is;
          may = i.may;
          fits = i.fits;
          none = i.none;
          left = i.left;
          sitting = sitting_watched config old w a.sub 1 (asks_of config a) seats
              (all_declared config a.sub 1 (asks_of config a) plan.items.items i.plan_is.items i.may) i.sitting;
          numbers_are = i.numbers_are;
        }

    by_case : (new ≡ old) ⊎ ((w : Watched) × (new ≡ old ++ w ∷ []) × FitsWatch config w)
        → IsAdding config number es new subs k a free plan seats numbers r
    by_case (inl same) = subst (λ (ws : List Watched). IsAdding config number es ws subs k a free plan seats numbers r) (sym same) i
    by_case (inr added) =
        subst (λ (ws : List Watched). IsAdding config number es ws subs k a free plan seats numbers r) (sym added.1) (more added.0 added.2)

pub adds_sees : (config : List ItemDef) (old new : List Watched) → AddsWatch config old new → SeesMore old new
adds_sees config old new adds = by_case adds.adds
  where
    by_case : (new ≡ old) ⊎ ((w : Watched) × (new ≡ old ++ w ∷ []) × FitsWatch config w) → SeesMore old new
    by_case (inl same) = subst (λ (ws : List Watched). SeesMore old ws) (sym same) (sees_same old)
    by_case (inr added) = subst (λ (ws : List Watched). SeesMore old ws) (sym added.1) (sees_appended old added.0)

pub joins_sees : (config : List ItemDef) (old new : List Watched) (k sub rank : ℕ) (i : HeldItem) (p : PlanItem) (t : SeatSeen)
    → JoinsNow config old new k sub rank i p t → SeesMore old new
joins_sees config old new k sub rank i p t j =
    subst (λ (ws : List Watched). SeesMore old ws) (sym j.new_is) (sees_changed old k j.first.watch i.history j.first.there j.more)

-- a slot more
pub adding_next : (config : List ItemDef) (number : ℕ) (es : List Told) (old new : List Watched) (subs : List SubSeen) (k : Kept) (a : Add) (free : ℕ)
    (plan : AddPlan) (seats : List SeatSeen) (numbers : List ℕ) (r : Record) (place : ℕ) (i : HeldItem) (p : PlanItem) (t : SeatSeen)
    → slice_get plan.items.items (length seats) ≡ Some p → JoinsNow config old new place plan.sub (length seats) i p t
    → IsAdding config number es old subs k a free plan seats numbers r
    → IsAdding config number es new subs k a free plan (seats ++ t ∷ []) (numbers ++ t.number ∷ []) r
adding_next config number es old new subs k a free plan seats numbers r place i p t is j d =
    let asks : List Ask = asks_of config a in
    let at = planned_at config a.sub 1 asks plan.items.items (length seats) p d.plan_is.items is in
    let q : Ask = at.ask in
    let w : Watched = j.first.watch in
    let none = (not_refused config free r.session a d.none).1 in
    subst (λ (ws : List Watched). IsAdding config number es ws subs k a free plan (seats ++ t ∷ []) (numbers ++ t.number ∷ []) r) (sym j.new_is)
    (record {
      lives = lives_seen_at config number es old subs k r place w i.history j.first.there j.more j.fits d.lives;
      ready = d.ready;
      plan_is = d.plan_is;
      may = d.may;
      fits = d.fits;
      none = d.none;
      left = d.left;
      sitting = sitting_next config old place w i.history a.sub 1 asks seats q t (all_declared config a.sub 1 asks plan.items.items d.plan_is.items d.may)
          (can_join config free r.session a none).apart at.at
          (record {
            there = j.first.there;
            item = j.first.number_is ∙ at.is.item;
            first = subst (λ (n : ℕ). NoneBefore old place n) at.is.item j.first.none;
            more = j.more;
            sub_is = j.sub_is ∙ d.plan_is.sub;
            rank_is = omega (arith, j.rank_is);
            item_is = j.item_is ∙ at.is.item;
            at = slot_at q at.is;
            last = j.last;
            quiet = j.quiet;
            asked = ap (λ (x : Planned). rows_asked x.snapshot) j.plan ∙ at.is.snapshot;
            cursor = j.cursor ∙ ap (λ (m : Mode). first_cursor m (length i.history) (rows_asked p.snapshot)) at.is.mode
                ∙ ap (λ (o : Option ℕ). first_cursor q.mode (length i.history) o) at.is.snapshot;
          }) d.sitting;
      numbers_are = ap (λ (ns : List ℕ). ns ++ t.number ∷ []) d.numbers_are ∙ sym (map_last seats);
    })
  where
    map_last : (ts : List SeatSeen) → map (λ (u : SeatSeen). u.number) (ts ++ t ∷ []) ≡ map (λ (u : SeatSeen). u.number) ts ++ t.number ∷ []
    map_last [] = refl
    map_last (u ∷ ts) = ap (λ (ns : List ℕ). u.number ∷ ns) (map_last ts)

    slot_at : (q : Ask) → IsPlanItem config a.sub (1 + length seats) q p
        → IsAt (shape_in config q.item) i.history t.plan t.list
        (joined (plan_of (shape_in config q.item) i.history q.mode q.size) i.history q.wanted.snapshot)
    slot_at q is =
        subst (λ (n : ℕ). IsAt (shape_in config n) i.history t.plan t.list (joined (plan_of (shape_in config n) i.history q.mode q.size) i.history q.wanted.snapshot)) is.item
        (subst (λ (x : Shape). IsAt x i.history t.plan t.list (joined (plan_of x i.history q.mode q.size) i.history q.wanted.snapshot)) j.shape
        (subst (λ (m : Mode). IsAt i.shape i.history t.plan t.list (joined (plan_of i.shape i.history m q.size) i.history q.wanted.snapshot)) is.mode
        (subst (λ (n : ℕ). IsAt i.shape i.history t.plan t.list (joined (plan_of i.shape i.history p.mode n) i.history q.wanted.snapshot)) is.size
        (subst (λ (o : Option ℕ). IsAt i.shape i.history t.plan t.list (joined (plan_of i.shape i.history p.mode p.n) i.history o)) is.snapshot
        (subst (λ (l : List ℕ). IsAt i.shape i.history t.plan l (joined (plan_of i.shape i.history p.mode p.n) i.history (rows_asked p.snapshot))) (sym j.list) j.at)))))

-- as many seats as are asked for are of slots that joined as planned
join_sitters : (items : List Item) (sub rank : ℕ) (asks : List Ask) (ps : List PlanItem) (ts : List SeatSeen) → ArePlanItems (definitions items) sub rank asks ps
    → Each (MayJoin (definitions items)) ps → length ts ≡ length ps
    → JoinAll ps (map (λ (t : SeatSeen). t.number) ts) (sitters items sub rank asks ts)
join_sitters items sub rank [] [] [] are may all = tt
join_sitters items sub rank [] [] (t ∷ ts) are may all = absurd (omega (arith, all))
join_sitters items sub rank [] (p ∷ ps) ts are may all = absurd are
join_sitters items sub rank (a ∷ asks) [] ts are may all = absurd are
join_sitters items sub rank (a ∷ asks) (p ∷ ps) [] are may all = absurd (omega (arith, all))
join_sitters items sub rank (a ∷ asks) (p ∷ ps) (t ∷ ts) are may all =
    (joins_plan items sub rank t.number a p are.0 may.0, join_sitters items sub (rank + 1) asks ps ts are.1 may.1 (omega (arith, all)))

-- they are those that were asked for
asked_same : (config : List ItemDef) (ws : List Watched) (sub rank : ℕ) (a : Ask) (t : SeatSeen) → a.item < length config
    → IsAsked config ws sub rank a (joins_as (items_seen config ws) sub rank a t.number)
asked_same config ws sub rank a t declared =
    let h : List Entry = seen_of ws a.item in
    let plan : (joins_as (items_seen config ws) sub rank a t.number).slot.plan ≡ plan_of (shape_in config a.item) h a.mode a.size =
    ap (λ (s : Slot). s.plan) (slot_seen config ws a declared) ∙ joined_plan a.mode (plan_of (shape_in config a.item) h a.mode a.size) h a.wanted.snapshot in
    let base : (joins_as (items_seen config ws) sub rank a t.number).slot.plan.base ≡ length h = ap (λ (p : Plan). p.base) plan in
    record {
      sub_is = refl;
      rank_is = refl;
      item_is = refl;
      frequency_is = refl;
      wanted_is = refl;
      base = omega (arith, base);
      plan = plan ∙ ap (λ (l : List Entry). plan_of (shape_in config a.item) l a.mode a.size)
          (sym (ap (λ (n : ℕ). take n h) base ∙ take_all (length h) h (omega arith)));
    }

asked_sitters : (config : List ItemDef) (ws : List Watched) (sub rank : ℕ) (asks : List Ask) (ts : List SeatSeen)
    → Each (λ (a : Ask). a.item < length config) asks → length ts ≡ length asks
    → AreAsked config ws sub rank asks (sitters (items_seen config ws) sub rank asks ts)
asked_sitters config ws sub rank [] [] declared all = tt
asked_sitters config ws sub rank (a ∷ asks) [] declared all = absurd (omega (arith, all))
asked_sitters config ws sub rank [] (t ∷ ts) declared all = absurd (omega (arith, all))
asked_sitters config ws sub rank (a ∷ asks) (t ∷ ts) declared all =
    (asked_same config ws sub rank a t declared.0, asked_sitters config ws sub (rank + 1) asks ts declared.1 (omega (arith, all)))

-- and all slots of their subscription
or_false : (b c : Bool) → (b || c) ≡ false → (b ≡ false) × (c ≡ false)
or_false false c is = (refl, is)
or_false true c is = absurd (let x : true ≡ false = is in cc)

in_round : (sub : ℕ) (round vs : List LiveSlot) → is_used sub round ≡ false → filter (is_of sub) (round ++ vs) ≡ filter (is_of sub) vs
in_round sub [] vs none = refl
in_round sub (u ∷ round) vs none =
    let parts = or_false (is_of sub u) (is_used sub round) none in
    ap (λ (b : Bool). cond b (u ∷ filter (is_of sub) (round ++ vs)) (filter (is_of sub) (round ++ vs))) parts.0 ∙ in_round sub round vs parts.1

of_sitters : (items : List Item) (sub rank : ℕ) (asks : List Ask) (ts : List SeatSeen)
    → filter (is_of sub) (sitters items sub rank asks ts) ≡ sitters items sub rank asks ts
of_sitters items sub rank asks [] = refl
of_sitters items sub rank [] (t ∷ ts) = refl
of_sitters items sub rank (a ∷ asks) (t ∷ ts) =
    let rest : List LiveSlot = sitters items sub (rank + 1) asks ts in
    let v : LiveSlot = joins_as items sub rank a t.number in
    ap (λ (b : Bool). cond b (v ∷ filter (is_of sub) rest) (filter (is_of sub) rest)) (eq-eqb sub sub refl)
    ∙ ap (λ (vs : List LiveSlot). v ∷ vs) (of_sitters items sub (rank + 1) asks ts)

-- a code behind others
pub code_behind : (rows : List (ℕ × Bool)) (spent : Bool) → first_code rows ≡ None → first_code (rows ++ (74, spent) ∷ []) ≡ cond spent (Some 74) None
code_behind [] spent none = refl
code_behind (row ∷ rows) spent none = by_test row.1 none (code_behind rows spent)
  where
    by_test : (b : Bool) → cond b (Some row.0) (first_code rows) ≡ None
        → (first_code rows ≡ None → first_code (rows ++ (74, spent) ∷ []) ≡ cond spent (Some 74) None)
        → cond b (Some row.0) (first_code (rows ++ (74, spent) ∷ [])) ≡ cond spent (Some 74) None
    by_test true none rest = absurd (let x : Some row.0 ≡ None = none in cc)
    by_test false none rest = rest none

pub code_before : (rows : List (ℕ × Bool)) (spent : Bool) (code : ℕ) → first_code rows ≡ Some code → first_code (rows ++ (74, spent) ∷ []) ≡ Some code
code_before [] spent code is = absurd (let x : None ≡ Some code = is in cc)
code_before (row ∷ rows) spent code is = by_test row.1 is (code_before rows spent code)
  where
    by_test : (b : Bool) → cond b (Some row.0) (first_code rows) ≡ Some code
        → (first_code rows ≡ Some code → first_code (rows ++ (74, spent) ∷ []) ≡ Some code)
        → cond b (Some row.0) (first_code (rows ++ (74, spent) ∷ [])) ≡ Some code
    by_test true is rest = is
    by_test false is rest = rest is

-- an add is refused for these and where a history is spent
pub add_none : (config : List ItemDef) (free : ℕ) (spent : Bool) (s : Session) (a : Add) → adding_code config free s a ≡ None
    → op_code config free spent s (op.Add a) ≡ cond spent (Some 74) None
add_none config free spent s a none =
    let parts = not_refused config free s a none in
    ap (λ (b : Bool). cond (not b) (Some 20) (first_code (add_refusals config free s a ++ (74, spent) ∷ []))) parts.0
    ∙ code_behind (add_refusals config free s a) spent parts.1

pub add_some : (config : List ItemDef) (free : ℕ) (spent : Bool) (s : Session) (a : Add) (code : ℕ) → adding_code config free s a ≡ Some code
    → op_code config free spent s (op.Add a) ≡ Some code
add_some config free spent s a code is = by_life (is_alive s.life) is
  where
    by_life : (b : Bool) → cond b (first_code (add_refusals config free s a)) (Some 20) ≡ Some code
        → cond (not b) (Some 20) (first_code (add_refusals config free s a ++ (74, spent) ∷ [])) ≡ Some code
    by_life true is = code_before (add_refusals config free s a) spent code is
    by_life false is = is

pub add_over : (config : List ItemDef) (free : ℕ) (spent : Bool) (s : Session) (a : Add) (code : ℕ) → adding_code config free s a ≡ None → spent ≡ true
    → 74 ≡ code → op_code config free spent s (op.Add a) ≡ Some code
add_over config free spent s a code none over same =
    add_none config free spent s a none ∙ ap (λ (b : Bool). cond {A = Option ℕ} b (Some 74) None) over ∙ ap (λ (n : ℕ). Some n) same

pub or_over : (b : Bool) → (b || true) ≡ true
or_over true = refl
or_over false = refl

adds : (a : Add) → AddFits a → IsAdd a
adds a f = record { some = f.sub.0; most = f.sub.1; size = sized a.size f.size }
  where
    sized : (o : Option ℕ) → IfSome o IsOrdinal → IfSome o (λ n. 1 ≤ n)
    sized None h = tt
    sized (Some n) h = h.0

-- a history that isn't spent
pub unspent : (es : List Told) → is_spent es ≡ false → length es < GREATEST_NUMBER
unspent es left = leb-false GREATEST_NUMBER (length es) left

-- with what a subscription begins that has these seats
abbrev pub begun_with : List (List ℕ) → List SeatSeen → BegunSeen
begun_with schema seats = record { schema = schema; slots = map slot_begun seats }

-- a session to which the subscription was added
module _ (config : List ItemDef) (number : ℕ) (es : List Told) (ws : List Watched) (subs : List SubSeen) (k : Kept) (a : Add) (free : ℕ)
    (plan : AddPlan) (seats : List SeatSeen) (numbers : List ℕ) (r : Record) (tick : ℕ) (k2 : Kept)
    (d : IsAdding config number es ws subs k a free plan seats numbers r) (all : length seats ≡ length plan.items.items) where
  abbrev pub vs : List LiveSlot
  vs = sitters (items_seen config ws) a.sub 1 (asks_of config a) seats

  abbrev pub later : List Told
  later = (es ++ begins_with plan.begins (begun_with a.schema seats) tick ∷ []) ++ plain plan.configures tick ∷ []

  abbrev pub after : Record
  after = begun_again (numbered (with_plan config a vs) r.session) r

  abbrev pub groups : List SubSeen
  groups = subs ++ record { sub = plan.sub; seats = seats } ∷ []

  asked : length seats ≡ length (asks_of config a)
  asked = all ∙ plan_length config a.sub 1 (asks_of config a) plan.items.items d.plan_is.items

  pub join_numbers : JoinAll plan.items.items numbers vs
  join_numbers =
      subst (λ (ns : List ℕ). JoinAll plan.items.items ns vs) (sym d.numbers_are)
      (join_sitters (items_seen config ws) a.sub 1 (asks_of config a) plan.items.items seats
      (subst (λ (defs : List ItemDef). ArePlanItems defs a.sub 1 (asks_of config a) plan.items.items) (sym (definitions_seen config ws)) d.plan_is.items)
      (subst (λ (defs : List ItemDef). Each (MayJoin defs) plan.items.items) (sym (definitions_seen config ws)) d.may) all)

  pub added_told : KeepsTold config number later ws after.session
  added_told =
      keeps_added config number es ws r.session free a vs _ _
      (record {
        add = adds a d.fits;
        none = (not_refused config free r.session a d.none).1;
        joined = sitters_joined (items_seen config ws) a.sub 1 (asks_of config a) seats asked;
        watched = sitters_watched config ws a.sub 1 (asks_of config a) seats d.sitting;
        begins = d.plan_is.begins;
        begins_plain = record { slot = refl; before = refl; upto = refl; at = refl };
        configures = d.plan_is.configures;
        configures_plain = record { plain = record { slot = refl; before = refl; upto = refl; at = refl }; begun = refl };
        alive = (not_refused config free r.session a d.none).0;
        begun = begun_with a.schema seats;
        begun_is = refl;
        settled = settled_sitters config ws a.sub 1 (asks_of config a) seats a.schema (asks_places config a (group_of config a.group)) d.sitting;
      }) d.lives.told

  pub added_lives : tick ≤ GREATEST_TICK → length es < GREATEST_NUMBER → StandsSession k2 after → LivesAs config number later ws groups k2 after
  added_lives low left stands =
      record {
        stands = stands;
        number_is = d.lives.number_is;
        floor = omega (arith, d.lives.floor, latest_rises es (first ∷ []), latest_rises once (second ∷ []));
        latest = latest_at once second tick GREATEST_TICK refl (latest_at es first tick GREATEST_TICK refl d.lives.latest low) low;
        told = added_told;
        seated = each_append (HasSeat config ws groups) r.session.board.round vs
            (all_still config ws subs (record { sub = plan.sub; seats = seats }) r.session.board.round
            (sym (d.lives.stands.subs.used plan.sub) ∙ d.ready.new) d.lives.seated)
            (subst (λ (n : ℕ). Each (HasSeat config ws (subs ++ record { sub = n; seats = seats } ∷ [])) vs) (sym d.plan_is.sub)
            (sitters_seated config ws subs a.sub seats [] 1 (asks_of config a) seats refl refl d.sitting));
        fits = twice;
      }
    where
      first : Told
      first = begins_with plan.begins (begun_with a.schema seats) tick

      second : Told
      second = plain plan.configures tick

      once : List Told
      once = es ++ first ∷ []

      owed_same : (heard number later).owed ≡ (heard number es).owed
      owed_same = ap (λ (p : Spoken). p.owed) (heard_one number once second) ∙ ap (λ (p : Spoken). p.owed) (heard_one number es first)

      twice : FitsHistory number later
      twice =
          record {
            few = omega (arith, left, length_one es first, length_one once second);
            owed = subst (λ (os : List (List ℕ)). length os ≤ MOST_UNSENT) (sym owed_same) d.lives.fits.owed;
          }

  pub added_to : length es < GREATEST_NUMBER → AddsTo config number a free tick es later ws
  added_to left =
      record {
        begun = begun_with a.schema seats;
        schema = refl;
        begins = begun_sitters config ws a.sub 1 (asks_of config a) seats
            (all_declared config a.sub 1 (asks_of config a) plan.items.items d.plan_is.items d.may) asked d.sitting;
        lines = append_assoc es (begins_with plan.begins (begun_with a.schema seats) tick ∷ []) (plain plan.configures tick ∷ [])
            ∙ ap (λ (t : List ℕ). es ++ begins_with t (begun_with a.schema seats) tick ∷ plain plan.configures tick ∷ []) d.plan_is.begins
            ∙ ap (λ (t : List ℕ). es ++ begins_with (line_text [] (Begins a.sub (length (asks_of config a)) (length a.schema)
            (keys_of_asks config (asks_of config a)))) (begun_with a.schema seats) tick ∷ plain t tick ∷ []) d.plan_is.configures;
        earlier = r.session;
        was = d.lives.told;
        none = add_none config free false r.session a d.none;
        session = after.session;
        told = added_told;
        slots = subst (λ (l : List LiveSlot). AreAsked config ws a.sub 1 (asks_of config a) l)
            (sym (in_round a.sub r.session.board.round vs unused ∙ of_sitters (items_seen config ws) a.sub 1 (asks_of config a) seats))
            (asked_sitters config ws a.sub 1 (asks_of config a) seats
            (all_declared config a.sub 1 (asks_of config a) plan.items.items d.plan_is.items d.may) asked);
      }
    where
      unused : is_used a.sub r.session.board.round ≡ false
      unused = subst (λ (defs : List ItemDef). is_used a.sub r.session.board.round ≡ false) (definitions_seen config ws)
          (asked_is (items_seen config ws) free r.session a
          (subst (λ (defs : List ItemDef). first_code (add_refusals defs free r.session a) ≡ None) (sym (definitions_seen config ws))
          (not_refused config free r.session a d.none).1)).new

  -- as it is kept then
  pub finished : (es2 : List Told) (groups2 : List SubSeen) (at : ℕ) → tick ≡ at → tick ≤ GREATEST_TICK → es2 ≡ later → groups2 ≡ groups
      → StandsSession k2 after → Lives config number es2 ws groups2 k2 × AddsTo config number a free at es es2 ws
  finished es2 groups2 at same low told seated stands =
      let left : length es < GREATEST_NUMBER = unspent es d.left in (
        (
          after,
          subst (λ (l : List Told). LivesAs config number l ws groups2 k2 after) (sym told)
              (subst (λ (gs : List SubSeen). LivesAs config number later ws gs k2 after) (sym seated) (added_lives low left stands)),
        ),
        subst (λ (l : List Told). AddsTo config number a free at es l ws) (sym told)
            (subst (λ (m : ℕ). AddsTo config number a free m es later ws) same (added_to left)),
      )

-- a line of no slot, and the one with which a subscription begins
pub told_plain : (es : List Told) (text text' : List ℕ) (cut : CutOf) (tick : ℕ) → cut ≡ record { slot = None; before = 0; upto = 0; at = 0 } → text ≡ text'
    → es ++ Numbered (record { text = text; slot = cut.slot; before = cut.before; upto = cut.upto; at = cut.at; begun = None; tick = tick }) ∷ []
    ≡ es ++ plain text' tick ∷ []
told_plain es text text' cut tick none same =
    ap (λ (u : CutOf). es ++ Numbered (record { text = text; slot = u.slot; before = u.before; upto = u.upto; at = u.at; begun = None; tick = tick }) ∷ []) none
    ∙ ap (λ (t : List ℕ). es ++ plain t tick ∷ []) same

pub told_begun : (es : List Told) (text text' : List ℕ) (b : BegunSeen) (schema schema' : List (List ℕ)) (seats : List SeatSeen) (tick : ℕ)
    → b ≡ begun_with schema seats → schema ≡ schema' → text ≡ text'
    → es ++ begins_with text b tick ∷ [] ≡ es ++ begins_with text' (begun_with schema' seats) tick ∷ []
told_begun es text text' b schema schema' seats tick is same said =
    ap (λ (x : BegunSeen). es ++ begins_with text x tick ∷ []) is
    ∙ ap (λ (s : List (List ℕ)). es ++ begins_with text (begun_with s seats) tick ∷ []) same
    ∙ ap (λ (t : List ℕ). es ++ begins_with t (begun_with schema' seats) tick ∷ []) said

-- after the next item was asked to let its slot join
pub adding_item : (config : List ItemDef) (number : ℕ) (es : List Told) (old new : List Watched) (subs : List SubSeen) (k : Kept) (a : Add) (free : ℕ)
    (plan : AddPlan) (seats seats' : List SeatSeen) (numbers numbers' : List ℕ) (r : Record) (i : HeldItem) (p : PlanItem)
    → (result : Result Bool JoinRefused) → slice_get plan.items.items (length seats) ≡ Some p
    → IfOk result (λ b. IsTrue b → JoinsOne config old new plan.sub seats seats' numbers numbers' i p)
    → IfOk result (λ b. IsFalse b → JoinsNone config old new seats seats' numbers numbers')
    → OnErr result (JoinsNone config old new seats seats' numbers numbers')
    → IsAdding config number es old subs k a free plan seats numbers r → IsAdding config number es new subs k a free plan seats' numbers' r
adding_item config number es old new subs k a free plan seats seats' numbers numbers' r i p result is one other err d = by_result result one other err
  where
    joins : JoinsOne config old new plan.sub seats seats' numbers numbers' i p → IsAdding config number es new subs k a free plan seats' numbers' r
    joins j =
        subst (λ (ts : List SeatSeen). IsAdding config number es new subs k a free plan ts numbers' r) (sym j.seats_are)
        (subst (λ (ns : List ℕ). IsAdding config number es new subs k a free plan (seats ++ j.seat ∷ []) ns r) (sym j.numbers_are)
        (adding_next config number es j.watches new subs k a free plan seats numbers r j.place i p j.seat is j.now
        (adding_watched config number es old j.watches subs k a free plan seats numbers r j.adds d)))

    none : JoinsNone config old new seats seats' numbers numbers' → IsAdding config number es new subs k a free plan seats' numbers' r
    none j =
        subst (λ (ts : List SeatSeen). IsAdding config number es new subs k a free plan ts numbers' r) (sym j.seats_are)
        (subst (λ (ns : List ℕ). IsAdding config number es new subs k a free plan seats ns r) (sym j.numbers_are)
        (adding_watched config number es old new subs k a free plan seats numbers r j.adds d))

    by_result : (result : Result Bool JoinRefused) → IfOk result (λ b. IsTrue b → JoinsOne config old new plan.sub seats seats' numbers numbers' i p)
        → IfOk result (λ b. IsFalse b → JoinsNone config old new seats seats' numbers numbers')
        → OnErr result (JoinsNone config old new seats seats' numbers numbers')
        → IsAdding config number es new subs k a free plan seats' numbers' r
    by_result (Ok true) one other err = joins (one refl)
    by_result (Ok false) one other err = none (other refl)
    by_result (Err e) one other err = none err

pub item_sees : (config : List ItemDef) (old new : List Watched) (sub : ℕ) (seats seats' : List SeatSeen) (numbers numbers' : List ℕ) (i : HeldItem) (p : PlanItem)
    → (result : Result Bool JoinRefused) → IfOk result (λ b. IsTrue b → JoinsOne config old new sub seats seats' numbers numbers' i p)
    → IfOk result (λ b. IsFalse b → JoinsNone config old new seats seats' numbers numbers')
    → OnErr result (JoinsNone config old new seats seats' numbers numbers') → SeesMore old new
item_sees config old new sub seats seats' numbers numbers' i p result one other err = by_result result one other err
  where
    joins : JoinsOne config old new sub seats seats' numbers numbers' i p → SeesMore old new
    joins j = sees_twice old j.watches new (adds_sees config old j.watches j.adds)
        (joins_sees config j.watches new j.place sub (length seats) i p j.seat j.now)

    by_result : (result : Result Bool JoinRefused) → IfOk result (λ b. IsTrue b → JoinsOne config old new sub seats seats' numbers numbers' i p)
        → IfOk result (λ b. IsFalse b → JoinsNone config old new seats seats' numbers numbers')
        → OnErr result (JoinsNone config old new seats seats' numbers numbers') → SeesMore old new
    by_result (Ok true) one other err = joins (one refl)
    by_result (Ok false) one other err = adds_sees config old new (other refl).adds
    by_result (Err e) one other err = adds_sees config old new err.adds

-- a slot joined the item of the watch at a place
set_shown : (ws : List Watched) (k : ℕ) (w : Watched) (h : List Entry) → slice_get ws k ≡ Some w → set ws k (showing h w) ≡ change k (showing h) ws
set_shown [] k w h is = refl
set_shown (x ∷ ws) zero w h is = let same : x ≡ w = cc in ap (λ (y : Watched). showing h y ∷ ws) (sym same)
set_shown (x ∷ ws) (suc k) w h is = ap (λ (l : List Watched). x ∷ l) (set_shown ws k w h is)

got_at : (ws : List Watched) (k : ℕ) (w d : Watched) → slice_get ws k ≡ Some w → get_or ws k d ≡ w
got_at [] k w d is = absurd (let x : None ≡ Some w = is in cc)
got_at (x ∷ ws) zero w d is = cc
got_at (x ∷ ws) (suc k) w d is = got_at ws k w d is

pub joins_now : (config : List ItemDef) (ws : List Watched) (place sub rank rank' : ℕ) (i : HeldItem) (p : PlanItem) (old new : Watched) (t : SeatSeen)
    → (first : IsFirst ws place p.item i) → old ≡ get_or ws place old → IsPrefix old.list i.history → new ≡ record old { list = i.history }
    → FitsWatch config new → i.shape ≡ shape_in config p.item → rank' ≡ rank
    → t ≡ record {
      sub = sub;
      rank = rank';
      item = i.item;
      number = t.number;
      plan = record { mode = p.mode; size = p.n; base = length i.history; snapshot = p.snapshot };
      table = t.table;
      list = [];
      last = length i.history;
      quiet = false;
      cursor = first_cursor p.mode (length i.history) (rows_asked p.snapshot);
    }
    → IsAt i.shape i.history t.plan [] (joined (plan_of i.shape i.history p.mode p.n) i.history (rows_asked p.snapshot))
    → JoinsNow config ws (set ws place new) place sub rank i p t
joins_now config ws place sub rank rank' i p old new t first read more is fits shape same seat at =
    let here : old ≡ first.watch = read ∙ got_at ws place first.watch old first.there in
    let shown : new ≡ showing i.history first.watch = is ∙ ap (showing i.history) here in
    record {
      first = first;
      new_is = ap (set ws place) shown ∙ set_shown ws place first.watch i.history first.there;
      more = subst (λ (w : Watched). IsPrefix w.list i.history) here more;
      fits = subst (FitsWatch config) shown fits;
      shape = shape;
      sub_is = ap (λ (u : SeatSeen). u.sub) seat;
      rank_is = ap (λ (u : SeatSeen). u.rank) seat ∙ same;
      item_is = ap (λ (u : SeatSeen). u.item) seat ∙ sym first.of.item ∙ first.number_is;
      list = ap (λ (u : SeatSeen). u.list) seat;
      last = ap (λ (u : SeatSeen). u.last) seat;
      quiet = ap (λ (u : SeatSeen). u.quiet) seat;
      plan = ap (λ (u : SeatSeen). u.plan) seat;
      cursor = ap (λ (u : SeatSeen). u.cursor) seat;
      at = at;
    }

-- room was made in what is kept of a session
pub lives_prepared : (config : List ItemDef) (number : ℕ) (es : List Told) (ws : List Watched) (subs subs2 : List SubSeen) (k k2 : Kept) (r : Record)
    → subs2 ≡ subs → StandsSession k2 r → LivesAs config number es ws subs k r → LivesAs config number es ws subs2 k2 r
lives_prepared config number es ws subs subs2 k k2 r same stands l =
    record {
      stands = stands;
      number_is = l.number_is;
      floor = l.floor;
      latest = l.latest;
      told = l.told;
      seated = subst (λ (gs : List SubSeen). Each (HasSeat config ws gs) r.session.board.round) (sym same) l.seated;
      fits = l.fits;
    }

-- the add begins
pub adding_begun : (config : List ItemDef) (number : ℕ) (es : List Told) (ws : List Watched) (subs subs2 : List SubSeen) (k k2 : Kept) (a : Add) (free : ℕ)
    (plan : AddPlan) (seats : List SeatSeen) (numbers : List ℕ) (r : Record) → LivesAs config number es ws subs k r → subs2 ≡ subs
    → StandsSession k2 r → IsReady k2 plan → IsPlan config a plan → Each (MayJoin config) plan.items.items → AddFits a
    → adding_code config free r.session a ≡ None → is_spent es ≡ false → seats ≡ [] → numbers ≡ []
    → IsAdding config number es ws subs2 k2 a free plan seats numbers r
adding_begun config number es ws subs subs2 k k2 a free plan seats numbers r l same stands ready is may fits none left no_seats no_numbers =
    record {
      lives = lives_prepared config number es ws subs subs2 k k2 r same stands l;
      ready = ready;
      plan_is = is;
      may = may;
      fits = fits;
      none = none;
      left = left;
      sitting = subst (AreSitting config ws a.sub 1 (asks_of config a)) (sym no_seats) tt;
      numbers_are = no_numbers ∙ sym (ap (map (λ (t : SeatSeen). t.number)) no_seats);
    }
