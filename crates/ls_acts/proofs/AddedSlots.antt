-- The slots of a new subscription join one after another, with free numbers, and leave.
use Rattle.std.proofs.Common.{◌≡◌, ◌==◌, ℕ, ◌+◌, ◌-◌, ◌≤◌, List, [], ◌∷◌, ◌++◌, length, map, refl, sym, ◌∙◌, ap, arith, subst, cond, Bool, true, false}
use Rattle.std.proofs.Common.{Option, Some, None, append_assoc}
use Rattle.std.proofs.lemmas.Bool.{eqb-false}
use Rattle.std.specs.FinMap as finite
use Rattle.std.specs.FinMap.{get-empty}
use Rattle.ls_event.specs.declared.event.Entry.{Entry}
use Rattle.ls_event.specs.declared.event.Mode.{Mode}
use Rattle.ls_event.specs.declared.event.Mode.TheVariants as mode
use Rattle.ls_event.specs.declared.limits.TheConstants.{MOST_SLOTS}
use Rattle.ls_event.specs.Joining.{plan_of, joined, rows_asked, is_mode_of}
use Rattle.ls_event.specs.Shapes.{Shape}
use Rattle.ls_event.specs.Slots.{Plan}
use Rattle.ls_mirror.specs.declared.command.KeyPlaces.{KeyPlaces}
use Rattle.ls_request.specs.declared.request.Add.{Add}
use Rattle.ls_record.specs.Cutting.{Ask, schema_of}
use Rattle.ls_value.specs.Each.{Each}
use Rattle.ls_record.specs.Light.{IsNarrow}
use Rattle.ls_record.specs.Records.{Item, LiveSlot, definitions, shape_at, history_of, joined_slot, joined_all}
use Rattle.ls_record.specs.Records.{keys_in, is_of, without}
use Rattle.ls_record.specs.Acting.{asks_of}
use Rattle.ls_record.proofs.Each.{each_both, each_map}
use Rattle.ls_cells.specs.Cells.{free_in}
use Rattle.ls_cells.proofs.Numbers.{length_in}
use Rattle.ls_cells.proofs.Lives.{free_other}
use Rattle.ls_subs.specs.declared.plan.PlanItem.{PlanItem}
use Rattle.ls_subs.specs.Plans.{ArePlanItems, MayJoin, JoinAll, followed_of, keys_of_ask}
use Rattle.ls_subs.specs.Subscription.{StandsSubscribed, HasStarted, HoldsKeys}
use Rattle.ls_subs.proofs.Joins.{joins_plan}
use Rattle.ls_session.specs.Record.{slots_of}
use Rattle.ls_acts.specs.Joining.{JoinInOrder, Leave}
use Rattle.ls_record.proofs.Asking.{AsksApart, CanJoin}

-- the slot that joins by what is asked of an item
abbrev live_of : List Item → (ℕ → ℕ) → ℕ → ℕ → Ask → LiveSlot
live_of items f sub rank q =
    record { sub = sub; rank = rank; item = q.item; number = f q.item; frequency = q.frequency; wanted = q.wanted; slot = joined_slot items q }

slot_is : (items : List Item) (q : Ask) (p : PlanItem) → p.item ≡ q.item → p.mode ≡ q.mode → p.n ≡ q.size
    → rows_asked p.snapshot ≡ q.wanted.snapshot
    → joined_slot items q
    ≡ joined (plan_of (shape_at items p.item) (history_of items p.item) p.mode p.n) (history_of items p.item) (rows_asked p.snapshot)
slot_is items q p item mode size snapshot =
    ap (λ n. joined (plan_of (shape_at items n) (history_of items n) q.mode q.size) (history_of items n) q.wanted.snapshot) (sym item)
    ∙ ap (λ m. joined (plan_of (shape_at items p.item) (history_of items p.item) m q.size) (history_of items p.item) q.wanted.snapshot) (sym mode)
    ∙ ap (λ k. joined (plan_of (shape_at items p.item) (history_of items p.item) p.mode k) (history_of items p.item) q.wanted.snapshot) (sym size)
    ∙ ap (joined (plan_of (shape_at items p.item) (history_of items p.item) p.mode p.n) (history_of items p.item)) (sym snapshot)

-- a slot on another item leaves a number free
free_behind : (a b : List LiveSlot) (v : LiveSlot) (n : ℕ) → (n == v.item) ≡ false → free_in ((a ++ v ∷ []) ++ b) n ≡ free_in (a ++ b) n
free_behind a b v n other = ap (λ vs. free_in vs n) (append_assoc a (v ∷ []) b) ∙ free_other n a b v (eqb-false n v.item other)

pub in_order : (items : List Item) (f : ℕ → ℕ) (sub rank : ℕ) (asks : List Ask) (ps : List PlanItem) (a b : List LiveSlot)
    → ArePlanItems (definitions items) sub rank asks ps → Each (MayJoin (definitions items)) ps → AsksApart asks
    → Each (λ q. f q.item ≡ free_in (a ++ b) q.item) asks → length (a ++ b) + length asks ≤ MOST_SLOTS
    → JoinInOrder items a b ps (joined_all items f sub rank asks)
in_order items f sub rank [] [] a b are may apart free room = tt
in_order items f sub rank [] (p ∷ ps) a b are may apart free room = absurd are
in_order items f sub rank (q ∷ asks) [] a b are may apart free room = absurd are
in_order items f sub rank (q ∷ asks) (p ∷ ps) a b are may apart free room =
    let i = are.0 in (
      record {
        item = sym i.item;
        may = may.0;
        room = omega (arith, room);
        number = free.0 ∙ ap (free_in (a ++ b)) (sym i.item);
        slot = slot_is items q p i.item i.mode i.size i.snapshot;
      },
      in_order items f sub (rank + 1) asks ps (a ++ live_of items f sub rank q ∷ []) b are.1 may.1 apart.1 (each_map _ _ asks
          (λ u both. both.1 ∙ sym (free_behind a b (live_of items f sub rank q) u.item both.0))
          (each_both (λ u. (u.item == q.item) ≡ false) (λ u. f u.item ≡ free_in (a ++ b) u.item) asks apart.0 free.1)) (omega (arith, room, more)),
    )
  where
    more : length ((a ++ live_of items f sub rank q ∷ []) ++ b) ≡ length (a ++ b) + 1
    more = ap length (append_assoc a (live_of items f sub rank q ∷ []) b) ∙ length_in a b (live_of items f sub rank q)

-- the slots of a plan's items did
pub join_all : (items : List Item) (f : ℕ → ℕ) (sub rank : ℕ) (asks : List Ask) (ps : List PlanItem) → ArePlanItems (definitions items) sub rank asks ps
    → Each (MayJoin (definitions items)) ps
    → JoinAll ps (map (λ v. v.number) (joined_all items f sub rank asks)) (joined_all items f sub rank asks)
join_all items f sub rank [] [] are may = tt
join_all items f sub rank [] (p ∷ ps) are may = absurd are
join_all items f sub rank (q ∷ asks) [] are may = absurd are
join_all items f sub rank (q ∷ asks) (p ∷ ps) are may =
    (joins_plan items sub rank (f q.item) q p are.0 may.0, join_all items f sub (rank + 1) asks ps are.1 may.1)

-- the slots that an accepted add asks for, behind a round
pub add_in_order : (items : List Item) (a : Add) (ps : List PlanItem) (lives before after : List LiveSlot)
    → ArePlanItems (definitions items) a.sub 1 (asks_of (definitions items) a) ps → Each (MayJoin (definitions items)) ps
    → CanJoin (definitions items) (MOST_SLOTS - length lives) a → lives ≡ before ++ after
    → JoinInOrder items before after ps (joined_all items (free_in lives) a.sub 1 (asks_of (definitions items) a))
add_in_order items a ps lives before after are may can is =
    in_order items (free_in lives) a.sub 1 (asks_of (definitions items) a) ps before after are may can.apart
    (all_free (asks_of (definitions items) a)) room
  where
    all_free : (asks : List Ask) → Each (λ q. free_in lives q.item ≡ free_in (before ++ after) q.item) asks
    all_free [] = tt
    all_free (q ∷ asks) = (ap (λ vs. free_in vs q.item) is, all_free asks)

    room : length (before ++ after) + length (asks_of (definitions items) a) ≤ MOST_SLOTS
    room = omega (arith, can.some, can.room, ap length is)

-- all slots of a round leave
pub all_leave : (vs a b : List LiveSlot) → Leave vs (a ++ (vs ++ b)) (a ++ b)
all_leave [] a b = refl
all_leave (v ∷ vs) a b = (a, vs ++ b, refl, all_leave vs a b)

-- those of a subscription do
pub sub_leaves : (sub : ℕ) (vs a b : List LiveSlot) → Leave (slots_of sub vs) (a ++ (vs ++ b)) (a ++ (without sub vs ++ b))
sub_leaves sub [] a b = refl
sub_leaves sub (v ∷ vs) a b = by_test (is_of sub v) (sub_leaves sub vs a b) (sub_leaves sub vs (a ++ v ∷ []) b)
  where
    by_test : (t : Bool) → Leave (slots_of sub vs) (a ++ (vs ++ b)) (a ++ (without sub vs ++ b))
        → Leave (slots_of sub vs) ((a ++ v ∷ []) ++ (vs ++ b)) ((a ++ v ∷ []) ++ (without sub vs ++ b))
        → Leave (cond t (v ∷ slots_of sub vs) (slots_of sub vs)) (a ++ v ∷ (vs ++ b)) (a ++ (cond t (without sub vs) (v ∷ without sub vs) ++ b))
    by_test true out stays = (a, vs ++ b, refl, out)
    by_test false out stays =
        subst (λ (l : List LiveSlot). Leave (slots_of sub vs) l (a ++ v ∷ (without sub vs ++ b))) (append_assoc a (v ∷ []) (vs ++ b))
        (subst (λ (l : List LiveSlot). Leave (slots_of sub vs) ((a ++ v ∷ []) ++ (vs ++ b)) l) (append_assoc a (v ∷ []) (without sub vs ++ b)) stays)
