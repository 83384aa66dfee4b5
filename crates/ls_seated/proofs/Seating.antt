-- The sides of an item's slots as the item changes.
use Rattle.std.proofs.Common.{◌≡◌, ℕ, ◌+◌, ◌<◌, ◌≤◌, ◌==◌, List, [], ◌∷◌, length, refl, sym, ◌∙◌, ap, subst, arith}
use Rattle.std.proofs.Common.{zero, suc, Bool, true, false, Option, Some, None, IsSome, is_some, eq-eqb, get_or}
use Rattle.std.proofs.lemmas.Bool.{eqb-true}
use mathlib.Core.List.{IsPrefix}
use Rattle.ls_event.specs.declared.event.Entry.{Entry}
use Rattle.ls_event.specs.Shapes.{Shape}
use Rattle.ls_event.specs.declared.event.Taken.{Taken}
use Rattle.ls_event.specs.Cuts.{cut}
use Rattle.ls_event.specs.Slots.{Slot, passed}
use Rattle.ls_cell.specs.Cell.{Held, StandsCell, HasSlot, last_in}
use Rattle.ls_cell.specs.Numbered.{slot_at, set_slot, put_slot, free_number, StandsAt}
use Rattle.ls_cell.proofs.Changes.{set_at, set_other, set_same, put_at, put_other}
use Rattle.ls_cell.proofs.Recorded.{recorded}
use Rattle.ls_cell.proofs.Passing.{passed_last}
use Rattle.ls_live.specs.Live.{HeldItem, IsCaughtUp, OnlyCaughtUp, KeepsSlots}
use Rattle.ls_seated.specs.Seats.{SideSeen, SeatSeen, IsAt, IsSideAt, AreSeated, IsSeated, IsTied, slot_of, side_passed}
use Rattle.ls_seated.proofs.Tied.{at_later, at_last, at_end, at_passed}

-- the history gets longer, and slots are caught up
pub seated_grown : (p : Shape) (ds : List (Option SideSeen)) (c : Held) (ss ts : List (Option Slot)) (h k : List Entry)
    → IsPrefix h k → OnlyCaughtUp ss ts → StandsCell c ts k → AreSeated p ds ss h → AreSeated p ds ts k
seated_grown p ds c ss ts h k more caught st are = λ n. one n (slot_at ds n) (slot_at ss n) (slot_at ts n) refl (caught n) (are n)
  where
    one : (n : ℕ) (d : Option SideSeen) (s t : Option Slot) → slot_at ts n ≡ t → IsCaughtUp s t → StandsAt (IsSideAt p) d s h
        → StandsAt (IsSideAt p) d t k
    one n None None None at up a = tt
    one n None None (Some t) at up a = absurd up
    one n None (Some s) t at up a = absurd a
    one n (Some d) None t at up a = absurd a
    one n (Some d) (Some s) None at up a = absurd up
    one n (Some d) (Some s) (Some t) at up a =
        subst (λ (x : Slot). IsAt p k d.plan d.list x) (sym up.1)
        (at_last p k d.plan d.list s t.last (recorded c ts k n t st at).within (at_later p h k d.plan d.list s more a))

-- what changes is one slot with its side
pub seated_but : (p : Shape) (ds es : List (Option SideSeen)) (ss ts : List (Option Slot)) (h : List Entry) (n : ℕ)
    → ((m : ℕ) → (m ≡ n → ⊥) → slot_at es m ≡ slot_at ds m) → ((m : ℕ) → (m ≡ n → ⊥) → slot_at ts m ≡ slot_at ss m)
    → StandsAt (IsSideAt p) (slot_at es n) (slot_at ts n) h → AreSeated p ds ss h → AreSeated p es ts h
seated_but p ds es ss ts h n sides slots here are = λ m. by_test m (m == n) refl
  where
    by_test : (m : ℕ) (v : Bool) → (m == n) ≡ v → StandsAt (IsSideAt p) (slot_at es m) (slot_at ts m) h
    by_test m true t = subst (λ (k : ℕ). StandsAt (IsSideAt p) (slot_at es k) (slot_at ts k) h) (sym (eqb-true m n t)) here
    by_test m false t =
        let other : m ≡ n → ⊥ = λ e. cc (t, eq-eqb m n e) in
        subst (λ (x : Option SideSeen × Option Slot). StandsAt (IsSideAt p) x.0 x.1 h)
        (λ i. (sym (sides m other) i, sym (slots m other) i)) (are m)

some_number : {A : Type 0} (xs : List (Option A)) (n : ℕ) (a : A) → slot_at xs n ≡ Some a → 0 < n
some_number xs zero a is = cc
some_number xs (suc n) a is = omega arith

-- a slot's record changes, and maybe its side
pub seated_set : (p : Shape) (ds : List (Option SideSeen)) (ss : List (Option Slot)) (h : List Entry) (n : ℕ) (d e : SideSeen)
    (s t : Slot) → slot_at ds n ≡ Some d → slot_at ss n ≡ Some s → IsSideAt p e t h → AreSeated p ds ss h
    → AreSeated p (set_slot ds n (Some e)) (set_slot ss n (Some t)) h
seated_set p ds ss h n d e s t side slot is are =
    let some = some_number ds n d side in
    seated_but p ds (set_slot ds n (Some e)) ss (set_slot ss n (Some t)) h n (λ m other. set_other ds n m (Some e) some other)
    (λ m other. set_other ss n m (Some t) some other)
    (subst (λ (x : Option SideSeen × Option Slot). StandsAt (IsSideAt p) x.0 x.1 h)
    (λ i. (sym (set_at ds n (Some e) d side) i, sym (set_at ss n (Some t) s slot) i)) is) are

pub seated_slot : (p : Shape) (ds : List (Option SideSeen)) (ss : List (Option Slot)) (h : List Entry) (n : ℕ) (d : SideSeen)
    (s t : Slot) → slot_at ds n ≡ Some d → slot_at ss n ≡ Some s → IsSideAt p d t h → AreSeated p ds ss h
    → AreSeated p ds (set_slot ss n (Some t)) h
seated_slot p ds ss h n d s t side slot is are =
    subst (λ (x : List (Option SideSeen)). AreSeated p x (set_slot ss n (Some t)) h) (set_same ds n d side)
    (seated_set p ds ss h n d d s t side slot is are)

-- a slot leaves
pub seated_left : (p : Shape) (ds : List (Option SideSeen)) (ss : List (Option Slot)) (h : List Entry) (n : ℕ) (d : SideSeen)
    (s : Slot) → slot_at ds n ≡ Some d → slot_at ss n ≡ Some s → AreSeated p ds ss h
    → AreSeated p (set_slot ds n None) (set_slot ss n None) h
seated_left p ds ss h n d s side slot are =
    let some = some_number ds n d side in
    seated_but p ds (set_slot ds n None) ss (set_slot ss n None) h n (λ m other. set_other ds n m None some other)
    (λ m other. set_other ss n m None some other)
    (subst (λ (x : Option SideSeen × Option Slot). StandsAt (IsSideAt p) x.0 x.1 h)
    (λ i. (sym (set_at ds n None d side) i, sym (set_at ss n None s slot) i)) tt) are

-- the record that a side has
pub record HasRecord (p : Shape) (h : List Entry) (ss : List (Option Slot)) (n : ℕ) (d : SideSeen) : Type 0 where
  pub slot : Slot
  pub at : slot_at ss n ≡ Some slot
  pub is : IsSideAt p d slot h

pub side_record : (p : Shape) (ds : List (Option SideSeen)) (ss : List (Option Slot)) (h : List Entry) (n : ℕ) (d : SideSeen)
    → slot_at ds n ≡ Some d → AreSeated p ds ss h → HasRecord p h ss n d
side_record p ds ss h n d side are =
    one (slot_at ss n) refl (subst (λ (o : Option SideSeen). StandsAt (IsSideAt p) o (slot_at ss n) h) side (are n))
  where
    one : (o : Option Slot) → slot_at ss n ≡ o → StandsAt (IsSideAt p) (Some d) o h → HasRecord p h ss n d
    one None at a = absurd a
    one (Some s) at a = record { slot = s; at = at; is = a }

-- where a slot has a side and a side has a slot, the least free number is one
same_free : {A B : Type 0} (ds : List (Option A)) (ss : List (Option B))
    → ((i : ℕ) → is_some (get_or ds i None) ≡ is_some (get_or ss i None)) → free_number ds ≡ free_number ss
same_free [] [] same = refl
same_free [] (None ∷ ss) same = refl
same_free [] (Some s ∷ ss) same = absurd (cc (same 0))
same_free (None ∷ ds) [] same = refl
same_free (None ∷ ds) (None ∷ ss) same = refl
same_free (None ∷ ds) (Some s ∷ ss) same = absurd (cc (same 0))
same_free (Some d ∷ ds) [] same = absurd (cc (same 0))
same_free (Some d ∷ ds) (None ∷ ss) same = absurd (cc (same 0))
same_free (Some d ∷ ds) (Some s ∷ ss) same = ap (λ (n : ℕ). n + 1) (same_free ds ss (λ i. same (suc i)))

both_live : (p : Shape) (d : Option SideSeen) (s : Option Slot) (h : List Entry) → StandsAt (IsSideAt p) d s h → is_some d ≡ is_some s
both_live p None None h a = refl
both_live p None (Some s) h a = absurd a
both_live p (Some d) None h a = absurd a
both_live p (Some d) (Some s) h a = refl

pub seated_free : (p : Shape) (ds : List (Option SideSeen)) (ss : List (Option Slot)) (h : List Entry) → AreSeated p ds ss h
    → free_number ds ≡ free_number ss
seated_free p ds ss h are = same_free ds ss (λ i. both_live p (slot_at ds (suc i)) (slot_at ss (suc i)) h (are (suc i)))

-- a slot joins with its side
pub seated_joined : (p : Shape) (ds : List (Option SideSeen)) (ss : List (Option Slot)) (h : List Entry) (d : SideSeen) (s : Slot)
    → IsSideAt p d s h → AreSeated p ds ss h → AreSeated p (put_slot ds d) (put_slot ss s) h
seated_joined p ds ss h d s is are =
    let free = seated_free p ds ss h are in
    seated_but p ds (put_slot ds d) ss (put_slot ss s) h (free_number ss)
    (λ m other. put_other ds d m (λ e. other (e ∙ free))) (λ m other. put_other ss s m other)
    (subst (λ (x : Option SideSeen × Option Slot). StandsAt (IsSideAt p) x.0 x.1 h)
    (λ i. (sym (subst (λ (n : ℕ). slot_at (put_slot ds d) n ≡ Some d) free (put_at ds d)) i, sym (put_at ss s) i)) is) are

-- no slot has a free number
pub free_some : {B : Type 0} (bs : List (Option B)) → 1 ≤ free_number bs
free_some [] = omega arith
free_some (None ∷ bs) = omega arith
free_some (Some b ∷ bs) = omega arith

free_get : {B : Type 0} (bs : List (Option B)) (i : ℕ) → i + 1 ≡ free_number bs → get_or bs i None ≡ None
free_get [] i free = refl
free_get (None ∷ bs) zero free = refl
free_get (None ∷ bs) (suc i) free = absurd (omega (arith, free))
free_get (Some b ∷ bs) zero free = absurd (omega (arith, free, free_some bs))
free_get (Some b ∷ bs) (suc i) free = free_get bs i (omega (arith, free))

pub free_none : {B : Type 0} (bs : List (Option B)) → slot_at bs (free_number bs) ≡ None
free_none bs = at (free_number bs) refl
  where
    at : (n : ℕ) → n ≡ free_number bs → slot_at bs n ≡ None
    at zero is = refl
    at (suc i) is = free_get bs i (omega (arith, is))

-- a side that is a seat's other one
pub tied_live : (o : Option SideSeen) (t : SeatSeen) → IsTied o t → IsSome o
tied_live None t tied = absurd tied
tied_live (Some d) t tied = refl

pub record IsTiedBy (o : Option SideSeen) (t : SeatSeen) : Type 0 where
  pub side : SideSeen
  pub is : o ≡ Some side
  pub table : side.table ≡ t.table
  pub plan : side.plan ≡ t.plan

pub tied_by : (o : Option SideSeen) (t : SeatSeen) → IsTied o t → IsTiedBy o t
tied_by None t tied = absurd tied
tied_by (Some d) t tied = record { side = d; is = refl; table = tied.0; plan = tied.1 }

pub tied_at : (o : Option SideSeen) (t : SeatSeen) (d : SideSeen) → o ≡ Some d → d.table ≡ t.table → d.plan ≡ t.plan → IsTied o t
tied_at o t d is table plan = subst (λ (x : Option SideSeen). IsTied x t) (sym is) (table, plan)

-- a side has a live slot
pub side_live : (i : HeldItem) (ds : List (Option SideSeen)) (n : ℕ) (d : SideSeen) → IsSeated i ds → slot_at ds n ≡ Some d
    → HasSlot i.cell n
side_live i ds n d st side =
    let r = side_record i.shape ds st.slots i.history n d side st.sides in
    (recorded i.cell st.slots i.history n r.slot st.cell r.at).live

-- it is caught up
pub item_caught : (i : HeldItem) (e : Held) (ds : List (Option SideSeen)) (n : ℕ) (d : SideSeen) → IsSeated i ds
    → slot_at ds n ≡ Some d
    → ((ss : List (Option Slot)) (s : Slot) → StandsCell i.cell ss i.history → slot_at ss n ≡ Some s
    → StandsCell e (set_slot ss n (Some (record s { last = last_in e n }))) i.history) → IsSeated (record i { cell = e }) ds
item_caught i e ds n d st side step =
    let h = i.history in
    let r = side_record i.shape ds st.slots h n d side st.sides in
    let s : Slot = record r.slot { last = last_in e n } in
    let ss : List (Option Slot) = set_slot st.slots n (Some s) in
    let cell = step st.slots r.slot st.cell r.at in
    let low = (recorded e ss h n s cell (set_at st.slots n (Some s) r.slot r.at)).within in
    record {
      slots = ss;
      placed = st.placed;
      cell = cell;
      sides =
          seated_slot i.shape ds st.slots h n d r.slot s side r.at
          (at_last i.shape h d.plan d.list r.slot (last_in e n) low r.is) st.sides;
    }

-- a record on which all is enqueued
pub record HasWhole (i : HeldItem) (ds : List (Option SideSeen)) (n : ℕ) (d : SideSeen) : Type 0 where
  pub slots : List (Option Slot)
  pub slot : Slot
  pub cell : StandsCell i.cell slots i.history
  pub sides : AreSeated i.shape ds slots i.history
  pub at : slot_at slots n ≡ Some slot
  pub is : IsSideAt i.shape d slot i.history
  pub last : slot.last ≡ length i.history
  pub same : slot ≡ slot_of i.shape i.history d.plan d.list

pub whole_record : (i : HeldItem) (ds : List (Option SideSeen)) (n : ℕ) (d : SideSeen) → IsSeated i ds → slot_at ds n ≡ Some d
    → last_in i.cell n ≡ length i.history → HasWhole i ds n d
whole_record i ds n d st side last =
    let r = side_record i.shape ds st.slots i.history n d side st.sides in
    let whole = sym (recorded i.cell st.slots i.history n r.slot st.cell r.at).last ∙ last in
    record {
      slots = st.slots;
      slot = r.slot;
      cell = st.cell;
      sides = st.sides;
      at = r.at;
      is = r.is;
      last = whole;
      same = at_end i.shape i.history d.plan d.list r.slot r.is whole;
    }

-- it passes a cut
pub record HasPassed (i : HeldItem) (e : Held) (ds : List (Option SideSeen)) (n : ℕ) (d : SideSeen) : Type 0 where
  pub seated : IsSeated (record i { cell = e }) (set_slot ds n (Some (side_passed (length i.history) d)))
  pub last : last_in e n ≡ length i.history

pub item_passed : (i : HeldItem) (e : Held) (ds : List (Option SideSeen)) (n : ℕ) (d : SideSeen) (t : Taken) → IsSeated i ds
    → slot_at ds n ≡ Some d → last_in i.cell n ≡ length i.history
    → cut i.history (slot_of i.shape i.history d.plan d.list) ≡ Some t
    → ((ss : List (Option Slot)) (s : Slot) (t : Taken) → StandsCell i.cell ss i.history → slot_at ss n ≡ Some s
    → cut i.history s ≡ Some t → StandsCell e (set_slot ss n (Some (passed s t))) i.history) → HasPassed i e ds n d
item_passed i e ds n d t st side last is step =
    let h = i.history in
    let w = whole_record i ds n d st side last in
    let cuts : cut h w.slot ≡ Some t = ap (cut h) w.same ∙ is in
    let s : Slot = passed w.slot t in
    let ss : List (Option Slot) = set_slot w.slots n (Some s) in
    let cell = step w.slots w.slot t w.cell w.at cuts in
    record {
      seated =
          record {
            slots = ss;
            placed = st.placed;
            cell = cell;
            sides =
                seated_set i.shape ds w.slots h n d (side_passed (length h) d) w.slot s side w.at
                (at_passed i.shape h d.plan d.list w.slot t w.is w.last cuts) w.sides;
          };
      last = (recorded e ss h n s cell (set_at w.slots n (Some s) w.slot w.at)).last ∙ (passed_last w.slot t ∙ w.last);
    }

-- it leaves
pub item_left : (i : HeldItem) (e : Held) (ds : List (Option SideSeen)) (n : ℕ) (d : SideSeen) → IsSeated i ds
    → slot_at ds n ≡ Some d
    → ((ss : List (Option Slot)) → StandsCell i.cell ss i.history → StandsCell e (set_slot ss n None) i.history)
    → IsSeated (record i { cell = e }) (set_slot ds n None)
item_left i e ds n d st side step =
    let r = side_record i.shape ds st.slots i.history n d side st.sides in
    record {
      slots = set_slot st.slots n None;
      placed = st.placed;
      cell = step st.slots st.cell;
      sides = seated_left i.shape ds st.slots i.history n d r.slot side r.at st.sides;
    }

-- it joins
pub item_joined : (i : HeldItem) (e : Held) (ds : List (Option SideSeen)) (d : SideSeen) (s : Slot) → IsSeated i ds
    → IsSideAt i.shape d s i.history
    → ((ss : List (Option Slot)) → StandsCell i.cell ss i.history → StandsCell e (put_slot ss s) i.history)
    → IsSeated (record i { cell = e }) (put_slot ds d)
item_joined i e ds d s st is step =
    record {
      slots = put_slot st.slots s;
      placed = st.placed;
      cell = step st.slots st.cell;
      sides = seated_joined i.shape ds st.slots i.history d s is st.sides;
    }

-- an event is added
pub item_grown : (i : HeldItem) (e : Held) (k : List Entry) (ds : List (Option SideSeen)) → IsPrefix i.history k
    → KeepsSlots i.cell i.history e k → IsSeated i ds → IsSeated (record i { cell = e; history = k }) ds
item_grown i e k ds more keeps st =
    let now = keeps st.slots st.cell in
    record {
      slots = now.0;
      placed = st.placed;
      cell = now.2;
      sides = seated_grown i.shape ds e st.slots now.0 i.history k more now.1 now.2 st.sides;
    }

pub item_free : (i : HeldItem) (ds : List (Option SideSeen)) (n : ℕ) → IsSeated i ds
    → ((ss : List (Option Slot)) → StandsCell i.cell ss i.history → n ≡ free_number ss) → n ≡ free_number ds
item_free i ds n st is = is st.slots st.cell ∙ sym (seated_free i.shape ds st.slots i.history st.sides)
