-- The seats of a subscription's slots, as its slots join one after another and more is seen of their items.
use Rattle.std.proofs.Common.{◌≡◌, ◌==◌, ◌<◌, ℕ, zero, suc, ◌+◌, ◌-◌, List, [], ◌∷◌, ◌++◌, length, map, refl, sym, ◌∙◌, ap, arith, subst, Bool, true}
use Rattle.std.proofs.Common.{false, Option, Some, None, slice_get, append_assoc, length-append, take, ◌||◌, ◌⊎◌, inl, inr}
use Rattle.std.proofs.lemmas.Bool.{eq-eqb}
use mathlib.Core.List.{IsPrefix}
use Rattle.ls_value.specs.Each.{Each}
use Rattle.ls_event.specs.declared.event.Entry.{Entry}
use Rattle.ls_event.specs.declared.item.ItemDef.{ItemDef}
use Rattle.ls_event.specs.Joining.{plan_of, joined, joined_in, rows_asked}
use Rattle.ls_event.specs.declared.event.Mode.{Mode}
use Rattle.ls_event.specs.Slots.{Slot, Plan}
use Rattle.ls_cell.proofs.Arrivals.{joined_plan, joined_last}
use Rattle.ls_request.specs.declared.request.Add.{Add}
use Rattle.ls_record.specs.Acting.{ask_of, places_among}
use Rattle.ls_record.specs.Cutting.{Ask}
use Rattle.ls_record.specs.Records.{Item, LiveSlot, change, shape_in, fields_in, history_of, joined_slot, is_of, is_used}
use Rattle.ls_record.proofs.Asking.{AsksApart}
use Rattle.ls_seated.specs.Seats.{SeatSeen, IsAt, first_cursor}
use Rattle.ls_seated.proofs.Tied.{at_plan}
use Rattle.ls_told.specs.Joining.{joins_as, AreJoined}
use Rattle.ls_told.specs.Requests.{IsBegunFor, AreBegunFor}
use Rattle.ls_told.specs.Slots.{IsSettled, AreSettled}
use Rattle.ls_told.specs.Seen.{Watched, seen_of, items_seen, IsWatched, showing, SeesMore}
use Rattle.ls_told.proofs.Watching.{shape_seen, history_seen, seen_other, seen_first, seen_still, watched_more, sees_changed, sees_appended}
use Rattle.ls_event.specs.declared.event.Mode.TheVariants as mode
use Rattle.ls_parts.specs.Sights.{NoneBefore}
use Rattle.ls_parts.specs.Groups.{SubSeen}
use Rattle.ls_parts.specs.Lives.{HasNothing, IsSeatOf, HasSeat}
use Rattle.ls_joining.specs.Adding.{SitsAs, AreSitting, slot_begun}

-- the slot that joins is by what was seen of its item
pub slot_seen : (config : List ItemDef) (ws : List Watched) (a : Ask) → a.item < length config
    → joined_slot (items_seen config ws) a
    ≡ joined (plan_of (shape_in config a.item) (seen_of ws a.item) a.mode a.size) (seen_of ws a.item) a.wanted.snapshot
slot_seen config ws a declared =
    ap (λ p. joined (plan_of p (history_of (items_seen config ws) a.item) a.mode a.size)
    (history_of (items_seen config ws) a.item) a.wanted.snapshot) (shape_seen config ws a.item)
    ∙ ap (λ (h : List Entry). joined (plan_of (shape_in config a.item) h a.mode a.size) h a.wanted.snapshot) (history_seen config ws a.item declared)

-- where no more is seen of it, it is the same
joins_same : (config : List ItemDef) (old new : List Watched) (sub rank : ℕ) (a : Ask) (n : ℕ) → a.item < length config
    → seen_of new a.item ≡ seen_of old a.item
    → joins_as (items_seen config new) sub rank a n ≡ joins_as (items_seen config old) sub rank a n
joins_same config old new sub rank a n declared same =
    ap (λ (s : Slot). record { sub = sub; rank = rank; item = a.item; number = n; frequency = a.frequency; wanted = a.wanted; slot = s })
    (slot_seen config new a declared
    ∙ ap (λ (h : List Entry). joined (plan_of (shape_in config a.item) h a.mode a.size) h a.wanted.snapshot) same
    ∙ sym (slot_seen config old a declared))

sits_same : (config : List ItemDef) (old new : List Watched) (sub rank : ℕ) (a : Ask) (t : SeatSeen) → a.item < length config → SeesMore old new
    → seen_of new a.item ≡ seen_of old a.item → SitsAs config old sub rank a t → SitsAs config new sub rank a t
sits_same config old new sub rank a t declared more same s =
    record {
      of = subst (λ (v : LiveSlot). IsSeatOf config new t v) (sym (joins_same config old new sub rank a t.number declared same))
          (record {
            sub = s.of.sub;
            rank = s.of.rank;
            item = s.of.item;
            number = s.of.number;
            shape = s.of.shape;
            at = subst (λ (h : List Entry). IsAt (shape_in config a.item) h t.plan t.list (joined_slot (items_seen config old) a)) (sym same) s.of.at;
            last = s.of.last;
            cursor = s.of.cursor;
            quiet = λ q. subst (λ (h : List Entry). HasNothing h (joined_slot (items_seen config old) a)) (sym same) (s.of.quiet q);
          });
      watched = watched_more old new more a.item s.watched;
      asked = s.asked;
    }

-- one watch more
pub sitting_watched : (config : List ItemDef) (ws : List Watched) (w : Watched) (sub rank : ℕ) (asks : List Ask) (ts : List SeatSeen)
    → Each (λ (a : Ask). a.item < length config) asks → AreSitting config ws sub rank asks ts → AreSitting config (ws ++ w ∷ []) sub rank asks ts
sitting_watched config ws w sub rank asks [] declared s = tt
sitting_watched config ws w sub rank [] (t ∷ ts) declared s = s
sitting_watched config ws w sub rank (a ∷ asks) (t ∷ ts) declared s = (
  sits_same config ws (ws ++ w ∷ []) sub rank a t declared.0 (sees_appended ws w)
      (seen_still ws (w ∷ []) a.item s.0.watched.0 s.0.watched.1 s.0.watched.2 s.0.watched.3) s.0,
  sitting_watched config ws w sub (rank + 1) asks ts declared.1 s.1,
)

-- the cursor with which a slot joins
cursor_joined : (m : Mode) (p : Plan) (h : List Entry) (o : Option ℕ) → (joined_in m p h o).cursor ≡ first_cursor m p.base o
cursor_joined mode.Merge p h o = refl
cursor_joined mode.Raw p h o = refl
cursor_joined mode.Distinct p h None = refl
cursor_joined mode.Distinct p h (Some n) = refl
cursor_joined mode.Command p h None = refl
cursor_joined mode.Command p h (Some n) = refl

-- a seat more, of the item of a watch of which the whole history was seen then
pub record NextSits (config : List ItemDef) (ws : List Watched) (k : ℕ) (w : Watched) (h : List Entry) (sub rank : ℕ) (q : Ask) (t : SeatSeen)
    : Type 0 where
  pub there : slice_get ws k ≡ Some w
  pub item : w.item ≡ q.item
  pub first : NoneBefore ws k q.item
  pub more : IsPrefix w.list h
  pub sub_is : t.sub ≡ sub
  pub rank_is : t.rank + 1 ≡ rank
  pub item_is : t.item ≡ q.item
  pub at : IsAt (shape_in config q.item) h t.plan t.list (joined (plan_of (shape_in config q.item) h q.mode q.size) h q.wanted.snapshot)
  pub last : t.last ≡ length h
  pub quiet : t.quiet ≡ false
  pub asked : rows_asked t.plan.snapshot ≡ q.wanted.snapshot
  pub cursor : t.cursor ≡ first_cursor q.mode (length h) q.wanted.snapshot

sits_next : (config : List ItemDef) (ws : List Watched) (k : ℕ) (w : Watched) (h : List Entry) (sub rank : ℕ) (q : Ask) (t : SeatSeen)
    → q.item < length config → NextSits config ws k w h sub rank q t → SitsAs config (change k (showing h) ws) sub rank q t
sits_next config ws k w h sub rank q t declared n =
    let new : List Watched = change k (showing h) ws in
    let seen : seen_of new q.item ≡ h = seen_first ws k w h q.item n.there n.item n.first in
    let slot : Slot = joined (plan_of (shape_in config q.item) h q.mode q.size) h q.wanted.snapshot in
    let same : joined_slot (items_seen config new) q ≡ slot =
    slot_seen config new q declared ∙ ap (λ (l : List Entry). joined (plan_of (shape_in config q.item) l q.mode q.size) l q.wanted.snapshot) seen in
    record {
      of = record {
        sub = n.sub_is;
        rank = n.rank_is;
        item = n.item_is;
        number = refl;
        shape = ap (λ (s : Slot). s.plan.shape) same
            ∙ ap (λ (p : Plan). p.shape) (joined_plan q.mode (plan_of (shape_in config q.item) h q.mode q.size) h q.wanted.snapshot);
        at = subst (λ (l : List Entry). IsAt (shape_in config q.item) l t.plan t.list (joined_slot (items_seen config new) q)) (sym seen)
            (subst (λ (s : Slot). IsAt (shape_in config q.item) h t.plan t.list s) (sym same) n.at);
        last = n.last ∙ sym (joined_last q.mode (plan_of (shape_in config q.item) h q.mode q.size) h q.wanted.snapshot)
            ∙ sym (ap (λ (s : Slot). s.last) same);
        cursor = n.cursor ∙ sym (cursor_joined q.mode (plan_of (shape_in config q.item) h q.mode q.size) h q.wanted.snapshot)
            ∙ sym (ap (λ (s : Slot). s.cursor) same);
        quiet = λ q. absurd (let x : true ≡ false = sym q ∙ n.quiet in cc);
      };
      watched = (k, showing h w, still ws k n.there, n.item);
      asked = n.asked;
    }
  where
    still : (ws : List Watched) (k : ℕ) → slice_get ws k ≡ Some w → slice_get (change k (showing h) ws) k ≡ Some (showing h w)
    still [] k is = absurd (let x : None ≡ Some w = is in cc)
    still (x ∷ ws) zero is = let same : x ≡ w = cc in ap (λ (y : Watched). Some (showing h y)) same
    still (x ∷ ws) (suc k) is = still ws k is

pub sitting_next : (config : List ItemDef) (ws : List Watched) (k : ℕ) (w : Watched) (h : List Entry) (sub rank : ℕ) (asks : List Ask)
    (ts : List SeatSeen) (q : Ask) (t : SeatSeen) → Each (λ (a : Ask). a.item < length config) asks → AsksApart asks
    → slice_get asks (length ts) ≡ Some q → NextSits config ws k w h sub (rank + length ts) q t → AreSitting config ws sub rank asks ts
    → AreSitting config (change k (showing h) ws) sub rank asks (ts ++ t ∷ [])
sitting_next config ws k w h sub rank [] [] q t declared apart is n s = absurd (let x : None ≡ Some q = is in cc)
sitting_next config ws k w h sub rank (a ∷ asks) [] q t declared apart is n s =
    let same : a ≡ q = cc in (
      subst (λ (x : Ask). SitsAs config (change k (showing h) ws) sub rank x t) (sym same)
          (sits_next config ws k w h sub rank q t (subst (λ (x : Ask). x.item < length config) same declared.0)
          (subst (λ (m : ℕ). NextSits config ws k w h sub m q t) {x = rank + 0} {y = rank} (omega arith) n)),
      tt,
    )
sitting_next config ws k w h sub rank [] (u ∷ ts) q t declared apart is n s = s
sitting_next config ws k w h sub rank (a ∷ asks) (u ∷ ts) q t declared apart is n s = (
  sits_same config ws (change k (showing h) ws) sub rank a u declared.0 (sees_changed ws k w h n.there n.more)
      (seen_other ws k w h a.item n.there (λ e. other (length ts) asks apart.0 is (sym n.item ∙ e))) s.0,
  sitting_next config ws k w h sub (rank + 1) asks ts q t declared.1 apart.1 is
      (subst (λ (m : ℕ). NextSits config ws k w h sub m q t) {x = rank + suc (length ts)} {y = rank + 1 + length ts} (omega arith) n) s.1,
)
  where
    other : (j : ℕ) (asks : List Ask) → Each (λ (u : Ask). (u.item == a.item) ≡ false) asks → slice_get asks j ≡ Some q → q.item ≡ a.item → ⊥
    other j [] e is same = let x : None ≡ Some q = is in cc
    other zero (x ∷ asks) e is same =
        let this : x ≡ q = cc in
        let yes : (x.item == a.item) ≡ true = eq-eqb x.item a.item (ap (λ (y : Ask). y.item) this ∙ same) in
        let wrong : true ≡ false = sym yes ∙ e.0 in
        cc
    other (suc j) (x ∷ asks) e is same = other j asks e.1 is same

-- the slots of which seats are
abbrev pub sitters : List Item → ℕ → ℕ → List Ask → List SeatSeen → List LiveSlot
sitters items sub rank asks [] = []
sitters items sub rank [] (t ∷ ts) = []
sitters items sub rank (a ∷ asks) (t ∷ ts) = joins_as items sub rank a t.number ∷ sitters items sub (rank + 1) asks ts

pub sitters_joined : (items : List Item) (sub rank : ℕ) (asks : List Ask) (ts : List SeatSeen) → length ts ≡ length asks
    → AreJoined items sub rank asks (sitters items sub rank asks ts)
sitters_joined items sub rank [] [] all = tt
sitters_joined items sub rank (a ∷ asks) [] all = absurd (omega (arith, all))
sitters_joined items sub rank [] (t ∷ ts) all = absurd (omega (arith, all))
sitters_joined items sub rank (a ∷ asks) (t ∷ ts) all = (refl, sitters_joined items sub (rank + 1) asks ts (omega (arith, all)))

pub sitters_watched : (config : List ItemDef) (ws : List Watched) (sub rank : ℕ) (asks : List Ask) (ts : List SeatSeen)
    → AreSitting config ws sub rank asks ts → Each (λ (v : LiveSlot). IsWatched ws v.item) (sitters (items_seen config ws) sub rank asks ts)
sitters_watched config ws sub rank asks [] s = tt
sitters_watched config ws sub rank [] (t ∷ ts) s = tt
sitters_watched config ws sub rank (a ∷ asks) (t ∷ ts) s = (s.0.watched, sitters_watched config ws sub (rank + 1) asks ts s.1)

pub sitters_numbers : (items : List Item) (sub rank : ℕ) (asks : List Ask) (ts : List SeatSeen) → length ts ≡ length asks
    → map (λ (v : LiveSlot). v.number) (sitters items sub rank asks ts) ≡ map (λ (t : SeatSeen). t.number) ts
sitters_numbers items sub rank [] [] all = refl
sitters_numbers items sub rank (a ∷ asks) [] all = absurd (omega (arith, all))
sitters_numbers items sub rank [] (t ∷ ts) all = absurd (omega (arith, all))
sitters_numbers items sub rank (a ∷ asks) (t ∷ ts) all =
    ap (λ (ns : List ℕ). t.number ∷ ns) (sitters_numbers items sub (rank + 1) asks ts (omega (arith, all)))

-- they are what is told of their seats as their subscription begins
settled_as : (config : List ItemDef) (ws : List Watched) (sub rank : ℕ) (a : Ask) (t : SeatSeen) (schema : List (List ℕ))
    → a.wanted.places ≡ places_among (fields_in config a.item) schema → SitsAs config ws sub rank a t
    → IsSettled config schema (slot_begun t) (joins_as (items_seen config ws) sub rank a t.number)
settled_as config ws sub rank a t schema places s =
    record {
      item = sym s.of.item;
      places = places;
      snapshot = sym s.asked;
      plan = at_plan (shape_in config a.item) (seen_of ws a.item) t.plan t.list (joined_slot (items_seen config ws) a) s.of.at;
    }

pub settled_sitters : (config : List ItemDef) (ws : List Watched) (sub rank : ℕ) (asks : List Ask) (ts : List SeatSeen) (schema : List (List ℕ))
    → Each (λ (a : Ask). a.wanted.places ≡ places_among (fields_in config a.item) schema) asks → AreSitting config ws sub rank asks ts
    → AreSettled config schema (map slot_begun ts) (sitters (items_seen config ws) sub rank asks ts)
settled_sitters config ws sub rank asks [] schema places s = tt
settled_sitters config ws sub rank [] (t ∷ ts) schema places s = absurd s
settled_sitters config ws sub rank (a ∷ asks) (t ∷ ts) schema places s =
    (settled_as config ws sub rank a t schema places.0 s.0, settled_sitters config ws sub (rank + 1) asks ts schema places.1 s.1)

pub asks_places : (config : List ItemDef) (a : Add) (ns : List ℕ)
    → Each (λ (q : Ask). q.wanted.places ≡ places_among (fields_in config q.item) a.schema)
    (map (λ (n : ℕ). ask_of a n (places_among (fields_in config n) a.schema)) ns)
asks_places config a [] = tt
asks_places config a (n ∷ ns) = (refl, asks_places config a ns)

-- and that is what was asked for
begun_for : (config : List ItemDef) (ws : List Watched) (sub rank : ℕ) (a : Ask) (t : SeatSeen) → a.item < length config
    → SitsAs config ws sub rank a t → IsBegunFor ws a (slot_begun t)
begun_for config ws sub rank a t declared s =
    let h : List Entry = seen_of ws a.item in
    let slot : Slot = joined_slot (items_seen config ws) a in
    let asked : slot.plan ≡ plan_of (shape_in config a.item) h a.mode a.size =
    ap (λ (x : Slot). x.plan) (slot_seen config ws a declared)
    ∙ joined_plan a.mode (plan_of (shape_in config a.item) h a.mode a.size) h a.wanted.snapshot in
    let kept = at_plan (shape_in config a.item) h t.plan t.list slot s.of.at in
    record {
      item = s.of.item;
      mode = sym (ap (λ (p : Plan). p.mode) kept) ∙ ap (λ (p : Plan). p.mode) asked;
      size = sym (ap (λ (p : Plan). p.size) kept) ∙ ap (λ (p : Plan). p.size) asked;
      snapshot = s.asked;
      base = s.of.at.based;
    }

pub begun_sitters : (config : List ItemDef) (ws : List Watched) (sub rank : ℕ) (asks : List Ask) (ts : List SeatSeen)
    → Each (λ (a : Ask). a.item < length config) asks → length ts ≡ length asks → AreSitting config ws sub rank asks ts
    → AreBegunFor ws asks (map slot_begun ts)
begun_sitters config ws sub rank [] [] declared all s = tt
begun_sitters config ws sub rank (a ∷ asks) [] declared all s = absurd (omega (arith, all))
begun_sitters config ws sub rank [] (t ∷ ts) declared all s = absurd s
begun_sitters config ws sub rank (a ∷ asks) (t ∷ ts) declared all s =
    (begun_for config ws sub rank a t declared.0 s.0, begun_sitters config ws sub (rank + 1) asks ts declared.1 (omega (arith, all)) s.1)

-- what is told of one seat more
pub slots_next : (ts : List SeatSeen) (i : ℕ) (t : SeatSeen) → slice_get ts i ≡ Some t
    → map slot_begun (take (i + 1) ts) ≡ map slot_begun (take i ts) ++ slot_begun t ∷ []
slots_next ts i t is = ap (λ (n : ℕ). map slot_begun (take n ts)) {x = i + 1} {y = suc i} (omega arith) ∙ next ts i is
  where
    next : (ts : List SeatSeen) (i : ℕ) → slice_get ts i ≡ Some t
        → map slot_begun (take (suc i) ts) ≡ map slot_begun (take i ts) ++ slot_begun t ∷ []
    next [] i is = absurd (let x : None ≡ Some t = is in cc)
    next (x ∷ ts) zero is = let same : x ≡ t = cc in ap (λ (y : SeatSeen). slot_begun y ∷ []) same
    next (x ∷ ts) (suc i) is = ap (λ l. slot_begun x ∷ l) (next ts i is)

-- each of them has its seat, in a group of seats at the end of the others
last_group : (subs : List SubSeen) (g : SubSeen) → slice_get (subs ++ g ∷ []) (length subs) ≡ Some g
last_group [] g = refl
last_group (x ∷ subs) g = last_group subs g

still_group : (subs : List SubSeen) (g : SubSeen) (k : ℕ) (x : SubSeen) → slice_get subs k ≡ Some x → slice_get (subs ++ g ∷ []) k ≡ Some x
still_group [] g k x is = absurd (let y : None ≡ Some x = is in cc)
still_group (y ∷ subs) g zero x is = is
still_group (y ∷ subs) g (suc k) x is = still_group subs g k x is

end_or : (subs : List SubSeen) (g : SubSeen) (j : ℕ) (u : SubSeen) → slice_get (subs ++ g ∷ []) j ≡ Some u
    → (slice_get subs j ≡ Some u) ⊎ (g ≡ u)
end_or [] g zero u is = inr cc
end_or [] g (suc j) u is = absurd (let x : None ≡ Some u = is in cc)
end_or (x ∷ subs) g zero u is = inl is
end_or (x ∷ subs) g (suc j) u is = end_or subs g j u is

past_end : (subs : List SubSeen) (g : SubSeen) (j : ℕ) → length subs < j → slice_get (subs ++ g ∷ []) j ≡ None
past_end [] g zero far = absurd (omega (arith, far))
past_end [] g (suc j) far = refl
past_end (x ∷ subs) g zero far = absurd (omega (arith, far))
past_end (x ∷ subs) g (suc j) far = past_end subs g j (omega (arith, far))

pub has_seat_still : (config : List ItemDef) (ws : List Watched) (subs : List SubSeen) (g : SubSeen) (v : LiveSlot) → is_of g.sub v ≡ false
    → HasSeat config ws subs v → HasSeat config ws (subs ++ g ∷ []) v
has_seat_still config ws subs g v other h =
    record {
      place = h.place;
      group = h.group;
      seat = h.seat;
      there = still_group subs g h.place h.group h.there;
      named = h.named;
      only = λ j u less at one. by_place j u less one (end_or subs g j u at);
      ranked = h.ranked;
      of = h.of;
    }
  where
    by_place : (j : ℕ) (u : SubSeen) → h.place < j → u.sub ≡ v.sub → (slice_get subs j ≡ Some u) ⊎ (g ≡ u) → ⊥
    by_place j u less one (inl at) = h.only j u less at one
    by_place j u less one (inr e) =
        let same : g.sub ≡ v.sub = ap (λ (x : SubSeen). x.sub) e ∙ one in
        let t : true ≡ false = sym (eq-eqb g.sub v.sub same) ∙ other in
        cc

pub all_still : (config : List ItemDef) (ws : List Watched) (subs : List SubSeen) (g : SubSeen) (vs : List LiveSlot) → is_used g.sub vs ≡ false
    → Each (HasSeat config ws subs) vs → Each (HasSeat config ws (subs ++ g ∷ [])) vs
all_still config ws subs g [] none e = tt
all_still config ws subs g (v ∷ vs) none e =
    let both = neither (is_of g.sub v) (is_used g.sub vs) none in
    (has_seat_still config ws subs g v both.0 e.0, all_still config ws subs g vs both.1 e.1)
  where
    neither : (a b : Bool) → (a || b) ≡ false → (a ≡ false) × (b ≡ false)
    neither true b is = absurd (let x : true ≡ false = is in cc)
    neither false b is = (refl, is)

pub sitters_seated : (config : List ItemDef) (ws : List Watched) (subs : List SubSeen) (sub : ℕ) (all : List SeatSeen) (before : List SeatSeen)
    (rank : ℕ) (asks : List Ask) (ts : List SeatSeen) → all ≡ before ++ ts → rank ≡ length before + 1 → AreSitting config ws sub rank asks ts
    → Each (HasSeat config ws (subs ++ record { sub = sub; seats = all } ∷ [])) (sitters (items_seen config ws) sub rank asks ts)
sitters_seated config ws subs sub all before rank asks [] is at s = tt
sitters_seated config ws subs sub all before rank [] (t ∷ ts) is at s = tt
sitters_seated config ws subs sub all before rank (a ∷ asks) (t ∷ ts) is at s = (
  record {
    place = length subs;
    group = record { sub = sub; seats = all };
    seat = t;
    there = last_group subs (record { sub = sub; seats = all });
    named = refl;
    only = λ j u less at one.
        let x : None ≡ Some u = sym (past_end subs (record { sub = sub; seats = all }) j less) ∙ at in
        cc;
    ranked = ap (λ (l : List SeatSeen). slice_get l (rank - 1)) is
        ∙ ap (slice_get (before ++ t ∷ ts)) {x = rank - 1} {y = length before} (omega (arith, at)) ∙ found before;
    of = s.0.of;
  },
  sitters_seated config ws subs sub all (before ++ t ∷ []) (rank + 1) asks ts (is ∙ sym (append_assoc before (t ∷ []) ts))
      (omega (arith, at, length-append before (t ∷ []))) s.1,
)
  where
    found : (before : List SeatSeen) → slice_get (before ++ t ∷ ts) (length before) ≡ Some t
    found [] = refl
    found (x ∷ before) = found before
