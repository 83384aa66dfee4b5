-- A seat and its item, where every event is enqueued into the slot.
use Rattle.std.proofs.Common.{◌≡◌, ◌≢◌, ℕ, List, [], ◌∷◌, ◌++◌, length, refl, sym, ◌∙◌, ap, subst, Option, Some, None}
use Rattle.std.proofs.Common.{false, Result, Ok, Err, IfOk, IfErr, option_map}
use Rattle.std.specs.Result.{OnOk}
use Rattle.std.proofs.lemmas.List.{append-nil}
use mathlib.Core.List.{IsPrefix}
use Rattle.ls_event.specs.declared.event.Entry.{Entry}
use Rattle.ls_event.specs.Cuts.{cut}
use Rattle.ls_event.specs.Slots.{Slot}
use Rattle.ls_cell.specs.Cell.{StandsCell, cut_at, last_in}
use Rattle.ls_cell.specs.Numbered.{slot_at, set_slot, put_slot, free_number}
use Rattle.ls_cell.proofs.Changes.{set_at, put_at, put_other}
use Rattle.ls_cell.proofs.Recorded.{recorded}
use Rattle.ls_live.specs.Live.{HeldItem}
use Rattle.ls_seated.specs.Seats.{SideSeen, SeatSeen, IsSeated, IsSeatOf, IsTied, IsReady, cuts_of, slot_of, side_passed}
use Rattle.ls_seated.specs.Seats.{joined_side}
use Rattle.ls_seated.proofs.Seating.{whole_record, tied_by, free_none}

-- the slot's record is the one that the seat says
pub record IsWholeOf (i : HeldItem) (t : SeatSeen) : Type 0 where
  pub slots : List (Option Slot)
  pub slot : Slot
  pub cell : StandsCell i.cell slots i.history
  pub at : slot_at slots t.number ≡ Some slot
  pub same : slot ≡ slot_of i.shape i.history t.plan t.list

pub ready_whole : (i : HeldItem) (ds : List (Option SideSeen)) (t : SeatSeen) → IsSeated i ds
    → IsReady t (record { item = i; sides = ds }) → IsWholeOf i t
ready_whole i ds t st ready =
    let d = ready.of.side in
    let w = whole_record i ds t.number d st ready.of.at ready.last in
    record {
      slots = w.slots;
      slot = w.slot;
      cell = w.cell;
      at = w.at;
      same = w.same ∙ (λ k. slot_of i.shape i.history (ready.of.plan k) (ready.lists k));
    }

-- so its next cut is the cell's
pub whole_cut : (i : HeldItem) (ds : List (Option SideSeen)) (n : ℕ) (d : SideSeen) → IsSeated i ds → slot_at ds n ≡ Some d
    → last_in i.cell n ≡ length i.history → cut_at i.cell n ≡ cut i.history (slot_of i.shape i.history d.plan d.list)
whole_cut i ds n d st side last =
    let w = whole_record i ds n d st side last in
    (recorded i.cell w.slots i.history n w.slot w.cell w.at).cut ∙ ap (cut i.history) w.same

-- after a catching up that worked
pub ready_caught : {A E : Type 0} (r : Result A E) (i j : HeldItem) (ds es : List (Option SideSeen)) (t u : SeatSeen) (last : ℕ)
    → IsTied (slot_at ds t.number) t → es ≡ ds → j.history ≡ i.history → OnOk r (cuts_of (slot_at ds t.number) ≡ t.list)
    → OnOk r (last_in j.cell t.number ≡ length i.history) → OnOk r (u ≡ record t { last = last; quiet = false })
    → OnOk r (IsReady u (record { item = j; sides = es }))
ready_caught (Err e) i j ds es t u last tied sides long cuts whole is = tt
ready_caught (Ok a) i j ds es t u last tied sides long cuts whole is =
    let d = tied_by (slot_at ds t.number) t tied in
    subst (λ (x : SeatSeen × List (Option SideSeen)). IsReady x.0 (record { item = j; sides = x.1 }))
    (λ k. (sym is k, sym sides k))
    (record {
      of = record { side = d.side; at = d.is; table = d.table; plan = d.plan };
      lists = sym (ap cuts_of d.is) ∙ cuts;
      last = whole ∙ ap (λ (h : List Entry). length h) (sym long);
    })

-- after a cut that was passed
pub ready_passed : (i j : HeldItem) (ds es : List (Option SideSeen)) (t u : SeatSeen) → IsReady t (record { item = i; sides = ds })
    → j.history ≡ i.history
    → es ≡ set_slot ds t.number (option_map (side_passed (length i.history)) (slot_at ds t.number))
    → u ≡ record t { list = t.list ++ length i.history ∷ []; quiet = false } → last_in j.cell t.number ≡ length i.history
    → IsReady u (record { item = j; sides = es })
ready_passed i j ds es t u ready long sides is last =
    let cut : ℕ = length i.history in
    let d = ready.of.side in
    let now : es ≡ set_slot ds t.number (Some (side_passed cut d)) =
    sides ∙ ap (λ (o : Option SideSeen). set_slot ds t.number (option_map (side_passed cut) o)) ready.of.at in
    subst (λ (x : SeatSeen × List (Option SideSeen)). IsReady x.0 (record { item = j; sides = x.1 }))
    (λ k. (sym is k, sym now k))
    (record {
      of =
          record {
            side = side_passed cut d;
            at = set_at ds t.number (Some (side_passed cut d)) d ready.of.at;
            table = ready.of.table;
            plan = ready.of.plan;
          };
      lists = ap (λ (l : List ℕ). l ++ cut ∷ []) ready.lists;
      last = last ∙ ap (λ (h : List Entry). length h) (sym long);
    })

-- a history that an event was added to, or not
pub grows : {A C : Type 0} (r : Result A C) (h k l : List Entry) (P : A → Type 0) (Q : C → Type 0)
    → IfOk r (λ a. (k ≡ h ++ l) × P a) → IfErr r (λ c. (k ≡ h) × Q c) → IsPrefix h k
grows (Ok a) h k l P Q ok err = (l, sym ok.0)
grows (Err e) h k l P Q ok err = ([], append-nil h ∙ sym err.0)

-- after a slot joined
pub seat_joined : {A : Type 0} (r : Result SeatSeen A) (j : HeldItem) (ds es : List (Option SideSeen))
    → IfOk r (λ t. t.number ≡ free_number ds) → IfOk r (λ t. es ≡ put_slot ds (joined_side t))
    → IfOk r (λ t. IsSeatOf t (record { item = j; sides = es }))
seat_joined (Err e) j ds es number sides = tt
seat_joined (Ok t) j ds es number sides =
    subst (λ (x : List (Option SideSeen)). IsSeatOf t (record { item = j; sides = x })) (sym sides)
    (record {
      side = joined_side t;
      at = subst (λ (n : ℕ). slot_at (put_slot ds (joined_side t)) n ≡ Some (joined_side t)) (sym number) (put_at ds (joined_side t));
      table = refl;
      plan = refl;
    })

pub others_joined : {A : Type 0} (r : Result SeatSeen A) (ds es : List (Option SideSeen))
    → IfOk r (λ t. t.number ≡ free_number ds) → IfOk r (λ t. es ≡ put_slot ds (joined_side t))
    → IfOk r (λ t. (k : ℕ) → k ≢ t.number → slot_at es k ≡ slot_at ds k)
others_joined (Err e) ds es number sides = tt
others_joined (Ok t) ds es number sides =
    λ k other. ap (λ (x : List (Option SideSeen)). slot_at x k) sides
    ∙ put_other ds (joined_side t) k (λ is. other (is ∙ sym number))

pub free_joined : {A : Type 0} (r : Result SeatSeen A) (ds : List (Option SideSeen)) → IfOk r (λ t. t.number ≡ free_number ds)
    → IfOk r (λ t. slot_at ds t.number ≡ None)
free_joined (Err e) ds number = tt
free_joined (Ok t) ds number = ap (slot_at ds) number ∙ free_none ds
