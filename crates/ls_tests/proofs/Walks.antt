-- What walks along a round find.
use Rattle.std.proofs.Common.{◌≡◌, ◌==◌, ◌&&◌, ℕ, ◌+◌, get_or, take, map, refl, ◌∙◌, ap, true, false}
use Rattle.std.proofs.Common.{Option, Some, None}
use Rattle.std.specs.Prelude.{slice_get}
use Rattle.std.specs.Option.{option_map}
use Rattle.std.specs.List.{list_any}
use Rattle.std.proofs.lemmas.List.Folds.{list_any_at, list_any_more}
use Rattle.std.proofs.lemmas.Option.{get_or_from_slice_get, slice_get_within, slice_get-map}
use Rattle.ls_links.specs.Chains.{Chains, IsLinked, list_of}
use Rattle.ls_turns.specs.declared.slot_ref.SlotRef.{SlotRef}
use Rattle.ls_turns.specs.Round.{Seat, Round, seat_at, slot_of_place, node_of_place, link_of, is_named, has_slot}

nothing_there : {A : Type 0} (x : A) → None ≡ Some x → ⊥
nothing_there x e = cc

-- a part of a seat at a place is a seat's
record SeatOf {A : Type 0} (f : Seat → A) (r : Round) (i : ℕ) (x : A) : Type 0 where
  seat : Seat
  here : seat_at r i ≡ Some seat
  is : f seat ≡ x

seat_of : {A : Type 0} (f : Seat → A) (r : Round) (i : ℕ) (x : A) → option_map f (seat_at r i) ≡ Some x → SeatOf f r i x
seat_of f r i x h = by_seat (seat_at r i) refl h
  where
    by_seat : (o : Option Seat) → seat_at r i ≡ o → option_map f o ≡ Some x → SeatOf f r i x
    by_seat (Some s) e n = record { seat = s; here = e; is = cc }
    by_seat None e n = absurd (nothing_there x n)

-- a node at a place of a round is linked
pub linked : (r : Round) (links : Chains) (place node : ℕ) → list_of links 0 ≡ map link_of r.seats → node_of_place r place ≡ Some node
    → IsLinked links node
linked r links place node e h =
    let s = seat_of (λ s. s.node) r place node h in
    record {
      list = 0;
      place = place;
      value = s.seat.value;
      here = ap (λ ls. slice_get ls place) e ∙ slice_get-map link_of r.seats place ∙ ap (option_map link_of) s.here
          ∙ ap (λ n. Some (record { node = n; value = s.seat.value })) s.is;
    }

-- whether the seat at a place is named is what its slot says
named_at : (r : Round) (sub place i : ℕ) (slot : SlotRef) (s : SeatOf (λ s. s.slot) r i slot)
    → is_named sub place (get_or r.seats i s.seat) ≡ (slot.sub == sub && slot.place == place)
named_at r sub place i slot s =
    ap (is_named sub place) (get_or_from_slice_get r.seats i s.seat s.seat s.here)
    ∙ ap (λ (x : SlotRef). x.sub == sub && x.place == place) s.is

-- the slot at a place is the one
pub is_here : (r : Round) (sub place i : ℕ) (slot : SlotRef) → slot_of_place r i ≡ Some slot
    → (slot.sub == sub && slot.place == place) ≡ true → has_slot sub place r ≡ true
is_here r sub place i slot h e =
    let s = seat_of (λ s. s.slot) r i slot h in
    list_any_at (is_named sub place) r.seats i s.seat (slice_get_within r.seats i s.seat s.here) (named_at r sub place i slot s ∙ e)

-- it isn't
pub is_not_here : (r : Round) (sub place i : ℕ) (slot : SlotRef) → slot_of_place r i ≡ Some slot
    → (slot.sub == sub && slot.place == place) ≡ false → list_any (is_named sub place) (take i r.seats) ≡ false
    → list_any (is_named sub place) (take (i + 1) r.seats) ≡ false
is_not_here r sub place i slot h e none =
    let s = seat_of (λ s. s.slot) r i slot h in
    rw (list_any_more (is_named sub place) r.seats i s.seat (slice_get_within r.seats i s.seat s.here), none)
    (named_at r sub place i slot s ∙ e)
