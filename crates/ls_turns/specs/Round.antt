-- The round of a session's slots, and what each call makes of it (this project's profile).
use Rattle.std.specs.Prelude.{◌≡◌, ℕ, ◌-◌, List, [], ◌∷◌, ◌++◌, map, Bool, not, ◌==◌, ◌&&◌, slice_get}
use Rattle.std.specs.Prelude.{◌≤◌, Option, Some, nat_lt}
use Rattle.std.specs.List.{filter, list_any}
use Rattle.std.specs.Option.{option_map}
use Rattle.ls_links.specs.Chains.{Link}
use Rattle.ls_turns.specs.declared.slot_ref.SlotRef.{SlotRef}

-- a slot in a round: its node in the list of the round, the node's value, and the slot
pub record Seat : Type 0 where
  pub node : ℕ
  pub value : ℕ
  pub slot : SlotRef

-- the slots in the order in which they are asked, and how many more may join without memory
pub record Round : Type 0 where
  pub seats : List Seat
  pub spare : ℕ

-- the slots of a round
abbrev pub slots_of : Round → List SlotRef
slots_of r = map (λ s. s.slot) r.seats

-- the seat at a place, from 0, its slot and its node
abbrev pub seat_at : Round → ℕ → Option Seat
seat_at r i = slice_get r.seats i

abbrev pub slot_of_place : Round → ℕ → Option SlotRef
slot_of_place r i = option_map (λ s. s.slot) (seat_at r i)

abbrev pub node_of_place : Round → ℕ → Option ℕ
node_of_place r i = option_map (λ s. s.node) (seat_at r i)

-- the node of a seat as it is linked
abbrev pub link_of : Seat → Link
link_of s = record { node = s.node; value = s.value }

-- the slot whose node has a value
abbrev pub slot_of_value : Round → ℕ → Option SlotRef
slot_of_value r value = option_map (λ s. s.slot) (slice_get (filter (λ s. s.value == value) r.seats) 0)

-- a node is that of a slot of the round
abbrev pub IsSeated : Round → ℕ → Type 0
IsSeated r node = (i : ℕ) × (s : Seat) × (seat_at r i ≡ Some s) × (s.node ≡ node)

-- whether a seat is of a subscription, and of a place in it
abbrev pub is_of : ℕ → Seat → Bool
is_of sub s = s.slot.sub == sub

abbrev pub is_named : ℕ → ℕ → Seat → Bool
is_named sub place s = is_of sub s && s.slot.place == place

-- whether a slot of a subscription and of a place in it is in the round
abbrev pub has_slot : ℕ → ℕ → Round → Bool
has_slot sub place r = list_any (is_named sub place) r.seats

-- no node, no value, and no place of a subscription is at two places of the round
pub record AreApart (r : Round) : Type 0 where
  pub nodes : (i j : ℕ) (s t : Seat) → seat_at r i ≡ Some s → seat_at r j ≡ Some t → s.node ≡ t.node → i ≡ j
  pub values : (i j : ℕ) (s t : Seat) → seat_at r i ≡ Some s → seat_at r j ≡ Some t → s.value ≡ t.value → i ≡ j
  pub names : (i j : ℕ) (s t : Seat) → seat_at r i ≡ Some s → seat_at r j ≡ Some t → s.slot.sub ≡ t.slot.sub
      → s.slot.place ≡ t.slot.place → i ≡ j

-- a slot joined: it is the last, and has room that was spare
abbrev pub joined : Seat → Round → Round
joined s r = record { seats = r.seats ++ s ∷ []; spare = r.spare - 1 }

pub record Joins (slot : SlotRef) (r q : Round) : Type 0 where
  pub seat : Seat
  pub slot_is : seat.slot ≡ slot
  pub after : q ≡ joined seat r

-- the slots of a subscription left; their room is counted again by the next reserve
abbrev pub left : ℕ → Round → Round
left sub r = record r { seats = filter (λ s. not (is_of sub s)) r.seats }

-- a slot gave a line, and is the last
abbrev pub gave : ℕ → ℕ → Round → Round
gave sub place r =
    record r { seats = filter (λ s. not (is_named sub place s)) r.seats ++ filter (is_named sub place) r.seats }

-- no slot is in the round any more
abbrev pub cleared : Round → Round
cleared r = record r { seats = [] }

-- the slot of a place in a subscription left, and those of the places below one
abbrev pub left_one : ℕ → ℕ → Round → Round
left_one sub place r = record r { seats = filter (λ s. not (is_named sub place s)) r.seats }

abbrev pub left_below : ℕ → ℕ → Round → Round
left_below sub n r = record r { seats = filter (λ s. not (is_of sub s && nat_lt s.slot.place n)) r.seats }

-- no slot has a greater place
abbrev pub HasPlacesTo : ℕ → Round → Type 0
HasPlacesTo most r = (i : ℕ) (s : Seat) → seat_at r i ≡ Some s → s.slot.place ≤ most
