-- A slot in two places: the item's side of it and the session's, what each keeps, and the slot's record that follows from
-- it (this project's profile).
use Rattle.std.specs.Prelude.{◌≡◌, ℕ, ◌-◌, ◌<◌, ◌≤◌, ◌^◌, List, [], ◌∷◌, ◌++◌, length, take, Bool, false, Option, None, Some, IsSome, is_some, if◌then◌else◌}
use Rattle.atomic_table.specs.Seated.{TableId}
use Rattle.ls_event.specs.declared.event.Entry.{Entry}
use Rattle.ls_event.specs.declared.event.Mode.{Mode}
use Rattle.ls_event.specs.declared.event.Mode.TheVariants as mode
use Rattle.ls_event.specs.declared.event.Snap.{Snap}
use Rattle.ls_event.specs.declared.limits.TheConstants.{MOST_SLOTS}
use Rattle.ls_event.specs.Shapes.{Shape}
use Rattle.ls_event.specs.Slots.{Slot}
use Rattle.ls_event.specs.Joining.{plan_of, joined, rows_asked}
use Rattle.ls_event.proofs.LongerCuts.{slot_after, EachWithin}
use Rattle.ls_cell.specs.Cell.{StandsCell, last_in}
use Rattle.ls_cell.specs.Numbered.{slot_at, StandsAt}
use Rattle.ls_register.specs.Places.{Placed}
use Rattle.ls_register.specs.Items.{ShowsSlot}
use Rattle.ls_live.specs.Live.{HeldItem}
use Rattle.ls_seated.specs.declared.planned.Planned.{Planned}
use Rattle.ls_seated.specs.declared.planned.JoinRefused.{JoinRefused}
use Rattle.ls_seated.specs.declared.planned.JoinRefused.TheVariants as refused

-- the item's side of a slot: how the slot joined, the table of the tie, and for each cut that was passed the number that
-- was enqueued last
pub record SideSeen : Type 0 where
  pub plan : Planned
  pub table : TableId
  pub list : List ℕ

-- the session's side: also which slot it is, by its subscription, its item's rank in it from 0, the item and the slot's
-- number there; the number that was enqueued last as the session knows it, whether it then had nothing to tell, and the
-- number up to which its lines tell of the item
pub record SeatSeen : Type 0 where
  pub sub : ℕ
  pub rank : ℕ
  pub item : ℕ
  pub number : ℕ
  pub plan : Planned
  pub table : TableId
  pub list : List ℕ
  pub last : ℕ
  pub quiet : Bool
  pub cursor : ℕ

-- an item with the sides of its slots, by number from 1
pub record SeatedItem : Type 0 where
  pub item : HeldItem
  pub sides : List (Option SideSeen)

-- the slot as it joined, after the events up to its base
abbrev pub begun : Shape → List Entry → Planned → Slot
begun p h q = joined (plan_of p (take q.base h) q.mode q.size) (take q.base h) (rows_asked q.snapshot)

-- the record of a slot that joined so and passed these cuts, on a history whose every event is enqueued
abbrev pub slot_of : Shape → List Entry → Planned → List ℕ → Slot
slot_of p h q list = record (slot_after h (begun p h q) list) { last = length h }

-- what is kept of a slot is true of its record on a history: the record is that of the slot that joined so and passed
-- these cuts
pub record IsAt (p : Shape) (h : List Entry) (q : Planned) (list : List ℕ) (s : Slot) : Type 0 where
  pub some : 0 < q.size
  pub based : q.base ≤ length h
  pub within : EachWithin (length h) list
  pub slot : s ≡ record (slot_after h (begun p h q) list) { last = s.last }
  pub last : s.last ≤ length h

-- so is an item's side, of the item's whole history
abbrev pub IsSideAt : Shape → SideSeen → Slot → List Entry → Type 0
IsSideAt p d s h = IsAt p h d.plan d.list s

-- each slot of an item has its side, and each side its slot, by their numbers
abbrev pub AreSeated : Shape → List (Option SideSeen) → List (Option Slot) → List Entry → Type 0
AreSeated p ds ss h = (n : ℕ) → StandsAt (IsSideAt p) (slot_at ds n) (slot_at ss n) h

-- an item that has a place in the register stands for records of its slots that are what these sides say
pub record IsSeated (i : HeldItem) (ds : List (Option SideSeen)) : Type 0 where
  pub slots : List (Option Slot)
  pub placed : IsSome i.place
  pub cell : StandsCell i.cell slots i.history
  pub sides : AreSeated i.shape ds slots i.history

-- the place shows a slot whose tie stands on this table
pub record IsSlotPlace (p : Placed) (table : TableId) : Type 0 where
  pub item : ℕ
  pub number : ℕ
  pub shows : ShowsSlot p item number table

-- there is a side, and it is the other one of a seat: both are of one tie, and the slot joined as the seat says
abbrev pub IsTied : Option SideSeen → SeatSeen → Type 0
IsTied None t = ⊥
IsTied (Some d) t = (d.table ≡ t.table) × (d.plan ≡ t.plan)

-- the cuts that a side passed, if there is a side
abbrev pub cuts_of : Option SideSeen → List ℕ
cuts_of None = []
cuts_of (Some d) = d.list

-- a side after one cut more
abbrev pub side_passed : ℕ → SideSeen → SideSeen
side_passed cut d = record d { list = d.list ++ cut ∷ [] }

-- how a slot joins after so many events
abbrev pub planned_at : Mode → ℕ → Snap → ℕ → Planned
planned_at mode size snapshot base = record { mode = mode; size = size; base = base; snapshot = snapshot }

-- the item's side of a seat that has passed no cut
abbrev pub joined_side : SeatSeen → SideSeen
joined_side t = record { plan = t.plan; table = t.table; list = [] }

-- the number up to which a slot that joins has told of its item: in mode MERGE with a snapshot the item's state is told as
-- if its last event had come just now
abbrev pub first_cursor : Mode → ℕ → Option ℕ → ℕ
first_cursor mode.Merge base asked = if is_some asked then base - 1 else base
first_cursor mode.Raw base asked = base
first_cursor mode.Distinct base asked = base
first_cursor mode.Command base asked = base

abbrev pub joined_cursor : Planned → ℕ
joined_cursor q = first_cursor q.mode q.base (rows_asked q.snapshot)

-- a seat that joined behind a whole history
abbrev pub joined_seat : ℕ → ℕ → ℕ → ℕ → Planned → TableId → SeatSeen
joined_seat sub rank item number q table =
    record {
      sub = sub;
      rank = rank;
      item = item;
      number = number;
      plan = q;
      table = table;
      list = [];
      last = q.base;
      quiet = false;
      cursor = joined_cursor q;
    }

-- the item has the other side of a seat: both are of one tie, and the slot joined as the seat says
pub record IsSeatOf (t : SeatSeen) (i : SeatedItem) : Type 0 where
  pub side : SideSeen
  pub at : slot_at i.sides t.number ≡ Some side
  pub table : side.table ≡ t.table
  pub plan : side.plan ≡ t.plan

-- both sides passed the same cuts, and every event of the item is enqueued
pub record IsReady (t : SeatSeen) (i : SeatedItem) : Type 0 where
  pub of : IsSeatOf t i
  pub lists : of.side.list ≡ t.list
  pub last : last_in i.item.cell t.number ≡ length i.item.history

-- why a slot can't join an item with so many live slots, where the register has so many entries
abbrev pub IsJoinCause : ℕ → ℕ → JoinRefused → Type 0
IsJoinCause live made refused.Full = MOST_SLOTS ≤ live
IsJoinCause live made refused.Spent = 2 ^ 60 ≤ made
IsJoinCause live made refused.NoMemory = Unit {0}
