-- What is kept of all items of a server, and the items, the histories and the slots of all sessions that it stands for.
use Rattle.std.specs.Prelude.{◌≡◌, ◌==◌, ℕ, ◌+◌, ◌<◌, ◌≤◌, List, [], ◌∷◌, length, Bool, true, false, ◌&&◌, Option}
use Rattle.std.specs.Prelude.{None, Some, if◌then◌else◌, slice_get, option_and_then}
use Rattle.std.specs.Option.{option_map_or}
use Rattle.ls_event.specs.declared.event.Event.{Event}
use Rattle.ls_event.specs.declared.event.Mode.{Mode}
use Rattle.ls_event.specs.declared.event.Taken.{Taken}
use Rattle.ls_event.specs.declared.limits.TheConstants.{MOST_BUFFER_SIZE, MOST_SLOTS}
use Rattle.ls_event.specs.Joining.{is_mode_of}
use Rattle.ls_event.specs.Shapes.{shape_of}
use Rattle.ls_event.specs.Slots.{Slot}
use Rattle.ls_cell.specs.Cell.{Held, StandsCell, cut_at, pending_at}
use Rattle.ls_cell.specs.Numbered.{slot_at, live_slots}
use Rattle.ls_value.specs.Each.{Each}
use Rattle.ls_record.specs.Records.{is_whole}
use Rattle.ls_record.specs.Records.{Item, LiveSlot, shape_at, numbers_of, far_numbers, least_of, greatest_of}
use Rattle.ls_record.specs.Records.{least_free_from}

-- the cells of all items by their numbers, from 0, and how many slots are live on all of them
pub record AllCells : Type 0 where
  pub cells : List Held
  pub live : ℕ

-- whether a slot has this number on this item
abbrev pub is_numbered : ℕ → ℕ → LiveSlot → Bool
is_numbered item number v = (item == v.item) && (number == v.number)

-- the slot of a number on an item, among the slots of all sessions
abbrev pub slot_numbered : ℕ → ℕ → List LiveSlot → Option Slot
slot_numbered item number [] = None
slot_numbered item number (v ∷ vs) = if is_numbered item number v then Some v.slot else slot_numbered item number vs

-- a slot has another number, or is on another item, than each of these
abbrev pub IsUnlike : LiveSlot → List LiveSlot → Type 0
IsUnlike v vs = Each (λ u. is_numbered v.item v.number u ≡ false) vs

-- no two slots have one number on one item
abbrev pub Unlike : List LiveSlot → Type 0
Unlike [] = Unit {0}
Unlike (v ∷ vs) = IsUnlike v vs × Unlike vs

-- a cell stands for the item of a number: its shape, its history, and the slots on it by their numbers
pub record StandsItem (lives : List LiveSlot) (n : ℕ) (c : Held) (i : Item) : Type 0 where
  pub slots : List (Option Slot)
  pub cell : StandsCell c slots i.history
  pub shape : c.item.shape ≡ shape_of i.definition
  pub live : (number : ℕ) → slot_at slots number ≡ slot_numbered n number lives
  pub count : live_slots slots ≡ length (numbers_of n lives)

-- each cell stands for its item, from this number on
abbrev pub StandsItems : List LiveSlot → ℕ → List Held → List Item → Type 0
StandsItems lives n [] [] = Unit {0}
StandsItems lives n [] (i ∷ items) = ⊥
StandsItems lives n (c ∷ cells) [] = ⊥
StandsItems lives n (c ∷ cells) (i ∷ items) = StandsItem lives n c i × StandsItems lives (n + 1) cells items

-- the cells stand for the items and for the slots of all sessions, in whatever order these come
pub record StandsCells (k : AllCells) (items : List Item) (lives : List LiveSlot) : Type 0 where
  pub cells : StandsItems lives 0 k.cells items
  pub unlike : Unlike lives
  pub within : Each (λ v. v.item < length items) lives
  pub live : k.live ≡ length lives

-- the least number that no slot on an item has, among the slots of all sessions
abbrev pub free_in : List LiveSlot → ℕ → ℕ
free_in lives item = least_free_from (greatest_of (numbers_of item lives)) 1 (numbers_of item lives)

-- the least number of a slot on an item that lags by as much as one may behind so many events
abbrev pub far_in : ℕ → ℕ → List LiveSlot → Option ℕ
far_in item events lives = least_of (far_numbers item events lives)

-- a slot of this mode and size may join: there is such an item, the mode is allowed on it, a buffer may have the size,
-- and fewer slots are live than may be
pub record MayJoin (items : List Item) (lives : List LiveSlot) (n : ℕ) (m : Mode) (k : ℕ) : Type 0 where
  pub item : n < length items
  pub mode : is_mode_of m (shape_at items n).kind ≡ true
  pub some : 0 < k
  pub most : k ≤ MOST_BUFFER_SIZE
  pub few : length lives < MOST_SLOTS

-- whether there is an item of this number, and an update has a cell for each of its fields
abbrev pub takes_of : AllCells → ℕ → Event → Bool
takes_of k item event = option_map_or (λ c. is_whole c.item.shape.fields event) (slice_get k.cells item) false

-- the number of fields of an item, 0 where there is none of this number
abbrev pub fields_of : AllCells → ℕ → ℕ
fields_of k item = option_map_or (λ c. c.item.shape.fields) (slice_get k.cells item) 0

-- the next cut of a slot on an item, where there is one
abbrev pub cut_of_slot : AllCells → ℕ → ℕ → Option Taken
cut_of_slot k item slot = option_and_then (λ c. cut_at c slot) (slice_get k.cells item)

-- whether something is pending of a slot on an item
abbrev pub pending_of_slot : AllCells → ℕ → ℕ → Bool
pending_of_slot k item slot = option_map_or (λ c. pending_at c slot) (slice_get k.cells item) false
