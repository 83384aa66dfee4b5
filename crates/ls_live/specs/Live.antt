-- An item with its history, and what an adapter has seen of it (this project's profile).
use Rattle.std.specs.Prelude.{◌≡◌, ℕ, ◌+◌, ◌≤◌, ◌==◌, Bool, false, cond, List, [], ◌∷◌, Option, None, Some, Result, Ok, Err, slice_get}
use Rattle.atomic_table.specs.Seated.{TableId}
use Rattle.ls_event.specs.declared.event.Event.{Event}
use Rattle.ls_event.specs.declared.event.Entry.{Entry}
use Rattle.ls_event.specs.declared.event.PublishRefused.{PublishRefused}
use Rattle.ls_event.specs.declared.event.PublishRefused.TheVariants as refused
use Rattle.ls_event.specs.declared.item.ItemDef.{ItemDef}
use Rattle.ls_event.specs.Shapes.{Shape, shape_of}
use Rattle.ls_event.specs.Publishes.{refusal, IsHistory}
use Rattle.ls_event.specs.Slots.{Slot}
use Rattle.ls_event.specs.Textual.{Textual}
use Rattle.ls_cell.specs.Cell.{Held, StandsCell}
use Rattle.ls_cell.specs.Numbered.{slot_at, lags}
use Rattle.ls_register.specs.Items.{ShowsItem}
use Rattle.ls_register.specs.Places.{Placed}
use Rattle.ls_register.specs.Watches.{Watched}
use Rattle.ls_live.specs.declared.shape.ItemShape.{ItemShape}

-- an item: its number and its place in the register, where it has one, what is kept of it, the table on which its
-- history stands, its shape, and the history
pub record HeldItem : Type 0 where
  pub item : ℕ
  pub place : Option Placed
  pub cell : Held
  pub table : TableId
  pub shape : Shape
  pub history : List Entry

-- a pass: its adapter, its item's number, place in the register, where it knows one, table and shape, and a beginning
-- of the item's history
pub record Pass : Type 0 where
  pub adapter : ℕ
  pub item : ℕ
  pub place : Option Placed
  pub table : TableId
  pub shape : Shape
  pub list : List Entry

-- a pass is of an item
pub record IsOf (p : Pass) (i : HeldItem) : Type 0 where
  pub table : p.table ≡ i.table
  pub shape : p.shape ≡ i.shape

-- what was seen of an item is of this one, which has a place in the register
pub record IsWatchOf (w : Watched) (i : HeldItem) : Type 0 where
  pub placed : Placed
  pub place_is : i.place ≡ Some placed
  pub item : w.item ≡ i.item
  pub at : w.at ≡ placed.at
  pub table : w.table ≡ i.table

-- the place shows the declared item of this number, whose history stands on this table, and of which this was seen: its
-- texts are UTF-8
pub record IsWatching (config : List ItemDef) (p : Placed) (item : ℕ) (table : TableId) (list : List Entry) : Type 0 where
  pub shape : Shape
  pub shows : ShowsItem config p item shape table
  pub history : IsHistory shape list
  pub textual : Textual list

-- what was seen of an item is a history of the declared item, and its texts are UTF-8
pub record IsSeenOf (config : List ItemDef) (w : Watched) : Type 0 where
  pub def : ItemDef
  pub declared : slice_get config w.item ≡ Some def
  pub history : IsHistory (shape_of def) w.list
  pub textual : Textual w.list

-- whether both know a place in the register, and it is one
abbrev pub are_one : Option Placed → Option Placed → Bool
are_one None q = false
are_one (Some p) None = false
are_one (Some p) (Some q) = p.at == q.at

-- an adapter's pass that has seen an item's whole history
abbrev pub whole_pass : HeldItem → ℕ → Pass
whole_pass i adapter =
    record {
      adapter = adapter;
      item = i.item;
      place = i.place;
      table = i.table;
      shape = i.shape;
      list = i.history;
    }

-- a pass is of the declared item of this number, from 0: the register shows that item at the pass's place, with the
-- pass's shape and table
pub record IsPassFor (config : List ItemDef) (item : ℕ) (p : Pass) : Type 0 where
  pub number : p.item ≡ item
  pub place : Placed
  pub place_is : p.place ≡ Some place
  pub shows : ShowsItem config place item p.shape p.table

-- an adapter's event
abbrev pub entry_of : ℕ → ℕ → Event → Entry
entry_of adapter seq event = record { adapter = adapter; seq = seq; event = event }

-- why an entry isn't added to a history, by the first cause of the order: no slot keeps it back
abbrev pub cause_in : Shape → List Entry → Entry → Option PublishRefused
cause_in p h e = refusal p h None e

-- an error is the first cause where there is one; want of memory comes last
abbrev pub IsCause : Option PublishRefused → PublishRefused → Type 0
IsCause cause refused.NoMemory = cause ≡ None
IsCause cause e = cause ≡ Some e

-- the slot that an answer names as one that lags
abbrev pub lagging_in : {A : Type 0} → Result A PublishRefused → Option ℕ
lagging_in (Ok a) = None
lagging_in (Err (refused.Repeated last)) = None
lagging_in (Err refused.NoKey) = None
lagging_in (Err refused.BadCommand) = None
lagging_in (Err (refused.TooLong bytes)) = None
lagging_in (Err refused.TooManyKeys) = None
lagging_in (Err (refused.Backlog slot)) = Some slot
lagging_in (Err refused.Spent) = None
lagging_in (Err refused.NoMemory) = None

-- how many slots lag by as much as they may
abbrev pub lagging_count : {B : Type 0} → (B → ℕ) → ℕ → List (Option B) → ℕ
lagging_count last number [] = 0
lagging_count last number (b ∷ bs) =
    cond (lags last number b) (lagging_count last number bs + 1) (lagging_count last number bs)

-- what is kept of an item stands for a history, and for the records of its slots, whichever they are
abbrev pub StandsFor : Held → List Entry → Type 0
StandsFor c h = (ss : List (Option Slot)) × StandsCell c ss h

-- a slot's record is as before, but that more events may be enqueued; a number without a slot stays free
abbrev pub IsCaughtUp : Option Slot → Option Slot → Type 0
IsCaughtUp None None = Unit {0}
IsCaughtUp None (Some t) = ⊥
IsCaughtUp (Some s) None = ⊥
IsCaughtUp (Some s) (Some t) = (s.last ≤ t.last) × (t ≡ record s { last = t.last })

-- each slot is so, by its number
abbrev pub OnlyCaughtUp : List (Option Slot) → List (Option Slot) → Type 0
OnlyCaughtUp ss ts = (slot : ℕ) → IsCaughtUp (slot_at ss slot) (slot_at ts slot)

-- whichever slots what was kept stood for with a history, what is kept now stands for them with this one, at most
-- caught up
abbrev pub KeepsSlots : Held → List Entry → Held → List Entry → Type 0
KeepsSlots c h d k =
    (ss : List (Option Slot)) → StandsCell c ss h → (ts : List (Option Slot)) × OnlyCaughtUp ss ts × StandsCell d ts k

-- a shape as it is kept
abbrev pub shape_kept : ItemShape → Shape
shape_kept s = record { kind = s.kind; fields = s.fields; key = s.key; command = s.command }
