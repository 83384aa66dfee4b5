-- What is true of a live slot of an item.
use Rattle.std.specs.Prelude.{◌≡◌, ℕ, ◌+◌, ◌≤◌, List, length, Option}
use Rattle.std.specs.Option.{option_map_or}
use Rattle.ls_event.specs.declared.event.Entry.{Entry}
use Rattle.ls_event.specs.declared.event.Event.{Event}
use Rattle.ls_event.specs.declared.item.Kind.TheVariants as kind
use Rattle.ls_event.specs.declared.limits.TheConstants.{MOST_LAG}
use Rattle.ls_event.specs.History.{HasFields}
use Rattle.ls_event.specs.Shapes.{Shape}
use Rattle.ls_event.specs.Slots.{Slot}
use Rattle.ls_command.specs.Command.{NamesKey}
use Rattle.ls_cell.specs.declared.any.AnyBuffer.{AnyBuffer}
use Rattle.ls_cell.specs.Any.{StandsAny, any_last, HasAnyFields, AnyAdmits}

-- an event is one of an item: it has a cell for each field, and in kind COMMAND it names a key
pub record IsEventOf (p : Shape) (e : Event) : Type 0 where
  pub fields : HasFields p.fields e
  pub key : p.kind ≡ kind.Command → NamesKey p.key e

-- a slot's buffer is one of an item that has so many events and keeps so many of them: what the slot lacks is among
-- these, and it takes them
pub record IsSlotOf (p : Shape) (number kept : ℕ) (b : AnyBuffer) : Type 0 where
  pub reached : any_last b ≤ number
  pub near : number ≤ any_last b + kept
  pub fields : HasAnyFields b p.fields
  pub admits : (e : Event) → IsEventOf p e → AnyAdmits b e

-- a slot's buffer stands for its record on an item's history, behind which it lags no more than it may
pub record StandsSlot (p : Shape) (b : AnyBuffer) (s : Slot) (h : List Entry) : Type 0 where
  pub buffer : StandsAny b s h
  pub shape : s.plan.shape ≡ p
  pub within : s.last ≤ length h
  pub near : length h ≤ s.last + MOST_LAG

-- the number that was enqueued last into a slot, 0 where there is none
abbrev pub last_at : Option AnyBuffer → ℕ
last_at o = option_map_or any_last o 0
