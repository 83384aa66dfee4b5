-- Slots that join an item.
use Rattle.std.specs.Prelude.{◌≡◌, ℕ, List, length, min, Option, None, Some}
use Rattle.ls_event.specs.declared.event.Entry.{Entry}
use Rattle.ls_event.specs.declared.event.Event.{Event}
use Rattle.ls_event.specs.declared.event.Mode.{Mode}
use Rattle.ls_event.specs.declared.snapshot.Snapshot.{Snapshot}
use Rattle.ls_event.specs.declared.snapshot.Snapshot.TheVariants as state
use Rattle.ls_event.specs.States.{state_at}
use Rattle.ls_event.specs.Joining.{plan_of, joined}
use Rattle.ls_item.specs.States.{KeptState}
use Rattle.ls_cell.specs.declared.any.AnyBuffer.{AnyBuffer}
use Rattle.ls_cell.specs.Any.{StandsAny, any_last, HasAnyFields, AnyAdmits}
use Rattle.ls_cell.specs.Standing.{IsEventOf}

-- a join: the item and its number of events, the slot's mode and size, and how many rows of a snapshot are asked for,
-- if one is
pub record Join : Type 0 where
  pub item : KeptState
  pub number : ℕ
  pub mode : Mode
  pub size : ℕ
  pub asked : Option ℕ

-- the buffer of a slot that joins
pub record Joins (j : Join) (b : AnyBuffer) : Type 0 where
  pub last : any_last b ≡ j.number
  pub fields : HasAnyFields b j.item.shape.fields
  pub admits : (e : Event) → IsEventOf j.item.shape e → AnyAdmits b e
  pub stands : (h : List Entry) → j.number ≡ length h → j.item.state ≡ state_at j.item.shape h (length h)
      → StandsAny b (joined (plan_of j.item.shape h j.mode j.size) h j.asked) h

-- how many rows of a snapshot are owed: as many as are asked for, or as there are; only mode DISTINCT counts them
abbrev pub rows_owed : Option Snapshot → Option ℕ → ℕ
rows_owed None asked = 0
rows_owed (Some (state.Merge row)) asked = 0
rows_owed (Some (state.Command ks)) asked = 0
rows_owed (Some (state.Distinct rows)) None = 0
rows_owed (Some (state.Distinct rows)) (Some asked) = min asked (length rows)
