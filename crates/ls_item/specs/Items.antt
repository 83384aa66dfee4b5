-- An item's state as its parts hold it.
use Rattle.std.specs.Prelude.{ℕ, [], length}
use Rattle.ls_event.specs.declared.item.Kind.TheVariants as kind
use Rattle.ls_event.specs.declared.snapshot.Snapshot.TheVariants as state
use Rattle.ls_event.specs.Shapes.{Shape}
use Rattle.ls_event.specs.States.{state_at}
use Rattle.ls_item.specs.States.{KeptState, shape_in}
use Rattle.ls_item.specs.declared.item.AnyState.{AnyState}
use Rattle.ls_item.specs.declared.item.AnyState.TheVariants as any

-- the state of an item without events
abbrev pub without_events : Shape → KeptState
without_events p = record { shape = p; state = state_at p [] 0 }

-- the shape and the state, with the places of the fields that are named as a key and a command
abbrev pub kept_of : ℕ → ℕ → AnyState → KeptState
kept_of key command (any.Merge row) =
    record {
      shape = record { kind = kind.Merge; fields = length row; key = key; command = command };
      state =
          state.Merge row;
    }
kept_of key command (any.Distinct s) =
    record {
      shape = record { kind = kind.Distinct; fields = s.fields; key = key; command = command };
      state =
          state.Distinct s.rows;
    }
kept_of key command (any.Command t) = record { shape = shape_in t; state = state.Command t.keys }
