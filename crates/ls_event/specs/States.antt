-- The state of an item, by its kind, and why an event isn't added to it (General Concepts, modes; this project's
-- profile for the limits).
use Rattle.std.specs.Prelude.{◌≡◌, ℕ, ◌^◌, ◌-◌, List, [], ◌∷◌, ◌++◌, length, max, min, Bool, not, ◌&&◌, Option, None}
use Rattle.std.specs.Prelude.{Some, is_none, Result, Ok, Err, nat_le, nat_lt, if◌then◌else◌}
use Rattle.std.specs.Option.{option_map_or, option_or}
use Rattle.ls_value.specs.Values.{weight_of}
use Rattle.ls_value.specs.declared.row.Value.{Value}
use Rattle.ls_value.specs.declared.row.Cell.{Cell}
use Rattle.ls_event.specs.declared.event.Event.{Event}
use Rattle.ls_event.specs.declared.event.Event.TheVariants.{Update, Clear}
use Rattle.ls_event.specs.declared.event.Entry.{Entry}
use Rattle.ls_event.specs.declared.event.PushRefused.{PushRefused}
use Rattle.ls_event.specs.declared.event.PushRefused.TheVariants as refused
use Rattle.ls_event.specs.declared.item.Kind.{Kind}
use Rattle.ls_event.specs.declared.item.Kind.TheVariants as kind
use Rattle.ls_event.specs.declared.orders.Order.{Order}
use Rattle.ls_event.specs.declared.orders.CommandRefused.{CommandRefused}
use Rattle.ls_event.specs.declared.orders.CommandRefused.TheVariants as order
use Rattle.ls_event.specs.declared.snapshot.KeyedRow.{KeyedRow}
use Rattle.ls_event.specs.declared.snapshot.Snapshot.{Snapshot}
use Rattle.ls_event.specs.declared.snapshot.Snapshot.TheVariants as state
use Rattle.ls_event.specs.Shapes.{Shape}
use Rattle.ls_event.specs.History.{merged, row_after, weight_of_event}
use Rattle.ls_event.specs.Updates.{own_row, last_of, recent_rows}
use Rattle.ls_event.specs.Keyed.{key_of, deletes, row_at, row_with, keyed_after, keyed}
use Rattle.ls_event.specs.Orders.{order_of}
use Rattle.ls_event.specs.declared.limits.TheConstants.{MOST_KEYS, MOST_SNAPSHOT_ROWS, MOST_WEIGHT}

-- the state of an item of a kind after the first i entries of its history
abbrev pub state_in : Kind → Shape → List Entry → ℕ → Snapshot
state_in kind.Merge p h i = state.Merge (merged p.fields h i)
state_in kind.Distinct p h i = state.Distinct (recent_rows h i)
state_in kind.Command p h i = state.Command (keyed p h i)

-- the state of an item after the first i entries of its history
abbrev pub state_at : Shape → List Entry → ℕ → Snapshot
state_at p h i = state_in p.kind p h i

-- the rows that are kept for snapshots, after an event
abbrev pub rows_after : List (List Value) → Event → List (List Value)
rows_after rows (Update cells) = last_of MOST_SNAPSHOT_ROWS (rows ++ own_row cells ∷ [])
rows_after rows Clear = []

-- a state after an event
abbrev pub state_after : Shape → Snapshot → Event → Snapshot
state_after p (state.Merge row) event = state.Merge (row_after row event)
state_after p (state.Distinct rows) event = state.Distinct (rows_after rows event)
state_after p (state.Command ks) event = state.Command (keyed_after p ks event)

-- the row of the key that an event names, by the state after it: a Clear names no key, and none is in kinds other than
-- COMMAND
abbrev pub key_row : Shape → Snapshot → Event → Option (List Value)
key_row p (state.Merge row) event = None
key_row p (state.Distinct rows) event = None
key_row p (state.Command ks) Clear = None
key_row p (state.Command ks) (Update cells) = row_at (key_of p cells) ks

-- the row that an update makes of its key's row, if it makes one
abbrev pub key_row_made : Shape → List KeyedRow → List Cell → Option (List Value)
key_row_made p ks cells = if deletes p cells then None else Some (row_with p (row_at (key_of p cells) ks) cells)

-- the row that an event makes, if it makes one
abbrev pub row_made : Shape → Snapshot → Event → Option (List Value)
row_made p (state.Merge row) event = Some (row_after row event)
row_made p (state.Distinct rows) (Update cells) = Some (own_row cells)
row_made p (state.Distinct rows) Clear = None
row_made p (state.Command ks) (Update cells) = key_row_made p ks cells
row_made p (state.Command ks) Clear = None

-- the greater weight of an event and of the row that it makes, as far as 64 bits tell
abbrev pub weight_made : Event → Option (List Value) → ℕ
weight_made event row = min (max (weight_of_event event) (option_map_or weight_of row 0)) (2 ^ 64 - 1)

-- why an order is none, as a cause
abbrev pub order_cause : Result Order CommandRefused → Option PushRefused
order_cause (Ok o) = None
order_cause (Err order.NoKey) = Some refused.NoKey
order_cause (Err order.BadCommand) = Some refused.BadCommand

-- an update that names no key or no order, in an item of kind COMMAND
abbrev pub order_refusal : Shape → Snapshot → Event → Option PushRefused
order_refusal p (state.Merge row) event = None
order_refusal p (state.Distinct rows) event = None
order_refusal p (state.Command ks) (Update cells) = order_cause (order_of cells p.key p.command)
order_refusal p (state.Command ks) Clear = None

-- an event that weighs too much
abbrev pub weight_refusal : ℕ → Option PushRefused
weight_refusal bytes = if nat_lt MOST_WEIGHT bytes then Some (refused.TooLong bytes) else None

-- whether an update adds a key
abbrev pub adds_key : Shape → List KeyedRow → List Cell → Bool
adds_key p ks cells = not (deletes p cells) && is_none (row_at (key_of p cells) ks)

-- an update that adds a key to as many as there may be
abbrev pub keys_refusal : Shape → Snapshot → Event → Option PushRefused
keys_refusal p (state.Merge row) event = None
keys_refusal p (state.Distinct rows) event = None
keys_refusal p (state.Command ks) (Update cells) = if nat_le MOST_KEYS (length ks) && adds_key p ks cells
    then Some refused.TooManyKeys else None
keys_refusal p (state.Command ks) Clear = None

-- why an event isn't added to a state, by the first cause of the order
abbrev pub push_refusal : Shape → Snapshot → Event → Option PushRefused
push_refusal p s event =
    option_or (order_refusal p s event) (option_or (weight_refusal (weight_made event (row_made p s event)))
    (keys_refusal p s event))

-- an answer is the first cause where there is one, and nothing stands against an event that was added; want of memory
-- comes last
abbrev pub PushAnswers : {A : Type 0} → Option PushRefused → Result A PushRefused → Type 0
PushAnswers cause (Ok a) = cause ≡ None
PushAnswers cause (Err refused.NoMemory) = cause ≡ None
PushAnswers cause (Err e) = cause ≡ Some e
