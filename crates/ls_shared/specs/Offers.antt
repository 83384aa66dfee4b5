-- What an offer's number says of the history that the pass has then (this project's profile).
use Rattle.std.specs.Prelude.{◌≡◌, ℕ, ◌+◌, ◌-◌, ◌<◌, List, Some, slice_get}
use Rattle.ls_event.specs.declared.event.Event.{Event}
use Rattle.ls_event.specs.declared.event.Entry.{Entry}
use Rattle.ls_live.specs.Live.{entry_of}

-- an adapter's event with its seq stands in a history at this number, from 1, and no other event of the adapter there
-- has that seq
abbrev pub HasOnce : List Entry → ℕ → ℕ → ℕ → Event → Type 0
HasOnce h number adapter seq event =
    (0 < number)
    × (slice_get h (number - 1) ≡ Some (entry_of adapter seq event))
    × ((k : ℕ) (e : Entry) → slice_get h k ≡ Some e → e.adapter ≡ adapter → e.seq ≡ seq → k + 1 ≡ number)
