-- Parts of the definitions, by which proofs go case by case.
use Rattle.std.specs.Prelude.{ℕ, ◌+◌, [], ◌∷◌, length, Option, nat_lt, if◌then◌else◌}
use Rattle.ls_event.specs.declared.event.Entry.{Entry}
use Rattle.ls_event.specs.declared.event.PublishRefused.{PublishRefused}
use Rattle.ls_record.specs.Cases.{with_found}
use Rattle.ls_world.specs.World.{World}
use Rattle.ls_record.specs.Records.{Item, LiveSlot, history_of, change, enqueued_in, on_board, grown, is_whole}
use Rattle.ls_world.specs.Steps.{Stepped, Once, stays, refused_out, cause_to_refuse, ends, goes_on}
use Rattle.ls_step.specs.declared.out.Out.TheVariants as out

-- a publish, by the first cause to refuse it, and by the item
abbrev pub published_by : World → ℕ → Entry → ℕ → Option PublishRefused → Stepped
published_by w item e number o =
    with_found o (record { after = record w { items = change item (grown e) w.items }; outs = out.Published number ∷ [] })
    (λ cause. stays w (refused_out cause))

abbrev pub published : World → ℕ → Entry → Option Item → Stepped
published w item e o =
    with_found o (stays w []) (λ i.
    if is_whole (length i.definition.fields) e.event then published_by w item e (length i.history + 1) (cause_to_refuse w item e i) else stays w [])

-- an enqueue, by the slot
abbrev pub enqueued_by : World → ℕ → ℕ → ℕ → Option LiveSlot → Once
enqueued_by w n sub rank o =
    with_found o (ends w out.NoSlot) (λ v.
    if nat_lt v.slot.last (length (history_of w.items v.item))
    then goes_on (record w { sessions = change n (on_board (enqueued_in w.items sub rank)) w.sessions }) (out.Moved (v.slot.last + 1))
    else ends w out.UpToDate)
