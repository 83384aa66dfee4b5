-- The events of several numbers, which a buffer of size 1 takes at once.
use Rattle.std.specs.Prelude.{ℕ, Bool, true, List, [], ◌∷◌, ◌&&◌, replicate, if◌then◌else◌}
use Rattle.ls_value.specs.declared.row.Cell.{Cell}
use Rattle.ls_value.specs.declared.row.Cell.TheVariants as cell
use Rattle.ls_event.specs.declared.event.Entry.{Entry}
use Rattle.ls_event.specs.declared.event.Stored.{Stored}
use Rattle.ls_event.specs.Slots.{Slot, IsNext, enqueued}
use Rattle.ls_event.specs.Cuts.{says}
use Rattle.ls_merge.specs.Merge.{Merge, event_cells, merge_after}

-- what two events say of a field together
abbrev pub both : Cell → Cell → Cell
both before after = if says after then after else before

-- what two events say together of each field
abbrev pub over : List Cell → List Cell → List Cell
over [] after = []
over (c ∷ before) [] = c ∷ before
over (c ∷ before) (d ∷ after) = both c d ∷ over before after

-- cells say a value of each field
abbrev pub says_each : List Cell → Bool
says_each [] = true
says_each (c ∷ cs) = says c && says_each cs

-- what events say together, without the last one
abbrev pub said_but_last : ℕ → List Stored → List Cell
said_but_last fields [] = replicate fields cell.Same
said_but_last fields (x ∷ []) = replicate fields cell.Same
said_but_last fields (x ∷ y ∷ ys) = over (event_cells fields x.event) (said_but_last fields (y ∷ ys))

-- after the events of the next numbers, one after another
abbrev pub merge_run : Merge → List Stored → Merge
merge_run b [] = b
merge_run b (x ∷ xs) = merge_run (merge_after b x.event) xs

-- stored events are the entries after the last one that was enqueued, in order
abbrev pub IsRun : Slot → List Entry → List Stored → Type 0
IsRun s h [] = Unit {0}
IsRun s h (x ∷ xs) = IsNext s h x × IsRun (enqueued s) h xs
