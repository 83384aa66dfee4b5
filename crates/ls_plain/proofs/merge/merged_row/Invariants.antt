use Rattle.std.proofs.Common.{◌≡◌, length, drop, take}
use Rattle.ls_event.specs.History.{row_after_all, merged}
use Rattle.ls_plain.proofs.merge.merged_row.Given as goal

abbrev pub invariant-loop-entry : goal.invariant-loop-entry
invariant-loop-entry l =
    (length l.row ≡ l.fields) × (row_after_all l.row (drop l.entry-index (take l.i l.history)) ≡ merged l.fields l.history l.i)
