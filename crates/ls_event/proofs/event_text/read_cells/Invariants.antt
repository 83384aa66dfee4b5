use Rattle.std.proofs.Common.{◌≡◌, length}
use Rattle.ls_words.specs.Words.{pieces_behind}
use Rattle.ls_event.proofs.EventCells.{Going}
use Rattle.ls_event.proofs.event_text.read_cells.Given as goal

-- the pairs so far made the cells, and the others are those of the rest
abbrev pub invariant-loop-rest : goal.invariant-loop-rest
invariant-loop-rest l = Going l.fields l.text (pieces_behind 38 l.rest) l.at l.cells.items × (length l.cells.items ≡ length l.fields)

abbrev pub decreases-loop-rest : goal.decreases-loop-rest
decreases-loop-rest l = length (pieces_behind 38 l.rest)
