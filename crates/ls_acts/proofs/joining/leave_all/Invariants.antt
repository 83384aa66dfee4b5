use Rattle.std.proofs.Common.{◌≡◌, List, map}
use Rattle.ls_record.specs.Records.{Item, LiveSlot}
use Rattle.ls_subs.specs.Standing.{ref_of}
use Rattle.ls_acts.specs.Joining.{Leave, LeftSoFar}
use Rattle.ls_acts.proofs.joining.leave_all.Given as goal

-- the slots so far left
abbrev pub invariant-loop-slot : goal.invariant-loop-slot
invariant-loop-slot g l = (declared : List Item) (lives left vs : List LiveSlot) → g.S.ItemSlots.stands l.fn.slots declared lives
    → l.refs ≡ map ref_of vs → Leave vs lives left → LeftSoFar (g.S.ItemSlots.stands l.slots) declared vs left l.slot-index
