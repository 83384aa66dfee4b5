use Rattle.std.proofs.Common.{arith}
use Rattle.ls_cell.specs.Standing.{StandsSlot}
use Rattle.ls_cell.proofs.Changes.{same_live}
use Rattle.ls_cells.proofs.Numbers.{differs}
use Rattle.ls_cells.proofs.cells.join_on.Goals as goal

pub returns-then-not-may_join-clause-answer : goal.returns-then-not-may_join-clause-answer
returns-then-not-may_join-clause-answer c = λ ss h st allowed some most few.
    absurd (differs c.may_join.result (c.may_join.ensures.may allowed some most
    (omega (arith, few, same_live (StandsSlot c.args.cell.now.item.shape) c.args.cell.now.slots ss h st.slots))) c.if-not-may_join.true)

pub returns-then-not-may_join-clause-stands : goal.returns-then-not-may_join-clause-stands
returns-then-not-may_join-clause-stands c = λ ss h st allowed some most few.
    absurd (differs c.may_join.result (c.may_join.ensures.may allowed some most
    (omega (arith, few, same_live (StandsSlot c.args.cell.now.item.shape) c.args.cell.now.slots ss h st.slots))) c.if-not-may_join.true)
