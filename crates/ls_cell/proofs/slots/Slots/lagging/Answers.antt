use Rattle.std.proofs.Common.{◌≤◌, sym, subst}
use Rattle.ls_cell.specs.Any.{any_last}
use Rattle.ls_cell.specs.Numbered.{EachSlot}
use Rattle.ls_cell.proofs.Changes.{none_lagging}
use Rattle.ls_cell.proofs.slots.Slots.lagging.Goals as goal

pub returns-then-keeps_up : goal.returns-then-keeps_up
returns-then-keeps_up c =
    sym (none_lagging any_last c.args.self.now c.self.inside.least c.args.number 1
    (subst (EachSlot (λ b. c.self.inside.least ≤ any_last b)) c.self.view_is c.self.invariant.3)
    (c.keeps_up.ensures c.if-keeps_up.true))
