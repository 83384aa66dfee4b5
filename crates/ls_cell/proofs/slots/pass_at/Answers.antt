use Rattle.std.proofs.Common.{subst, Some}
use Rattle.ls_cell.specs.Numbered.{StandsAt}
use Rattle.ls_cell.specs.Standing.{StandsSlot}
use Rattle.ls_cell.proofs.Passing.{passed_stands}
use Rattle.ls_cell.proofs.slots.pass_at.Goals as goal

pub returns-clause-stands : goal.returns-clause-stands
returns-clause-stands c = λ p s h t st is.
    passed_stands p _ c.pass.new.self s h t c.pass.ensures.stands
    (subst (λ o. StandsAt (StandsSlot p) o (Some s) h) c.in-Some.is st) is
