use Rattle.std.proofs.Common.{subst, ◌≡◌, Some}
use Rattle.ls_cell.specs.Any.{StandsAny, HasAnyFields, any_cut}
use Rattle.ls_cell.proofs.any.AnyBufferBuffer.pass.Goals as goal

pub returns-in-Raw-clause-fields : goal.returns-in-Raw-clause-fields
returns-in-Raw-clause-fields c = λ n has. c.pass.ensures.fields n (subst (λ b. HasAnyFields b n) c.in-Raw.is has)

pub returns-in-Raw-clause-stands : goal.returns-in-Raw-clause-stands
returns-in-Raw-clause-stands c = λ s h t st recorded.
    c.pass.ensures.stands s h t (subst (λ b. StandsAny b s h) c.in-Raw.is st)
    (subst (λ b. any_cut b ≡ Some t) c.in-Raw.is recorded)

pub returns-in-Merge-clause-stands : goal.returns-in-Merge-clause-stands
returns-in-Merge-clause-stands c = λ s h t st recorded.
    c.pass-in-Merge.ensures.stands s h t (subst (λ b. StandsAny b s h) c.in-Merge.is st)
    (subst (λ b. any_cut b ≡ Some t) c.in-Merge.is recorded)

pub returns-in-Distinct-clause-fields : goal.returns-in-Distinct-clause-fields
returns-in-Distinct-clause-fields c = λ n has. c.pass-in-Distinct.ensures.fields n
    (subst (λ b. HasAnyFields b n) c.in-Distinct.is has)

pub returns-in-Distinct-clause-stands : goal.returns-in-Distinct-clause-stands
returns-in-Distinct-clause-stands c = λ s h t st recorded.
    c.pass-in-Distinct.ensures.stands s h t (subst (λ b. StandsAny b s h) c.in-Distinct.is st)
    (subst (λ b. any_cut b ≡ Some t) c.in-Distinct.is recorded)

pub returns-in-Command-clause-fields : goal.returns-in-Command-clause-fields
returns-in-Command-clause-fields c = λ n has. c.pass-in-Command.ensures.fields n
    (subst (λ b. HasAnyFields b n) c.in-Command.is has)

pub returns-in-Command-clause-stands : goal.returns-in-Command-clause-stands
returns-in-Command-clause-stands c = λ s h t st recorded.
    c.pass-in-Command.ensures.stands s h t (subst (λ b. StandsAny b s h) c.in-Command.is st)
    (subst (λ b. any_cut b ≡ Some t) c.in-Command.is recorded)
