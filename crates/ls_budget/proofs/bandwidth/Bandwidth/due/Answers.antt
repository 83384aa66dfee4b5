use Rattle.std.proofs.Common.{◌∙◌, subst, sym}
use Rattle.ls_budget.specs.Due.{answered_tick, allows, IsFirst}
use Rattle.ls_budget.proofs.Standing.{due_of_is, answer_first}
use Rattle.ls_budget.proofs.bandwidth.Bandwidth.due.Goals as goal

pub returns-clause-stands : goal.returns-clause-stands
returns-clause-stands c =
    λ rate spends st behind tick. c.answer.ensures tick ∙ due_of_is c.args.self.now rate spends c.args.now st behind

pub returns-clause-first : goal.returns-clause-first
returns-clause-first c =
    λ rate spends st behind tick.
    subst (λ d. IsFirst (allows rate spends) c.args.now (answered_tick d c.args.now)) (sym (c.answer.ensures tick))
    (answer_first c.args.self.now rate spends c.args.now st behind)
