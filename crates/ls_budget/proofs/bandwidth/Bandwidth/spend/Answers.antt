use Rattle.std.proofs.Common.{◌≡◌, ◌∷◌, ap, subst, sym, true, false}
use Rattle.ls_budget.specs.Kept.{StandsBandwidth}
use Rattle.ls_budget.proofs.Standing.{may_spend, spent_stands}
use Rattle.ls_budget.proofs.bandwidth.Bandwidth.spend.Goals as goal

pub returns-then-may_spend-clause-stands : goal.returns-then-may_spend-clause-stands
returns-then-may_spend-clause-stands c =
    λ rate spends st behind tick has most. (
      ap (λ k. k.latest) c.after.ensures,
      subst (λ k. StandsBandwidth k rate (record { tick = c.args.now; bytes = c.args.bytes } ∷ spends))
          (sym c.after.ensures)
          (spent_stands c.args.self.now rate spends c.args.now c.args.bytes st behind
          (may_spend c.args.self.now rate spends c.args.now c.args.bytes st behind tick has most).due),
    )

pub returns-else-may_spend-clause-stands : goal.returns-else-may_spend-clause-stands
returns-else-may_spend-clause-stands c =
    λ rate spends st behind tick has most.
    absurd (let no : false ≡ true = c.if-may_spend.ensures.1 (may_spend c.args.self.now rate spends c.args.now c.args.bytes st behind tick has most) in cc)
