use Rattle.std.proofs.Common.{◌≡◌, ℕ, Some, refl, sym, ap, ◌∙◌, arith}
use Rattle.ls_told.specs.Heard.{LineGiven, last_gave}
use Rattle.ls_history.specs.Counting.{line_given}
use Rattle.ls_history.proofs.history.is_silent.Goals as goal

pub returns-then-last-epoch-clause-silent : goal.returns-then-last-epoch-clause-silent
returns-then-last-epoch-clause-silent c es is last kept =
    let past = c.is_past.ensures.past is in
    let there : last_gave c.args.last.epoch es ≡ Some c.args.last.tick = last c.args.last refl in (
      c.args.last.tick,
      ap (λ (n : ℕ). last_gave n es) (sym c.if-last-epoch.true) ∙ there,
      omega (arith, past, kept),
    )

pub returns-then-last-epoch-clause-spoke : goal.returns-then-last-epoch-clause-spoke
returns-then-last-epoch-clause-spoke c es is last kept l there same =
    let one : Some (line_given c.args.last) ≡ Some l = last ∙ there in
    let given : line_given c.args.last ≡ l = cc in
    omega (arith, c.is_past.ensures.not_past is, kept, ap (λ (g : LineGiven). g.tick) given)

pub returns-else-last-epoch-clause-spoke : goal.returns-else-last-epoch-clause-spoke
returns-else-last-epoch-clause-spoke c es is last kept l there same =
    let one : Some (line_given c.args.last) ≡ Some l = last ∙ there in
    let given : line_given c.args.last ≡ l = cc in
    absurd (c.if-last-epoch.false (ap (λ (g : LineGiven). g.epoch) given ∙ same))
