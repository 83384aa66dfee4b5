use Rattle.std.proofs.Common.{◌≡◌, ◌<◌, get_or, ap, sym, ◌∙◌, arith, subst, IsUtf8, Ok}
use Rattle.ls_update.proofs.Numbers.{decimal_text, leading, parsed, parses}
use Rattle.ls_update.proofs.reading.number_of.Goals as goal

pub returns-in_default-clause-none : goal.returns-in_default-clause-none
returns-in_default-clause-none c = λ k some within is.
    let first = leading c.args.digits.now k some (omega (arith, within, c.ranges.most.fits)) is in
    absurd (omega (arith, first.0, c.in_default.ensures.cases))

pub returns-then-first-lt49-clause-none : goal.returns-then-first-lt49-clause-none
returns-then-first-lt49-clause-none c = λ k some within is.
    let first = leading c.args.digits.now k some (omega (arith, within, c.ranges.most.fits)) is in
    let head : get_or c.args.digits.now 0 0 ≡ c.in-Some.first.now =
    ap (λ ds. get_or ds 0 0) c.in-Some.ensures.cases.0 in
    absurd (omega (arith, first.1, head, c.if-first-lt49.true))

pub returns-in_default-from_utf8-clause-none : goal.returns-in_default-from_utf8-clause-none
returns-in_default-from_utf8-clause-none c = λ k some within is.
    absurd (c.in_default-from_utf8.ensures.cases.0 (subst IsUtf8 (sym is)
    (decimal_text k (omega (arith, within, c.ranges.most.fits)))))

pub returns-in_default-parse-clause-none : goal.returns-in_default-parse-clause-none
returns-in_default-parse-clause-none c = λ k some within is.
    let ok = parses c.in-Ok.text.now k c.parse.result c.parse.ensures.value.0
    (omega (arith, within, c.ranges.most.fits)) (c.in-Ok.ensures.cases.0 ∙ is) in
    let e = sym c.in_default-parse.is ∙ ok in
    cc

pub returns-then-k-most-clause-some : goal.returns-then-k-most-clause-some
returns-then-k-most-clause-some c =
    let head : get_or c.args.digits.now 0 0 ≡ c.in-Some.first.now =
    ap (λ ds. get_or ds 0 0) c.in-Some.ensures.cases.0 in
    let same : c.in-Ok.text.now ≡ c.args.digits.now = c.in-Ok.ensures.cases.0 in
    let first : 48 < get_or c.in-Ok.text.now 0 0 = rw same (omega (arith, head, c.if-first-lt49.false)) in
    let is = parsed c.in-Ok.text.now c.in-Ok-parse.k c.parse.result c.parse.ensures.value.0 c.in-Ok-parse.is first in
    (is.0, omega (arith, c.if-k-most.true), sym same ∙ is.1)

pub returns-else-k-most-clause-none : goal.returns-else-k-most-clause-none
returns-else-k-most-clause-none c = λ k some within is.
    let ok = parses c.in-Ok.text.now k c.parse.result c.parse.ensures.value.0
    (omega (arith, within, c.ranges.most.fits)) (c.in-Ok.ensures.cases.0 ∙ is) in
    let e : Ok c.in-Ok-parse.k ≡ Ok k = sym c.in-Ok-parse.is ∙ ok in
    let same : c.in-Ok-parse.k ≡ k = cc in
    absurd (omega (arith, same, within, c.if-k-most.false))
