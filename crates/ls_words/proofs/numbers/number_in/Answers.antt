use Rattle.std.proofs.Common.{arith}
use Rattle.ls_words.proofs.Decimals.{above_at}
use Rattle.ls_words.proofs.numbers.number_in.Goals.{then-value-high-via-then-value-high, then-value-high-via-else-value-high+then-n-high}
use Rattle.ls_words.proofs.numbers.number_in.Goals as goal

pub returns-then-value-high-clause-number : goal.returns-then-value-high-clause-number
returns-then-value-high-clause-number c =
    above_at c.args.low c.args.high c.loop-digit.n c.loop-digit.digit-index c.args.text.now c.loop-digit-test.true
    (elim c.then-value-high.branch [
      | then-value-high-via-then-value-high w ↦ (let v = c.from-value.ensures in let t = w.if-value-high in omega (arith, v, t))
      | then-value-high-via-else-value-high+then-n-high w ↦ (let v = c.from-value.ensures in let t = w.if-value-high in let u = w.if-n-high in omega
          (arith, v, t, u))
    ])
    c.loop-digit.invariant.1
