use Rattle.std.proofs.Common.{ℕ, List, [], ◌∷◌, ◌++◌, ◌+◌, ◌%◌, ap, ◌∙◌, rules, arith}
use Rattle.ls_words.proofs.Decimals.{decimal-more, decimal-one, digits-before, on_failed}
use Rattle.ls_words.proofs.numbers.+append_decimal.Goals as goal

pub returns-in_ok-push-clause-text : goal.returns-in_ok-push-clause-text
returns-in_ok-push-clause-text t c =
    c.in_ok-push.ensures.items ∙ ap (λ (ds : List ℕ). ds ++ ((48 + c.args.n % 10) ∷ [])) c.in_ok-append_decimal.ensures.text
    ∙ decimal-more c.args.text.now.items c.args.n (search rules) (search rules)

pub returns-in_ok-push-clause-most : goal.returns-in_ok-push-clause-most
returns-in_ok-push-clause-most t c =
    omega (
      arith,
      c.in_ok-push.ensures.len,
      c.append_decimal.new.text.ok.0,
      c.args.text.now.ok.0,
      digits-before c.args.text.now.items c.append_decimal.new.text.items c.args.n (search rules) (search rules) c.in_ok-append_decimal.ensures.text,
    )

pub returns-in_ok-push-2-clause-text : goal.returns-in_ok-push-2-clause-text
returns-in_ok-push-2-clause-text t c = c.in_ok-push-2.ensures.items ∙ decimal-one c.args.text.now.items c.args.n (search rules)

pub returns-in_err-push-clause-room : goal.returns-in_err-push-clause-room
returns-in_err-push-clause-room t c =
    on_failed c.from_residual-in_err-push.result
    (omega (
      arith,
      c.in_err-push.ensures.full,
      c.append_decimal.ensures.capacity,
      c.append_decimal.new.text.ok.0,
      c.args.text.now.ok.0,
      digits-before c.args.text.now.items c.append_decimal.new.text.items c.args.n (search rules) (search rules) c.in_ok-append_decimal.ensures.text,
    ))
