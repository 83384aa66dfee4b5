use Rattle.std.proofs.Common.{ℕ, ◌==◌, length, arith, refl, rules}
use Rattle.std.proofs.lemmas.List.{take_rest}
use Rattle.std.proofs.lemmas.List.Sums.{position_or_len_is}
use Rattle.ls_words.proofs.Dividing.{halves_of, no_halves}
use Rattle.ls_words.proofs.pieces.split_once.Goals as goal

pub returns-in-Some : goal.returns-in-Some
returns-in-Some c =
    let text = c.args.text.now in
    let d = c.args.divider in
    halves_of d text c.in-Some.at _ _ (position_or_len_is (λ (b : ℕ). b == d) text c.in-Some.at 0 (search rules) (search rules) (search rules)) (search rules)
    refl (take_rest text _)

pub returns-in-None : goal.returns-in-None
returns-in-None c =
    let text = c.args.text.now in
    let d = c.args.divider in
    no_halves d text (position_or_len_is (λ (b : ℕ). b == d) text (length text) 0 (omega arith) (search rules) (search rules))
