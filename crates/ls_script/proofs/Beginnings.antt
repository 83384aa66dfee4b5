-- The beginnings of words.
use Rattle.std.proofs.Common.{◌≡◌, ◌<◌, ℕ, List, length, take, refl, arith, false, None}
use Rattle.std.proofs.lemmas.List.{length-take}
use Rattle.ls_value.specs.Values.{text_eq}
use Rattle.ls_value.proofs.Rows.{text_eq_lengths}
use Rattle.ls_step.specs.Grammar.{behind}

-- a word doesn't begin with a longer one
pub none_behind : (begin word : List ℕ) → length word < length begin → behind begin word ≡ None
none_behind begin word h =
    let n = length-take (length begin) word in
    let t : text_eq (take (length begin) word) begin ≡ false =
    text_eq_lengths (take (length begin) word) begin (λ e. omega (arith, h, n, e)) in
    rw t refl
