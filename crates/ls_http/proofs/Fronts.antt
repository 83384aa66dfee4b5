-- The first bytes of a buffer.
use Rattle.std.proofs.Common.{◌≡◌, ℕ, List, ◌++◌, length, take, drop, min, subst, sym, ap, ◌∙◌, append_assoc, arith, take-append-drop}
use Rattle.httparse.specs.Grammar.{ReadsRequest}
use Rattle.httparse.specs.Spans.{RequestOverflows}
use Rattle.std.proofs.lemmas.Grind.{common_steps}

-- a place that is cut at the length
pub take_most : (xs : List ℕ) (n : ℕ) → take (min (length xs) n) xs ≡ take n xs
take_most xs n = grind (arith, common_steps)

-- what no bytes after the front make of it, none after the whole do
pub overflows : (bytes : List ℕ) (n room : ℕ) → RequestOverflows room (take n bytes) → RequestOverflows room bytes
overflows bytes n room f more h rest reads =
    let e : bytes ++ more ≡ take n bytes ++ (drop n bytes ++ more) = ap (λ (x : List ℕ). x ++ more) (sym (take-append-drop n bytes)) ∙ append_assoc (take n bytes) (drop n bytes) more in
    f (drop n bytes ++ more) h rest (subst (λ (x : List ℕ). ReadsRequest x h rest) e reads)
