-- Tokens, by the dividers between them.
use Rattle.std.proofs.Common.{◌≡◌, ℕ, ◌+◌, ◌≤◌, ◌==◌, List, ◌∷◌, length, drop, ap, arith}
use Rattle.std.proofs.lemmas.List.{length-drop}
use Rattle.std.proofs.lemmas.List.Splits.{length-slice_split}
use Rattle.std.proofs.lemmas.List.Sums.{count_by-le-length}
use Rattle.ls_update.specs.Reading.{tokens_of}

-- the tokens are at most one more than the bytes
pub tokens_at_most : (text : List ℕ) → length (tokens_of text) ≤ length text + 1
tokens_at_most text =
    let n = length-slice_split (λ b. b == 124) text in
    let m = count_by-le-length (λ b. b == 124) text in
    omega (arith, n, m)

-- so many tokens stand before a token, at most as many as there are bytes
pub behind_within : (text : List ℕ) (behind : ℕ) (token : List ℕ) (others : List (List ℕ))
    → drop behind (tokens_of text) ≡ token ∷ others → behind ≤ length text
behind_within text behind token others is =
    let n = length-drop behind (tokens_of text) in
    let m : length (drop behind (tokens_of text)) ≡ length (token ∷ others) = ap length is in
    let most = tokens_at_most text in
    omega (arith, n, m, most)
