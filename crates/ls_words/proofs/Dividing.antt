-- The pieces of a text, by the dividers between them.
use Rattle.std.proofs.Common.{◌≡◌, ℕ, ◌+◌, ◌<◌, ◌≤◌, ◌==◌, true, false, nat_lt, Some, None, List, [], ◌∷◌, length, take, drop, refl, sym, ap, arith}
use Rattle.std.proofs.lemmas.Bool.Decides.{nat_tests}
use Rattle.std.specs.List.{position_or_len}
use Rattle.std.proofs.lemmas.List.{length-drop}
use Rattle.std.proofs.lemmas.List.Splits.{slice_split_first, slice_split_none, length-slice_split}
use Rattle.std.proofs.lemmas.List.Elements.{All-from_get_or}
use Rattle.std.proofs.lemmas.List.Sums.{fails_before_first, count_by-le-length}
use Rattle.ls_words.specs.Words.{divided, split_once}

-- a text with a divider
pub first_divided : (d : ℕ) (text rest : List ℕ) (at : ℕ) → position_or_len (λ b. b == d) text ≡ at → at < length text → rest ≡ drop (at + 1) text
    → divided d text ≡ take at text ∷ divided d rest
first_divided d text rest at is within behind = rw (behind, sym is) (slice_split_first (λ b. b == d) text 0 (rw is within))

-- a text without one
pub not_divided : (d : ℕ) (text : List ℕ) → position_or_len (λ b. b == d) text ≡ length text → divided d text ≡ text ∷ []
not_divided d text is =
    slice_split_none (λ b. b == d) text (All-from_get_or (λ b. (b == d) ≡ false) text 0
    (λ i within. fails_before_first (λ b. b == d) text i 0 (omega (arith, is, within))))

-- the pieces are at most one more than the bytes
pub pieces_at_most : (d : ℕ) (text : List ℕ) → length (divided d text) ≤ length text + 1
pieces_at_most d text =
    let n = length-slice_split (λ b. b == d) text in
    let m = count_by-le-length (λ b. b == d) text in
    omega (arith, n, m)

-- where a piece stands, its place is at most the number of bytes
pub place_within : (d : ℕ) (text : List ℕ) (place : ℕ) (piece : List ℕ) (others : List (List ℕ)) → drop place (divided d text) ≡ piece ∷ others
    → place ≤ length text
place_within d text place piece others is =
    let n = length-drop place (divided d text) in
    let m : length (drop place (divided d text)) ≡ length (piece ∷ others) = ap length is in
    let most = pieces_at_most d text in
    omega (arith, n, m, most)

-- the halves of a text with a divider, and of one without
pub halves_of : (d : ℕ) (text : List ℕ) (at : ℕ) (front back : List ℕ) → position_or_len (λ b. b == d) text ≡ at → at < length text → front ≡ take at text
    → back ≡ drop (at + 1) text
    → Some (record { front = front; back = back }) ≡ split_once d text
halves_of d text at front back is within f b =
    let t : nat_lt at (length text) ≡ true = grind (arith, nat_tests) in
    rw (is, t, f, b) refl

pub no_halves : (d : ℕ) (text : List ℕ) → position_or_len (λ b. b == d) text ≡ length text → None ≡ split_once d text
no_halves d text is =
    let t : nat_lt (length text) (length text) ≡ false = grind (arith, nat_tests) in
    rw (is, t) refl
