-- A list without its first elements, one more of which goes.
use Rattle.std.proofs.Common.{◌≡◌, ℕ, ◌+◌, List, drop}
use Rattle.std.proofs.lemmas.List.{drop-drop}

pub dropped_more : {A : Type 0} (n : ℕ) (xs : List A) → drop 1 (drop n xs) ≡ drop (n + 1) xs
dropped_more n xs = drop-drop 1 n xs
