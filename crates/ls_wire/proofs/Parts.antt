-- Parts of lists that grow.
use Rattle.std.proofs.Common.{◌≡◌, ◌≤◌, ◌+◌, ℕ, List, ◌++◌, length, take, drop, sym, arith}
use Rattle.std.proofs.Math.Seq.{take-append_seam}
use Rattle.std.proofs.lemmas.Grind.{common_steps}
use lib.Seq.{drop-append-le}

-- what stood before bytes that were appended
pub front_of_all : (xs ys : List ℕ) → take (length xs) (xs ++ ys) ≡ xs
front_of_all xs ys = take-append_seam xs ys

-- what is behind a place within grows as the whole does
pub rest_of_more : (n : ℕ) (xs ys : List ℕ) → n ≤ length xs → drop n (xs ++ ys) ≡ drop n xs ++ ys
rest_of_more n xs ys within = drop-append-le n xs ys within

-- what is behind a place of what is behind a place
pub rest_of_rest : (m n : ℕ) (xs : List ℕ) → drop (m + n) xs ≡ drop n (drop m xs)
rest_of_rest m n xs = grind (arith, common_steps)
