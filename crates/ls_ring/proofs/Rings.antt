-- A ring with room for one more, or for as many as may stay, keeps the last of them.
use Rattle.std.proofs.Common.{◌≡◌, ℕ, ◌+◌, ◌-◌, ◌≤◌, List, [], ◌∷◌, ◌++◌, length, drop, min, ap, arith}
use Rattle.std.proofs.lemmas.List.{length-append}
use Rattle.circular_buffer.specs.Buffer.{keep_last}
use Rattle.ls_event.specs.Updates.{last_of}

pub last_of_room : {A : Type 0} (most room : ℕ) (xs : List A) (x : A) → room ≤ most → length xs ≤ room → min most (length xs + 1) ≤ room
    → keep_last room (xs ++ x ∷ []) ≡ last_of most (xs ++ x ∷ [])
last_of_room most room xs x fits held free =
    ap (λ k. drop k (xs ++ x ∷ [])) {x = length (xs ++ x ∷ []) - room} {y = length (xs ++ x ∷ []) - most}
    (omega (arith, length-append xs (x ∷ []), fits, held, free))
