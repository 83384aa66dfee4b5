-- What is made of a value that may be absent, and which refusal of a table comes first.
use Rattle.std.specs.Prelude.{ℕ, List, [], ◌∷◌, Bool, Option, None, Some, if◌then◌else◌}

-- what is made of a value that is found; where there is none, the other
abbrev pub with_found : {A B : Type 0} → Option A → B → (A → B) → B
with_found None none f = none
with_found (Some a) none f = f a

-- the code of the first row of a table whose condition holds
abbrev pub first_code : List (ℕ × Bool) → Option ℕ
first_code [] = None
first_code (row ∷ rows) = if row.1 then Some row.0 else first_code rows
