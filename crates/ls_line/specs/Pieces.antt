-- The pieces of a text, divided by commas.
use Rattle.std.specs.Prelude.{◌==◌, ℕ, ◌+◌, List, [], ◌∷◌, if◌then◌else◌}

-- the bytes before the first comma
abbrev pub first_piece : List ℕ → List ℕ
first_piece [] = []
first_piece (b ∷ bytes) = if b == 44 then [] else b ∷ first_piece bytes

-- the bytes behind the first comma
abbrev pub behind : List ℕ → List ℕ
behind [] = []
behind (b ∷ bytes) = if b == 44 then bytes else behind bytes

-- how many commas there are
abbrev pub commas : List ℕ → ℕ
commas [] = 0
commas (b ∷ bytes) = if b == 44 then commas bytes + 1 else commas bytes
