-- What is held of bytes that are written.
use Rattle.std.specs.Prelude.{ℕ, List, length, take, Option, Some, None}
use Rattle.std.specs.Io.KnownBytes.{Appends}

-- bytes were only written, where what is held is told
abbrev pub Grows : Option (List ℕ) → Option (List ℕ) → Type 0
Grows old new = (bytes : List ℕ) × Appends old new bytes

-- what is held now, as far as what was held then is long: where bytes were only written, it is what was held then
abbrev pub cut_to : Option (List ℕ) → Option (List ℕ) → Option (List ℕ)
cut_to None now = None
cut_to (Some then_held) None = None
cut_to (Some then_held) (Some held) = Some (take (length then_held) held)
