-- Texts in one piece of memory, each after the one before.
use Rattle.std.specs.Prelude.{◌≡◌, ◌≤◌, ℕ, ◌+◌, ◌-◌, List, ◌∷◌, [], length, slice_range}

-- the texts of a queue, the first one first, and the text that left it last
pub record QueuedTexts : Type 0 where
  pub texts : List (List ℕ)
  pub left : List ℕ

abbrev pub queued : List (List ℕ) → List ℕ → QueuedTexts
queued texts left = record { texts = texts; left = left }

-- the bytes between two places, which count from the first byte that ever was: so many bytes are gone
abbrev pub text_between : List ℕ → ℕ → ℕ → ℕ → List ℕ
text_between bytes gone from to = slice_range bytes (from - gone) (to - gone)

-- the texts of which the first one begins at a place, and each ends at its own
abbrev pub texts_between : List ℕ → ℕ → ℕ → List ℕ → List (List ℕ)
texts_between bytes gone from [] = []
texts_between bytes gone from (end ∷ ends) = text_between bytes gone from end ∷ texts_between bytes gone end ends

-- no text ends before it begins, and the last one ends with the bytes
abbrev pub EndAt : ℕ → ℕ → List ℕ → Type 0
EndAt last from [] = from ≡ last
EndAt last from (end ∷ ends) = (from ≤ end) × EndAt last end ends

-- the text that left last, and then the others, lie in the bytes that aren't gone
pub record LieIn (bytes : List ℕ) (gone left first : ℕ) (ends : List ℕ) : Type 0 where
  pub there : gone ≤ left
  pub left_ends : left ≤ first
  pub end : EndAt (gone + length bytes) first ends

-- the texts of lines, the text that left last, and for how many texts more there is room
pub record HeldTexts : Type 0 where
  pub texts : List (List ℕ)
  pub left : List ℕ
  pub spare : ℕ
