-- Which slots are marked as settled: nothing of them is pending (this project's profile).
use Rattle.std.specs.Prelude.{◌≡◌, ℕ, List, [], ◌∷◌, Bool, true, false, slice_index_or, slice_get}
use Rattle.std.specs.Option.{option_map_or}
use Rattle.ls_cell.specs.Cell.{Held, pending_at}
use Rattle.ls_cell.specs.Numbered.{slot_at}

-- whether a number is among those that are marked
abbrev pub is_marked : List Bool → ℕ → Bool
is_marked marks number = slice_index_or marks number false

-- whether a number of an item is
abbrev pub is_marked_on : List (List Bool) → ℕ → ℕ → Bool
is_marked_on rows item number = option_map_or (λ marks. is_marked marks number) (slice_get rows item) false

-- nothing is pending of the slots of an item whose numbers are marked
abbrev pub AreAllSettled : List Bool → Held → Type 0
AreAllSettled marks c = (number : ℕ) → is_marked marks number ≡ true → pending_at c number ≡ false

-- each item has its marks, and they are so
abbrev pub KnowsSettled : List (List Bool) → List Held → Type 0
KnowsSettled [] [] = Unit {0}
KnowsSettled [] (c ∷ cells) = ⊥
KnowsSettled (marks ∷ rows) [] = ⊥
KnowsSettled (marks ∷ rows) (c ∷ cells) = AreAllSettled marks c × KnowsSettled rows cells

-- the slots of an item are as they were, but for the one of a number
abbrev pub OthersStay : ℕ → Held → Held → Type 0
OthersStay number c c' = (n : ℕ) → (n ≡ number → ⊥) → slot_at c'.slots n ≡ slot_at c.slots n
