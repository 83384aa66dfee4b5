-- Words and names (this project's profile).
use Rattle.std.specs.Prelude.{◌==◌, ℕ, ◌+◌, List, [], length, take, drop, position, Bool, ◌&&◌, ◌||◌, nat_le, Option}
use Rattle.std.specs.Prelude.{None, Some, option_map, if◌then◌else◌}
use Rattle.std.specs.Borrow.{Bor}
use Rattle.std.specs.List.{slice_split, list_all}
use Rattle.ls_words.specs.declared.names.TheConstants.{LONGEST_NAME}
use Rattle.ls_words.specs.Numbers.{is_digit}

-- the pieces of a text, divided by a byte: one more than that byte stands in it, and some may be empty
abbrev pub divided : ℕ → List ℕ → List (List ℕ)
divided divider text = slice_split (λ b. b == divider) text

-- the pieces behind a first one, where a divider follows it
abbrev pub pieces_behind : ℕ → Option (Bor (List ℕ)) → List (List ℕ)
pieces_behind divider None = []
pieces_behind divider (Some rest) = divided divider rest.now

-- a text before and behind a divider
pub record Halves : Type 0 where
  pub front : List ℕ
  pub back : List ℕ

-- a text before and behind a place
abbrev pub halves_at : List ℕ → ℕ → Halves
halves_at text at = record { front = take at text; back = drop (at + 1) text }

-- a text before and behind its first divider, where it has one
abbrev pub split_once : ℕ → List ℕ → Option Halves
split_once divider text = option_map (halves_at text) (position (λ b. b == divider) text)

-- the halves that two slices are
abbrev pub halves : Bor (List ℕ) × Bor (List ℕ) → Halves
halves parts = record { front = parts.0.now; back = parts.1.now }

-- an ASCII letter
abbrev pub is_letter : ℕ → Bool
is_letter b = (nat_le 65 b && nat_le b 90) || (nat_le 97 b && nat_le b 122)

-- an ASCII letter, a digit, `_`, `.` or `-`
abbrev pub is_name_byte : ℕ → Bool
is_name_byte b = is_letter b || is_digit b || b == 95 || b == 46 || b == 45

-- whether a text is a name: bytes of names, at least one and at most `LONGEST_NAME`
abbrev pub is_name : List ℕ → Bool
is_name text = nat_le 1 (length text) && nat_le (length text) LONGEST_NAME && list_all is_name_byte text

-- the name that a text is
abbrev pub name_of : List ℕ → Option (List ℕ)
name_of text = if is_name text then Some text else None
