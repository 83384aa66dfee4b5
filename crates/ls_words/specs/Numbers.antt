-- Decimal numbers: digits without a sign and without a leading zero (TLCP 2.1, and this project's profile).
use Rattle.std.specs.Prelude.{◌==◌, ℕ, ◌+◌, ◌*◌, ◌-◌, List, [], ◌∷◌, Bool, true, false, ◌&&◌, not, Option, None, Some}
use Rattle.std.specs.Prelude.{nat_le, if◌then◌else◌, option_and_then}
use Rattle.std.specs.List.{list_all}

-- `0` to `9`
abbrev pub is_digit : ℕ → Bool
is_digit b = nat_le 48 b && nat_le b 57

-- the number that digits say behind another one
abbrev pub value_from : ℕ → List ℕ → ℕ
value_from n [] = n
value_from n (d ∷ ds) = value_from (10 * n + (d - 48)) ds

-- a number has no leading zero; `0` is one
abbrev pub has_form : List ℕ → Bool
has_form [] = false
has_form (d ∷ []) = true
has_form (d ∷ e ∷ ds) = not (d == 48)

-- the number that a text says, of as many digits as it has
abbrev pub number_of : List ℕ → Option ℕ
number_of text = if has_form text && list_all is_digit text then Some (value_from 0 text) else None

-- a number, where it is from one number to another
abbrev pub within : ℕ → ℕ → ℕ → Option ℕ
within n low high = if nat_le low n && nat_le n high then Some n else None

-- the number that a text says, where it is from one number to another
abbrev pub number_in : List ℕ → ℕ → ℕ → Option ℕ
number_in text low high = option_and_then (λ n. within n low high) (number_of text)
