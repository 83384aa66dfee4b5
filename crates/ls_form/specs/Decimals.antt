-- Decimals of thousandths, in which frequencies and bandwidths are written (this project's profile).
use Rattle.std.specs.Prelude.{◌==◌, ℕ, ◌+◌, ◌*◌, ◌/◌, ◌%◌, List, [], ◌∷◌, ◌++◌, length, take, drop, Bool, ◌&&◌, nat_le}
use Rattle.std.specs.Prelude.{Option, Some, None, if◌then◌else◌, position, option_and_then, option_map}
use Rattle.std.specs.List.{list_all}
use Rattle.std.specs.Fmt.{decimal}
use Rattle.ls_words.specs.Numbers.{is_digit, value_from}

-- 1 to 9 digits, leading zeros too
abbrev pub are_digits : List ℕ → Bool
are_digits text = nat_le 1 (length text) && nat_le (length text) 9 && list_all is_digit text

-- the number that the digits before the point say
abbrev pub whole_of : List ℕ → Option ℕ
whole_of text = if are_digits text then Some (value_from 0 text) else None

-- the thousandths that the digits behind the point say: the first three count, and those that lack are 0
abbrev pub thousandths_of : List ℕ → Option ℕ
thousandths_of text = if are_digits text then Some (value_from 0 (take 3 (text ++ 48 ∷ 48 ∷ []))) else None

-- the thousandths of a whole part and the part behind the point
abbrev pub joined : Option ℕ → Option ℕ → Option ℕ
joined whole part = option_and_then (λ n. option_map (λ m. 1000 * n + m) part) whole

-- a text of 1 to 9 digits, or one with a point at this place and 1 to 9 digits before it and behind it
abbrev pub milli_at : List ℕ → Option ℕ → Option ℕ
milli_at text None = option_map (λ n. 1000 * n) (whole_of text)
milli_at text (Some at) = joined (whole_of (take at text)) (thousandths_of (drop (at + 1) text))

-- the thousandths that a decimal says
abbrev pub milli_of : List ℕ → Option ℕ
milli_of text = milli_at text (position (λ b. b == 46) text)

-- three digits, without the zeros at the end of the last two
abbrev pub part_text : ℕ → List ℕ
part_text n =
    if n % 100 == 0 then (48 + n / 100) ∷ []
    else if n % 10 == 0 then (48 + n / 100) ∷ (48 + n / 10 % 10) ∷ []
    else (48 + n / 100) ∷ (48 + n / 10 % 10) ∷ (48 + n % 10) ∷ []

-- the decimal of so many thousandths
abbrev pub milli_text : ℕ → List ℕ
milli_text n = decimal (n / 1000) ++ 46 ∷ part_text (n % 1000)
