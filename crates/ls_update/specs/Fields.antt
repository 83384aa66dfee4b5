-- The coded fields of a U line, and the one spelling in which they are written (TLCP 2.1, notification U; the spelling
-- is this project's choice).
use Rattle.std.specs.Prelude.{ℕ, ◌+◌, ◌/◌, ◌%◌, Bool, true, ◌||◌, ◌==◌, nat_lt, nat_le, List, [], ◌∷◌, ◌++◌, replicate}
use Rattle.std.specs.Prelude.{Option, Some, None, if◌then◌else◌}
use Rattle.std.specs.List.{flat_map, join_with_byte}
use Rattle.std.specs.Fmt.{decimal, digit_glyph}
use Rattle.ls_value.specs.Values.{value_eq}
use Rattle.ls_value.specs.declared.row.Value.{Value}
use Rattle.ls_value.specs.declared.row.Value.TheVariants as value

-- escaped wherever it stands: a control byte, `%`, `|` and what is past ASCII
abbrev pub is_escaped : ℕ → Bool
is_escaped b = nat_lt b 32 || nat_le 127 b || b == 37 || b == 124

-- as a value's first byte also `#`, `$` and `^`
abbrev pub is_escaped_first : ℕ → Bool
is_escaped_first b = is_escaped b || b == 35 || b == 36 || b == 94

-- `%` and two upper-case hexadecimal digits
abbrev pub escape : ℕ → List ℕ
escape b = 37 ∷ digit_glyph true (b / 16 % 16) ∷ digit_glyph true (b % 16) ∷ []

-- a byte, escaped where it passes a test
abbrev pub spell : (ℕ → Bool) → ℕ → List ℕ
spell test b = if test b then escape b else b ∷ []

-- a text: `$` where it is empty
abbrev pub spelled_text : List ℕ → List ℕ
spelled_text [] = 36 ∷ []
spelled_text (b ∷ bs) = spell is_escaped_first b ++ flat_map (spell is_escaped) bs

-- a value: `#` where it is null
abbrev pub spelled_value : Value → List ℕ
spelled_value value.Null = 35 ∷ []
spelled_value (value.Text t) = spelled_text t

-- the new value of each field, and none where the field is as in the row before; without a row before each is new
abbrev pub changed_fields : List Value → List Value → List (Option Value)
changed_fields prev [] = []
changed_fields [] (v ∷ row) = Some v ∷ changed_fields [] row
changed_fields (p ∷ prev) (v ∷ row) = (if value_eq p v then None else Some v) ∷ changed_fields prev row

-- the tokens of a longest run of k unchanged fields: up to two are empty tokens, more are `^k`
abbrev pub run_tokens : ℕ → List (List ℕ)
run_tokens k = if nat_le k 2 then replicate k [] else (94 ∷ decimal k) ∷ []

-- the tokens of the fields behind k unchanged ones
abbrev pub tokens_after : ℕ → List (Option Value) → List (List ℕ)
tokens_after k [] = run_tokens k
tokens_after k (None ∷ fields) = tokens_after (k + 1) fields
tokens_after k (Some v ∷ fields) = run_tokens k ++ spelled_value v ∷ tokens_after 0 fields

-- the row that a row is coded against
abbrev pub coded_against : Option (List Value) → List Value
coded_against None = []
coded_against (Some prev) = prev

-- the written spelling of a row after another row, or without one
abbrev pub spelled : Option (List Value) → List Value → List ℕ
spelled prev row = join_with_byte 124 (tokens_after 0 (changed_fields (coded_against prev) row))
