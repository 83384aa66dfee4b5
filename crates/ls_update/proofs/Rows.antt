-- Rows that were worked by hand, from outside.
use Rattle.std.proofs.Common.{◌≡◌, ℕ, zero, suc, ◌≤◌, List, [], ◌∷◌, refl, ap, arith, get_or, true, codes, Some, None}
use Rattle.std.specs.Fmt.{decimal, digits}
use Rattle.std.proofs.lemmas.Str.{is_utf8-from_IsUtf8}
use Rattle.percent_encoding.specs.Percent.{percent_decode}
use Rattle.std.specs.Str.{is_utf8, chars}
use Rattle.std.specs.Char.{encode_utf8}
use lib.Utf8.{encode}
use Rattle.ls_value.specs.Values.{nulls}
use Rattle.ls_value.specs.declared.row.Value.{Value}
use Rattle.ls_value.specs.declared.row.Value.TheVariants as value
use Rattle.ls_update.specs.declared.reading.ReadRefused.TheVariants as refused
use Rattle.ls_update.specs.Fields.{spelled}
use Rattle.ls_update.specs.Reading.{unchanged, run, text, Reads, FirstFault, tokens_of}

abbrev said : List ℕ → Value
said t = value.Text t

-- ten fields, of which the first three changed
ten_fields : spelled
    (Some (said (codes "20:04:16") ∷ said (codes "3.02") ∷ said (codes "-0.65") ∷ said (codes "2.41")
    ∷ said (codes "3.67") ∷ said (codes "3.01") ∷ said (codes "3.02") ∷ value.Null ∷ value.Null ∷ said [] ∷ []))
    (said (codes "20:06:10") ∷ said (codes "3.05") ∷ said (codes "0.32") ∷ said (codes "2.41") ∷ said (codes "3.67")
    ∷ said (codes "3.01") ∷ said (codes "3.02") ∷ value.Null ∷ value.Null ∷ said [] ∷ [])
    ≡ codes "20:06:10|3.05|0.32|^7"
unfolding digits
ten_fields = refl

-- two and three unchanged fields alone
two_unchanged : spelled (Some (said (codes "p") ∷ value.Null ∷ [])) (said (codes "p") ∷ value.Null ∷ []) ≡ codes "|"
two_unchanged = refl

three_unchanged : spelled (Some (said (codes "p") ∷ value.Null ∷ said [] ∷ []))
    (said (codes "p") ∷ value.Null ∷ said [] ∷ []) ≡ codes "^3"
unfolding digits
three_unchanged = refl

-- what is escaped, without a row before
escaped_values : spelled None (said (codes "#") ∷ said (codes "$x") ∷ said (codes "^2") ∷ said [] ∷ value.Null
    ∷ said (codes "a|b%") ∷ said (195 ∷ 169 ∷ []) ∷ []) ≡ codes "%23|%24x|%5E2|$|#|a%7Cb%25|%C3%A9"
escaped_values = refl

-- two tokens for three fields
two_for_three : FirstFault (nulls 3) (tokens_of (codes "a|b")) (refused.TooFew 2)
unfolding percent_decode encode
two_for_three = record {
  row = said (codes "a") ∷ said (codes "b") ∷ [];
  few = omega arith;
  before = (
    1,
    omega arith,
    text refl refl (codes "a", (refl, refl)) refl,
    (1, omega arith, text refl refl (codes "b", (refl, refl)) refl, (refl, refl)),
  );
}

-- three tokens for two fields
three_for_two : FirstFault (nulls 2) (tokens_of (codes "a|b|c")) (refused.TooMany 3)
unfolding percent_decode encode
three_for_two = record {
  behind = 2;
  fields = 2;
  row = said (codes "a") ∷ said (codes "b") ∷ [];
  stands = omega arith;
  within = omega arith;
  before = (
    1,
    omega arith,
    text refl refl (codes "a", (refl, refl)) refl,
    (1, omega arith, text refl refl (codes "b", (refl, refl)) refl, (refl, refl)),
  );
  is = (refl, refl);
}

-- a run of four where three fields are left
no_four : (k : ℕ) → 1 ≤ k → k ≤ 3 → codes "^4" ≡ 94 ∷ decimal k → ⊥
unfolding digits
no_four zero some few is = absurd (omega (arith, some))
no_four (suc zero) some few is = absurd (let e : 52 ≡ 49 = ap (λ ds. get_or ds 1 0) is in omega (arith, e))
no_four (suc (suc zero)) some few is = absurd (let e : 52 ≡ 50 = ap (λ ds. get_or ds 1 0) is in omega (arith, e))
no_four (suc (suc (suc zero))) some few is = absurd (let e : 52 ≡ 51 = ap (λ ds. get_or ds 1 0) is in omega (arith, e))
no_four (suc (suc (suc (suc k)))) some few is = absurd (omega (arith, few))

four_of_three : FirstFault (nulls 3) (tokens_of (codes "^4")) (refused.BadRun 1)
four_of_three = record {
  behind = 0;
  fields = 0;
  row = [];
  stands = omega arith;
  within = omega arith;
  before =
      (refl, refl);
  is = (refl, omega arith, refl, no_four);
}

-- a byte that begins a character and is followed by none
half_character : FirstFault (nulls 1) (tokens_of (codes "%C3")) (refused.BadText 1)
unfolding percent_decode is_utf8 chars encode_utf8
half_character = record {
  behind = 0;
  fields = 0;
  row = [];
  stands = omega arith;
  within = omega arith;
  before = (refl, refl);
  is = (
    refl,
    omega arith,
    refl,
    λ u. absurd (let e : is_utf8 (195 ∷ []) ≡ true =
        is_utf8-from_IsUtf8 (195 ∷ []) u in cc),
  );
}

-- a `%` without two hexadecimal digits behind it
bare_percent : Reads (nulls 1) (tokens_of (codes "100%")) (said (codes "100%") ∷ [])
unfolding percent_decode encode
bare_percent = (1, omega arith, text refl refl (codes "100%", (refl, refl)) refl, (refl, refl))

-- two spellings of a row after another
abbrev three : List Value
three = said (codes "p") ∷ said (codes "q") ∷ said (codes "r") ∷ []

abbrev last_changed : List Value
last_changed = said (codes "p") ∷ said (codes "q") ∷ said (codes "z") ∷ []

by_empty_tokens : Reads three (tokens_of (codes "||z")) last_changed
unfolding percent_decode encode
by_empty_tokens = (
  1,
  omega arith,
  unchanged refl refl refl,
  (
    1,
    omega arith,
    unchanged refl refl refl,
    (1, omega arith, text refl refl (codes "z", (refl, refl)) refl, (refl, refl)),
  ),
)

by_run : Reads three (tokens_of (codes "^2|z")) last_changed
unfolding percent_decode encode digits
by_run = (
  2,
  omega arith,
  run (omega arith) refl refl,
  (
    1,
    omega arith,
    text refl refl (codes "z", (refl, refl)) refl,
    (refl, refl),
  ),
)
