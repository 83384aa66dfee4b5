-- Numbers of fields, from their digits and back.
use Rattle.std.proofs.Common.{◌≡◌, ◌≢◌, ℕ, zero, suc, ◌^◌, ◌<◌, ◌≤◌, List, [], ◌∷◌, length, get_or, sym, ◌∙◌, subst}
use Rattle.std.proofs.Common.{arith, IsUtf8, Result, Ok, lit<}
use Rattle.std.specs.Result.{OkIff}
use Rattle.std.specs.Fmt.{decimal}
use Rattle.std.specs.Str.Parse.{AllDigits, digits_value, ParsesUnsigned}
use Rattle.std.proofs.lemmas.Fmt.{decimal-digits_value, first_decimal, IsAscii-decimal, parse-decimal, decimal_digit}
use Rattle.std.proofs.lemmas.Fmt.{decimal_nonempty}
use Rattle.std.proofs.lemmas.Str.{IsUtf8-from_ascii}
use Rattle.std.proofs.lemmas.Str.Parse.{IsNumeralModel, numerals_by_value, tells_digits, parse_plain}

own : IsNumeralModel (AllDigits 10) (digits_value 10)
own = numerals_by_value (AllDigits 10) tells_digits

-- the digits of a number of fields are a text
pub decimal_text : (k : ℕ) → k < 2 ^ 64 → IsUtf8 (decimal k)
decimal_text k small = IsUtf8-from_ascii (decimal k) (IsAscii-decimal k small)

-- digits without a leading zero are those of their value
pub digits_said : (ds : List ℕ) → AllDigits 10 ds → 0 < length ds → get_or ds 0 0 ≢ 48 → digits_value 10 ds < 2 ^ 64
    → decimal (digits_value 10 ds) ≡ ds
digits_said ds all some first small = decimal-digits_value own ds all some (λ e. absurd (first e)) small

-- the number that was parsed is the one that the digits say
pub parsed : {E : Type 0} (ds : List ℕ) (k : ℕ) (r : Result ℕ E) → ParsesUnsigned 64 10 ds r → r ≡ Ok k
    → 48 < get_or ds 0 0 → (1 ≤ k) × (ds ≡ decimal k)
parsed ds k r h ok first =
    let plain : OkIff r (AllDigits 10 ds × (0 < length ds) × (digits_value 10 ds < 2 ^ 64)) (digits_value 10 ds) =
    parse_plain own 64 ds r h (λ e. absurd (omega (arith, e, first))) in
    let is : (AllDigits 10 ds × (0 < length ds) × (digits_value 10 ds < 2 ^ 64)) × (k ≡ digits_value 10 ds) =
    rw ok at plain in
    let same : decimal (digits_value 10 ds) ≡ ds = digits_said ds is.0.0 is.0.1 (λ e. absurd (omega (arith, e, first)))
    is.0.2 in
    let whole : ds ≡ decimal k = rw is.1 (sym same) in
    (some k ds whole first, whole)
  where
    some : (k : ℕ) (ds : List ℕ) → ds ≡ decimal k → 48 < get_or ds 0 0 → 1 ≤ k
    some zero ds whole first = absurd (let z : ds ≡ 48 ∷ [] =
        whole ∙ decimal_digit 0 (lit< tt) in let
        f : 48 < get_or (48 ∷ []) 0 0 =
        subst (λ (x : List ℕ). 48 < get_or x 0 0) z first in omega
        (arith, f))
    some (suc k) ds whole first = omega arith

-- and digits that say a number are parsed
pub parses : {E : Type 0} (ds : List ℕ) (k : ℕ) (r : Result ℕ E) → ParsesUnsigned 64 10 ds r → k < 2 ^ 64
    → ds ≡ decimal k → r ≡ Ok k
parses ds k r h small is = parse-decimal 64 k ds r small small is h

-- the first digit of a number from 1
pub leading : (ds : List ℕ) (k : ℕ) → 1 ≤ k → k < 2 ^ 64 → ds ≡ decimal k → (0 < length ds) × (48 < get_or ds 0 0)
leading ds k some small is = rw is (decimal_nonempty k small, first_decimal k some small)
