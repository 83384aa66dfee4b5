-- A decimal of thousandths is a text.
use Rattle.std.proofs.Common.{◌==◌, ℕ, ◌+◌, ◌/◌, ◌%◌, ◌<◌, ◌^◌, ◌∷◌, [], arith, cond, Bool, true, false, IsUtf8}
use Rattle.std.specs.Str.{IsAscii}
use Rattle.std.specs.Fmt.{decimal}
use Rattle.std.proofs.lemmas.Fmt.{IsAscii-decimal}
use Rattle.std.proofs.lemmas.Str.{IsAscii-append, IsUtf8-from_ascii}
use Rattle.std.proofs.lemmas.Str.Ascii.{IsAscii-nil, IsAscii-cons}
use Rattle.ls_form.specs.Decimals.{part_text, milli_text}

part_ascii : (n : ℕ) → n < 1000 → IsAscii (part_text n)
part_ascii n low = by_test (n % 100 == 0) (n % 10 == 0)
  where
    by_test : (a b : Bool) → IsAscii (cond a ((48 + n / 100) ∷ []) (cond b ((48 + n / 100) ∷ (48 + n / 10 % 10) ∷ [])
        ((48 + n / 100) ∷ (48 + n / 10 % 10) ∷ (48 + n % 10) ∷ [])))
    by_test true b = IsAscii-cons (48 + n / 100) [] (omega (arith, low)) IsAscii-nil
    by_test false true = IsAscii-cons (48 + n / 100) ((48 + n / 10 % 10) ∷ []) (omega (arith, low))
        (IsAscii-cons (48 + n / 10 % 10) [] (omega arith) IsAscii-nil)
    by_test false false = IsAscii-cons (48 + n / 100) ((48 + n / 10 % 10) ∷ (48 + n % 10) ∷ []) (omega (arith, low))
        (IsAscii-cons (48 + n / 10 % 10) ((48 + n % 10) ∷ []) (omega arith) (IsAscii-cons (48 + n % 10) [] (omega arith) IsAscii-nil))

pub milli_utf8 : (n : ℕ) → n < 2 ^ 64 → IsUtf8 (milli_text n)
milli_utf8 n low = IsUtf8-from_ascii (milli_text n) (IsAscii-append (decimal (n / 1000)) (46 ∷ part_text (n % 1000))
    (IsAscii-decimal (n / 1000) (omega (arith, low))) (IsAscii-cons 46 (part_text (n % 1000)) (omega arith) (part_ascii (n % 1000) (omega arith))))
