-- The text of a frequency is one part of a line: digits and a point, or a word.
use Rattle.std.proofs.Common.{◌≡◌, ◌==◌, ◌<◌, ℕ, zero, suc, ◌+◌, ◌/◌, ◌%◌, List, [], ◌∷◌, refl, ◌∙◌, ap, arith, Bool}
use Rattle.std.proofs.Common.{true, false, Option, None, Some, nat_lt, codes}
use Rattle.std.specs.Fmt.{digit_glyph, digits_onto, digits, decimal}
use Rattle.std.specs.List.{list_all}
use Rattle.std.specs.Str.{IsUtf8}
use Rattle.std.proofs.lemmas.Bool.Decides.{nat_tests}
use Rattle.std.proofs.lemmas.List.Folds.{list_all-append}
use Rattle.ls_form.specs.Decimals.{part_text, milli_text}
use Rattle.ls_line.specs.Lines.{is_text_byte}
use Rattle.ls_record.specs.Lines.{limit_text}
use Rattle.ls_record.proofs.Rules.{cond_rule}
use Rattle.ls_lawful.proofs.Textual.{plain_utf8}

-- of each digit
abbrev OfDigits : (ℕ → Bool) → Type 0
OfDigits p = (n : ℕ) → n < 10 → p (48 + n) ≡ true

glyph_is : (n : ℕ) → n < 10 → digit_glyph false n ≡ 48 + n
glyph_is n h = let t : nat_lt n 10 ≡ true = grind (arith, nat_tests) in rw t refl

onto_all : (p : ℕ → Bool) → OfDigits p → (k n : ℕ) (acc : List ℕ) → list_all p acc ≡ true → list_all p (digits_onto k 10 false n acc) ≡ true
onto_all p d zero n acc h = h
onto_all p d (suc k) n acc h =
    let t : p (digit_glyph false (n % 10)) ≡ true = ap p (glyph_is (n % 10) (omega arith)) ∙ d (n % 10) (omega arith) in
    let more : list_all p (digit_glyph false (n % 10) ∷ acc) ≡ true = rw (t, h) refl in
    cond_rule (λ bytes. list_all p bytes ≡ true) (n / 10 == 0) _ _ (λ e. more) (λ e. onto_all p d k (n / 10) (digit_glyph false (n % 10) ∷ acc) more)

decimal_all : (p : ℕ → Bool) → OfDigits p → (n : ℕ) → list_all p (decimal n) ≡ true
unfolding digits
decimal_all p d n = onto_all p d 64 n [] refl

part_all : (p : ℕ → Bool) → OfDigits p → (n : ℕ) → n < 1000 → list_all p (part_text n) ≡ true
part_all p d n h =
    let a : p (48 + n / 100) ≡ true = d (n / 100) (omega (arith, h)) in
    let b : p (48 + n / 10 % 10) ≡ true = d (n / 10 % 10) (omega arith) in
    let c : p (48 + n % 10) ≡ true = d (n % 10) (omega arith) in
    cond_rule (λ bytes. list_all p bytes ≡ true) (n % 100 == 0) _ _ (λ e. rw a refl)
    (λ e. cond_rule (λ bytes. list_all p bytes ≡ true) (n % 10 == 0) _ _ (λ f. rw (a, b) refl) (λ f. rw (a, b, c) refl))

milli_all : (p : ℕ → Bool) → OfDigits p → p 46 ≡ true → (n : ℕ) → list_all p (milli_text n) ≡ true
milli_all p d point n =
    let a : list_all p (decimal (n / 1000)) ≡ true = decimal_all p d (n / 1000) in
    let b : list_all p (part_text (n % 1000)) ≡ true = part_all p d (n % 1000) (omega arith) in
    let c : list_all p (46 ∷ part_text (n % 1000)) ≡ true = rw (point, b) refl in
    list_all-append p (decimal (n / 1000)) (46 ∷ part_text (n % 1000)) ∙ rw (a, c) refl

-- it is UTF-8, and holds no comma, CR or LF
pub limit_written : (o : Option ℕ) → IsUtf8 (limit_text o) × (list_all is_text_byte (limit_text o) ≡ true)
limit_written None = (plain_utf8 (codes "unlimited") refl, refl)
limit_written (Some n) = (
  plain_utf8 (milli_text n) (milli_all (λ b. nat_lt b 128) (λ m h. grind (arith, nat_tests)) refl n),
  milli_all is_text_byte (λ m h. grind (arith, nat_tests)) refl n,
)
