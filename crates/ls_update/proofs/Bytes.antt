-- The bytes of tokens as they are written: no divider is among them, and a text is read back.
use Rattle.std.proofs.Common.{◌≡◌, ℕ, ◌+◌, ◌/◌, ◌%◌, ◌<◌, ◌^◌, Bool, true, false, ◌||◌, ◌==◌, nat_lt, nat_le, ltb, List}
use Rattle.std.proofs.Common.{[], ◌∷◌, ◌++◌, sym, refl, ap, ◌∙◌, subst, All, arith, append-nil, IsUtf8, ⊎_elim}
use Rattle.std.proofs.lemmas.Bool.{cond_both, cases_Bool, both_ways, and_parts}
use Rattle.std.proofs.lemmas.Bool.Decides.{nat_tests}
use Rattle.std.proofs.lemmas.Fmt.{decimal_by_steps}
use Rattle.std.proofs.lemmas.List.Elements.{All-nil, All-cons, All-head, All-tail, All-append}
use Rattle.std.specs.Fmt.{decimal}
use Rattle.percent_encoding.specs.AsciiSet.{should_percent_encode}
use Rattle.percent_encoding.specs.Percent.{percent_encode, percent_encode_byte, percent_decode}
use Rattle.percent_encoding.proofs.PercentLemmas.{IsByte, IsEscapeByte, All-percent_encode, round_trip}
use Rattle.percent_encoding.proofs.PercentLemmas.{percent_encode-nil, percent_encode_escaped, percent_encode_kept}
use Rattle.percent_encoding.proofs.PercentLemmas.{percent_decode-percent_encode_byte, percent_decode_not_percent}
use Rattle.percent_encoding.proofs.AsciiSetLemmas.{escaped_from_inside}
use Rattle.ls_update.specs.declared.writing.TheConstants.{ESCAPED, ESCAPED_FIRST}
use Rattle.ls_update.specs.Fields.{is_escaped, is_escaped_first, spelled_text}
use Rattle.ls_update.specs.Reading.{says_text}
use Rattle.ls_update.proofs.Sets.{spelled_text-parts, escaped, escaped_first}
use lib.Utf8.{encode, encodes, next, scalar, scalars}

-- the bytes of UTF-8 are bytes
next_small : (x : ℕ) → next x < 256
next_small x = omega arith

bytes_of_char : (c : ℕ) → scalar c ≡ true → All IsByte (encode c)
unfolding encode
bytes_of_char c is =
    let low : c < 1114112 = grind (arith, nat_tests) in
    let last = All-cons IsByte (next c) [] (next_small c) (All-nil IsByte) in
    let middle = All-cons IsByte (next (c / 64)) (next c ∷ []) (next_small (c / 64)) last in
    let three = All-cons IsByte (next (c / 4096)) (next (c / 64) ∷ next c ∷ []) (next_small (c / 4096)) middle in
    cond_both (ltb c 128) (c ∷ []) _ (All IsByte) (λ e. All-cons IsByte c [] (grind (arith, nat_tests))
    (All-nil IsByte)) (λ e.
    cond_both (ltb c 2048) ((192 + c / 64) ∷ next c ∷ []) _ (All IsByte)
    (λ f. All-cons IsByte (192 + c / 64) (next c ∷ []) (grind (arith, nat_tests)) last) (λ f.
    cond_both (ltb c 65536) ((224 + c / 4096) ∷ next (c / 64) ∷ next c ∷ [])
    ((240 + c / 262144) ∷ next (c / 4096) ∷ next (c / 64) ∷ next c ∷ []) (All IsByte)
    (λ g. All-cons IsByte (224 + c / 4096) (next (c / 64) ∷ next c ∷ []) (grind (arith, nat_tests)) middle)
    (λ g. All-cons IsByte (240 + c / 262144) (next (c / 4096) ∷ next (c / 64) ∷ next c ∷ []) (omega (arith, low))
    three)))

bytes_of_chars : (cs : List ℕ) → scalars cs ≡ true → All IsByte (encodes cs)
bytes_of_chars [] is = All-nil IsByte
bytes_of_chars (c ∷ cs) is =
    let parts = and_parts _ _ is in
    All-append IsByte (encode c) (encodes cs) (bytes_of_char c parts.0) (bytes_of_chars cs parts.1)

pub bytes_of_text : (bs : List ℕ) → IsUtf8 bs → All IsByte bs
bytes_of_text bs (cs, is) = subst (All IsByte) is.1 (bytes_of_chars cs is.0)

-- a byte that is no divider
abbrev pub IsPlain : ℕ → Type 0
IsPlain b = (b == 124) ≡ false

plain_decimal : (k : ℕ) → k < 2 ^ 64 → All IsPlain (decimal k)
plain_decimal k small =
    decimal_by_steps (λ n ds. All IsPlain ds)
    (λ n few. All-cons IsPlain (48 + n) [] (grind (arith, nat_tests)) (All-nil IsPlain))
    (λ n ds some h. All-append IsPlain ds ((48 + n % 10) ∷ []) h
    (All-cons IsPlain (48 + n % 10) [] (let m : n % 10 < 10 = omega arith in grind (arith, nat_tests))
    (All-nil IsPlain)))
    k small

pub plain_run : (k : ℕ) → k < 2 ^ 64 → All IsPlain (94 ∷ decimal k)
plain_run k small = All-cons IsPlain 94 (decimal k) refl (plain_decimal k small)

plain_escape : (b : ℕ) → IsEscapeByte b → IsPlain b
plain_escape b h = grind (arith, nat_tests)

plain_kept : (b : ℕ) → is_escaped b ≡ false → IsPlain b
plain_kept b kept = by_tests (nat_lt b 32) (nat_le 127 b) (b == 37) (b == 124) kept
  where
    by_tests : (w x y z : Bool) → (w || x || y || z) ≡ false → z ≡ false
    by_tests true x y z h = cc
    by_tests false true y z h = cc
    by_tests false false true z h = cc
    by_tests false false false z h = h

first_parts : (b : ℕ) → is_escaped_first b ≡ false → (is_escaped b ≡ false) × ((b == 35) ≡ false) × ((b == 36) ≡ false)
    × ((b == 94) ≡ false)
first_parts b kept = by_tests (is_escaped b) (b == 35) (b == 36) (b == 94) kept
  where
    by_tests : (w x y z : Bool) → (w || x || y || z) ≡ false → (w ≡ false) × (x ≡ false) × (y ≡ false) × (z ≡ false)
    by_tests true x y z h = absurd (let e : true ≡ false = h in cc)
    by_tests false true y z h = absurd (let e : true ≡ false = h in cc)
    by_tests false false true z h = absurd (let e : true ≡ false = h in cc)
    by_tests false false false z h = (refl, refl, refl, h)

-- a written text holds no divider
pub plain_text : (t : List ℕ) → All IsPlain (spelled_text t)
plain_text [] = All-cons IsPlain 36 [] refl (All-nil IsPlain)
plain_text (b ∷ bs) =
    rw (spelled_text-parts (b ∷ bs) (b ∷ []) bs refl refl)
    (All-append IsPlain (percent_encode ESCAPED_FIRST (b ∷ [])) (percent_encode ESCAPED bs)
    (All-percent_encode IsPlain ESCAPED_FIRST (b ∷ []) (λ c kept. plain_kept c
    (first_parts c (sym (escaped_first c) ∙ kept)).0) plain_escape)
    (All-percent_encode IsPlain ESCAPED bs (λ c kept. plain_kept c (sym (escaped c) ∙ kept)) plain_escape))

-- a written text is read back
first_back : (b : ℕ) (rest : List ℕ) → b < 256 → percent_decode (percent_encode ESCAPED_FIRST (b ∷ []) ++ rest) ≡ b
    ∷ percent_decode rest
first_back b rest small =
    ⊎_elim
    (λ e. ap (λ (x : List ℕ). percent_decode (x ++ rest)) (percent_encode_escaped ESCAPED_FIRST b [] e
    ∙ ap (λ (x : List ℕ). percent_encode_byte b ++ x) (percent_encode-nil ESCAPED_FIRST)
    ∙ append-nil (percent_encode_byte b)) ∙ percent_decode-percent_encode_byte b rest small)
    (λ e. ap (λ (x : List ℕ). percent_decode (x ++ rest)) (percent_encode_kept ESCAPED_FIRST b [] e
    ∙ ap (λ (x : List ℕ). b ∷ x) (percent_encode-nil ESCAPED_FIRST))
    ∙ percent_decode_not_percent b rest (λ percent. both_ways _ e
    (rw percent (escaped_from_inside ESCAPED_FIRST 37 refl))))
    (cases_Bool (should_percent_encode ESCAPED_FIRST b))

pub text_back : (b : ℕ) (bs : List ℕ) → All IsByte (b ∷ bs) → percent_decode (spelled_text (b ∷ bs)) ≡ b ∷ bs
text_back b bs small =
    ap percent_decode (spelled_text-parts (b ∷ bs) (b ∷ []) bs refl refl)
    ∙ first_back b (percent_encode ESCAPED bs) (All-head IsByte b bs small)
    ∙ ap (λ (x : List ℕ). b ∷ x) (round_trip ESCAPED bs refl (All-tail IsByte b bs small))

-- and its token says a text
says_plain : (b : ℕ) (bs : List ℕ) → (b == 35) ≡ false → (b == 36) ≡ false → (b == 94) ≡ false
    → says_text (b ∷ bs) ≡ true
says_plain b [] x y z = rw (x, y, z) refl
says_plain b (c ∷ bs) x y z = rw z refl

pub says_spelled : (b : ℕ) (bs : List ℕ) → says_text (spelled_text (b ∷ bs)) ≡ true
says_spelled b bs =
    ⊎_elim
    (λ e. rw e refl)
    (λ e. let p = first_parts b e in rw e (says_plain b _ p.1 p.2 p.3))
    (cases_Bool (is_escaped_first b))
