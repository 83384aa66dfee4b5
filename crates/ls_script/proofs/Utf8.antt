-- UTF-8 of words, and of names with spaces for commas.
use Rattle.std.proofs.Common.{◌≡◌, ◌==◌, ◌<◌, ℕ, suc, ◌+◌, List, [], ◌∷◌, ◌++◌, length, drop, get_or, Bool, true, false}
use Rattle.std.proofs.Common.{cond, refl, sym, subst, arith}
use Rattle.std.proofs.Math.Seq.{take-append_seam, get_or-append_seam}
use Rattle.std.proofs.lemmas.Bool.Decides.{nat_tests}
use Rattle.std.proofs.lemmas.List.{length-append, append_assoc}
use Rattle.std.proofs.lemmas.Str.{IsUtf8-from_is_utf8, is_utf8-from_IsUtf8, IsUtf8-append, IsUtf8-take, IsUtf8-drop}
use Rattle.std.proofs.lemmas.Str.{IsUtf8-from_ascii, IsCharBoundary-after_ascii}
use Rattle.std.proofs.lemmas.Str.Ascii.{IsAscii-nil, IsAscii-cons}
use Rattle.std.specs.Str.{IsUtf8, is_utf8}
use Rattle.ls_step.specs.Adding.{spaced}

pub utf8_true : (bs : List ℕ) → IsUtf8 bs → true ≡ is_utf8 bs
utf8_true bs valid = sym (is_utf8-from_IsUtf8 bs valid)

pub utf8_false : (bs : List ℕ) → (IsUtf8 bs → ⊥) → false ≡ is_utf8 bs
utf8_false bs broken = by_test (is_utf8 bs) refl
  where
    by_test : (v : Bool) → is_utf8 bs ≡ v → false ≡ v
    by_test true e = absurd (broken (IsUtf8-from_is_utf8 bs e))
    by_test false e = refl

past : (front rest : List ℕ) (b : ℕ) → drop (length front + 1) (front ++ b ∷ rest) ≡ rest
past [] rest b = refl
past (f ∷ front) rest b = let n : length (f ∷ front) + 1 ≡ suc (length front + 1) =
    omega arith in rw n (past front rest b)

-- a text that an ASCII byte divides
before_ascii : (front rest : List ℕ) (b : ℕ) → b < 128 → IsUtf8 (front ++ b ∷ rest) → IsUtf8 front
before_ascii front rest b low valid =
    let n = length-append front (b ∷ rest) in
    let at : get_or (front ++ b ∷ rest) (length front) 0 ≡ b = get_or-append_seam front b rest 0 in
    subst IsUtf8 (take-append_seam front (b ∷ rest)) (IsUtf8-take (front ++ b ∷ rest) (length front) valid
    (omega (arith, n), λ inside high. absurd (omega (arith, at, high, low))))

behind_ascii : (front rest : List ℕ) (b : ℕ) → b < 128 → IsUtf8 (front ++ b ∷ rest) → IsUtf8 rest
behind_ascii front rest b low valid =
    let n = length-append front (b ∷ rest) in
    let at : get_or (front ++ b ∷ rest) (length front) 0 ≡ b = get_or-append_seam front b rest 0 in
    let inside : length front < length (front ++ b ∷ rest) = omega (arith, n) in
    let small : get_or (front ++ b ∷ rest) (length front) 0 < 128 = omega (arith, at, low) in
    subst IsUtf8 (past front rest b) (IsUtf8-drop (front ++ b ∷ rest) (length front + 1) valid
    (IsCharBoundary-after_ascii (front ++ b ∷ rest) (length front) valid inside small))

one_ascii : (b : ℕ) → b < 128 → IsUtf8 (b ∷ [])
one_ascii b low = IsUtf8-from_ascii (b ∷ []) (IsAscii-cons b [] low IsAscii-nil)

-- another ASCII byte in its place
other_ascii : (front rest : List ℕ) (b c : ℕ) → b < 128 → c < 128 → IsUtf8 (front ++ b ∷ rest)
    → IsUtf8 ((front ++ c ∷ []) ++ rest)
other_ascii front rest b c low small valid =
    IsUtf8-append (front ++ c ∷ []) rest (IsUtf8-append front (c ∷ []) (before_ascii front rest b low valid)
    (one_ascii c small)) (behind_ascii front rest b low valid)

spaced_behind : (front bs : List ℕ) → IsUtf8 (front ++ bs) → IsUtf8 (front ++ spaced bs)
spaced_behind front [] valid = valid
spaced_behind front (b ∷ bs) valid = by_test (b == 44) refl (λ c h. spaced_behind (front ++ c ∷ []) bs h)
  where
    by_test : (v : Bool) → (b == 44) ≡ v → ((c : ℕ) → IsUtf8 ((front ++ c ∷ []) ++ bs)
        → IsUtf8 ((front ++ c ∷ []) ++ spaced bs)) → IsUtf8 (front ++ cond v 32 b ∷ spaced bs)
    by_test true e more =
        let is : b ≡ 44 = grind (arith, nat_tests, e) in
        subst IsUtf8 (append_assoc front (32 ∷ []) (spaced bs))
        (more 32 (other_ascii front bs b 32 (omega (arith, is)) (omega arith) valid))
    by_test false e more = subst IsUtf8 (append_assoc front (b ∷ []) (spaced bs))
        (more b (subst IsUtf8 (sym (append_assoc front (b ∷ []) bs)) valid))

-- spaces for commas
pub spaced_utf8 : (bs : List ℕ) → is_utf8 bs ≡ true → is_utf8 (spaced bs) ≡ true
spaced_utf8 bs h = is_utf8-from_IsUtf8 (spaced bs) (spaced_behind [] bs (IsUtf8-from_is_utf8 bs h))
