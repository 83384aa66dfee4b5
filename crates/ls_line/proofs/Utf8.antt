-- The test of UTF-8.
use Rattle.std.proofs.Common.{◌≡◌, ℕ, List, Bool, true, false, refl, sym}
use Rattle.std.specs.Str.{IsUtf8, is_utf8}
use Rattle.std.proofs.lemmas.Str.{IsUtf8-from_is_utf8, is_utf8-from_IsUtf8}

pub utf8_true : (bytes : List ℕ) → IsUtf8 bytes → true ≡ is_utf8 bytes
utf8_true bytes h = sym (is_utf8-from_IsUtf8 bytes h)

pub utf8_false : (bytes : List ℕ) → (IsUtf8 bytes → ⊥) → false ≡ is_utf8 bytes
utf8_false bytes h = by_test (is_utf8 bytes) refl
  where
    by_test : (v : Bool) → is_utf8 bytes ≡ v → false ≡ v
    by_test true t = absurd (h (IsUtf8-from_is_utf8 bytes t))
    by_test false t = refl
