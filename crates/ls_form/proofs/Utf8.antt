-- A text, where bytes are UTF-8.
use Rattle.std.proofs.Common.{◌≡◌, ℕ, List, true, false, Option, Some, None, refl, IsUtf8, if◌then◌else◌}
use Rattle.std.specs.Str.{is_utf8}
use Rattle.std.proofs.lemmas.Str.{IsUtf8-from_is_utf8, is_utf8-from_IsUtf8}

abbrev pub text_if_utf8 : List ℕ → Option (List ℕ)
text_if_utf8 bs = if is_utf8 bs then Some bs else None

pub is_text : (bs : List ℕ) → IsUtf8 bs → text_if_utf8 bs ≡ Some bs
is_text bs valid = rw (is_utf8-from_IsUtf8 bs valid) refl

pub is_no_text : (bs : List ℕ) → (IsUtf8 bs → ⊥) → text_if_utf8 bs ≡ None
is_no_text bs broken =
    elim (is_utf8 bs) as (λ b. is_utf8 bs ≡ b → (if b then Some bs else None) ≡ None)
    [ true ↦ λ e. absurd (broken (IsUtf8-from_is_utf8 bs e)) | false ↦ λ e. refl ] refl
