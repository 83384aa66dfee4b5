-- A line's end keeps UTF-8.
use Rattle.std.proofs.Common.{◌≡◌, List, ℕ, [], ◌∷◌, refl, sym, subst}
use Rattle.std.specs.Str.{IsUtf8}
use Rattle.std.proofs.lemmas.Str.{IsUtf8-append}
use Rattle.ls_talk.specs.Lines.{line_bytes}

pub line_is_utf8 : (text bytes : List ℕ) → IsUtf8 text → bytes ≡ line_bytes text → IsUtf8 bytes
unfolding lib.Utf8.encode
line_is_utf8 text bytes is same =
    subst IsUtf8 (sym same) (IsUtf8-append text (13 ∷ 10 ∷ []) is (13 ∷ 10 ∷ [], (refl, refl)))
