-- The texts of a session's numbered lines.
use Rattle.std.proofs.Common.{◌≡◌, ◌==◌, ℕ, suc, ◌+◌, List, [], ◌∷◌, ◌++◌, length, nat_lt, refl, sym, ◌∙◌, ap, arith, cond, true}
use Rattle.std.proofs.lemmas.Bool.{lt-ltb}
use Rattle.ls_record.specs.Lines.{Line, line_text, texts, text_at, texts_behind}
use Rattle.ls_told.specs.Spoken.{text_in, in_order}

pub length_texts : (lines : List Line) → length (texts lines) ≡ length lines
length_texts [] = refl
length_texts (l ∷ lines) = ap suc (length_texts lines)

-- the text of a number is that of the line
pub text_is : (lines : List Line) (n : ℕ) → text_at lines n ≡ text_in (texts lines) n
text_is [] n = refl
text_is (l ∷ lines) n =
    ap (λ k. cond (n == k + 1) (line_text lines l) (text_at lines n)) (sym (length_texts lines))
    ∙ ap (λ t. cond (n == length (texts lines) + 1) (line_text lines l) t) (text_is lines n)

-- and all of them in order
pub in_order_is : (lines : List Line) → texts_behind 0 lines ≡ in_order (texts lines)
in_order_is [] = refl
in_order_is (l ∷ lines) =
    let first : nat_lt 0 (length lines + 1) ≡ true = lt-ltb 0 (length lines + 1) (omega arith) in
    ap (λ b. cond b (texts_behind 0 lines ++ line_text lines l ∷ []) []) first ∙ ap (λ ts. ts ++ line_text lines l ∷ []) (in_order_is lines)
