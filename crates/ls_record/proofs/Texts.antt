-- The texts of numbered lines, the first one first.
use Rattle.std.proofs.Common.{◌≡◌, ◌==◌, ◌≤◌, ℕ, ◌+◌, ◌-◌, List, [], ◌∷◌, ◌++◌, length, get_or, Bool, true, false}
use Rattle.std.proofs.Common.{refl, sym, ◌∙◌, ap, arith, cond, length-append}
use Rattle.std.proofs.lemmas.Bool.{lt-ltb, eqb-true, eqb-false}
use Rattle.std.proofs.lemmas.List.{get_or_append_left}
use Rattle.std.proofs.lemmas.Option.{unwrap_or-slice_get}
use Rattle.std.proofs.Math.Seq.{get_or-append_seam}
use Rattle.ls_keep.specs.Kept.{text_of}
use Rattle.ls_record.specs.Lines.{Line, line_text, text_at, texts_behind}

-- a line that is numbered stands behind them
pub texts_step : (l : Line) (lines : List Line) → texts_behind 0 (l ∷ lines) ≡ texts_behind 0 lines ++ line_text lines l ∷ []
texts_step l lines = ap (λ v. cond v (texts_behind 0 lines ++ line_text lines l ∷ []) []) (lt-ltb 0 (length lines + 1) (omega arith))

-- there is one for each line
pub texts_length : (lines : List Line) → length (texts_behind 0 lines) ≡ length lines
texts_length [] = refl
texts_length (l ∷ lines) =
    omega (
      arith,
      ap length (texts_step l lines),
      length-append (texts_behind 0 lines) (line_text lines l ∷ []),
      texts_length lines,
    )

text_of_is : (texts : List (List ℕ)) (n : ℕ) → text_of texts n ≡ get_or texts (n - 1) []
text_of_is texts n = unwrap_or-slice_get texts (n - 1) []

text_of_last : (texts : List (List ℕ)) (text : List ℕ) (n : ℕ) → n ≡ length texts + 1 → text ≡ text_of (texts ++ text ∷ []) n
text_of_last texts text n is =
    sym (text_of_is (texts ++ text ∷ []) n ∙ ap (λ (m : ℕ). get_or (texts ++ text ∷ []) m []) {x = n - 1} {y = length texts} (omega (arith, is))
    ∙ get_or-append_seam texts text [] [])

text_of_other : (texts more : List (List ℕ)) (n : ℕ) → 1 ≤ n → n ≤ length texts → text_of texts n ≡ text_of (texts ++ more) n
text_of_other texts more n from to =
    text_of_is texts n ∙ sym (text_of_is (texts ++ more) n ∙ get_or_append_left texts more [] (n - 1) (omega (arith, from, to)))

-- and it is that of the line of its number
pub text_at_is : (lines : List Line) (n : ℕ) → 1 ≤ n → n ≤ length lines → text_at lines n ≡ text_of (texts_behind 0 lines) n
text_at_is [] n from to = absurd (omega (arith, from, to))
text_at_is (l ∷ lines) n from to = by_test (n == length lines + 1) refl (text_at_is lines n from) ∙ ap (λ ts. text_of ts n) (sym (texts_step l lines))
  where
    by_test : (v : Bool) → (n == length lines + 1) ≡ v → (n ≤ length lines → text_at lines n ≡ text_of (texts_behind 0 lines) n)
        → cond v (line_text lines l) (text_at lines n) ≡ text_of (texts_behind 0 lines ++ line_text lines l ∷ []) n
    by_test true t more =
        text_of_last (texts_behind 0 lines) (line_text lines l) n (omega (arith, eqb-true n (length lines + 1) t, texts_length lines))
    by_test false t more =
        let low : n ≤ length lines = omega (arith, to, eqb-false n (length lines + 1) t) in
        more low ∙ text_of_other (texts_behind 0 lines) (line_text lines l ∷ []) n from (omega (arith, low, texts_length lines))
