-- Texts that end in a line end, and texts that don't.
use Rattle.std.proofs.Common.{◌≡◌, ◌≢◌, ℕ, ◌+◌, ◌==◌, length, arith, List, [], ◌∷◌, ◌++◌, Bool, true, false, refl, ap, ◌∙◌, if◌then◌else◌}
use Rattle.std.proofs.lemmas.List.Splits.{length-slice_split}
use Rattle.std.proofs.lemmas.Bool.{and_left, and_right, ne_eqb}
use Rattle.ls_words.specs.Words.{divided}
use Rattle.ls_conn_http.specs.Bodies.{as_lines, is_line_end, lines_in, without_end}

-- a byte stays from which on there is more than a line end
kept : (x : ℕ) (xs : List ℕ) → is_line_end (x ∷ xs) ≡ false → without_end (x ∷ xs) ≡ x ∷ without_end xs
kept x xs e = ap (λ (b : Bool). if b then [] else x ∷ without_end xs) e

-- three bytes are more
three : (x y : ℕ) (xs : List ℕ) (z : ℕ) → is_line_end (x ∷ y ∷ (xs ++ z ∷ [])) ≡ false
three x y [] z = refl
three x y (w ∷ xs) z = refl

-- CR LF is taken off
pub crlf_off : (front : List ℕ) → without_end ((front ++ 13 ∷ []) ++ 10 ∷ []) ≡ front
crlf_off [] = refl
crlf_off (x ∷ []) = refl
crlf_off (x ∷ y ∷ front) =
    kept x (y ∷ ((front ++ 13 ∷ []) ++ 10 ∷ [])) (three x y (front ++ 13 ∷ []) 10) ∙ ap (λ (xs : List ℕ). x ∷ xs) (crlf_off (y ∷ front))

-- LF is taken off, and no more where no CR is before it
pub lf_off : (text : List ℕ) → ((front : List ℕ) → text ≢ front ++ 13 ∷ []) → without_end (text ++ 10 ∷ []) ≡ text
lf_off [] never = refl
lf_off (x ∷ []) never = kept x (10 ∷ []) (and_left (x == 13) true (ne_eqb x 13 (λ e. never [] (ap (λ (n : ℕ). n ∷ []) e))))
lf_off (x ∷ y ∷ xs) never =
    kept x (y ∷ (xs ++ 10 ∷ [])) (three x y xs 10)
    ∙ ap (λ (zs : List ℕ). x ∷ zs) (lf_off (y ∷ xs) (λ front e. never (x ∷ front) (ap (λ (zs : List ℕ). x ∷ zs) e)))

-- a text without LF at its end stays
pub none_off : (text : List ℕ) → ((front : List ℕ) → text ≢ front ++ 10 ∷ []) → without_end text ≡ text
none_off [] never = refl
none_off (x ∷ []) never = kept x [] (ne_eqb x 10 (λ e. never [] (ap (λ (n : ℕ). n ∷ []) e)))
none_off (x ∷ y ∷ []) never =
    kept x (y ∷ []) (and_right (x == 13) (y == 10) (ne_eqb y 10 (λ e. never (x ∷ []) (ap (λ (n : ℕ). x ∷ n ∷ []) e))))
    ∙ ap (λ (zs : List ℕ). x ∷ zs) (none_off (y ∷ []) (λ front e. never (x ∷ front) (ap (λ (zs : List ℕ). x ∷ zs) e)))
none_off (x ∷ y ∷ z ∷ xs) never =
    ap (λ (zs : List ℕ). x ∷ zs) (none_off (y ∷ z ∷ xs) (λ front e. never (x ∷ front) (ap (λ (zs : List ℕ). x ∷ zs) e)))

-- a piece that others follow is a line
goes_on : (piece : List ℕ) (pieces : List (List ℕ)) (n : ℕ) → length pieces ≡ n + 1 → as_lines (piece ∷ pieces) ≡ without_end (piece ++ 10 ∷ []) ∷ as_lines pieces
goes_on piece [] n e = absurd (omega (arith, e))
goes_on piece (next ∷ pieces) n e = refl

pub first_of : (body piece rest : List ℕ) → divided 10 body ≡ piece ∷ divided 10 rest → lines_in body ≡ without_end (piece ++ 10 ∷ []) ∷ lines_in rest
first_of body piece rest e = ap as_lines e ∙ goes_on piece (divided 10 rest) _ (length-slice_split (λ b. b == 10) rest)
