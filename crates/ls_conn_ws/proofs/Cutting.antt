-- The lines of a text, one after another.
use Rattle.std.proofs.Common.{◌≡◌, ℕ, ◌+◌, ◌==◌, ◌<◌, List, [], ◌∷◌, length, suc, Bool, false, refl, arith, if◌then◌else◌, ap, ◌∙◌}
use Rattle.std.proofs.lemmas.List.Splits.{length-slice_split}
use Rattle.ls_words.specs.Words.{divided}
use Rattle.ls_conn_ws.specs.Messages.{is_empty, as_lines, lines_of, without_cr}

-- a list of so many isn't empty
not_empty : (ls : List (List ℕ)) (n : ℕ) → length ls ≡ n + 1 → is_empty ls ≡ false
not_empty [] n e = absurd (omega (arith, e))
not_empty (l ∷ ls) n e = refl

-- a text has a first piece
pub pieces_there : (text : List ℕ) → is_empty (divided 10 text) ≡ false
pieces_there text = not_empty (divided 10 text) _ (length-slice_split (λ b. b == 10) text)

-- a line that others follow
pub line_first : (text line rest : List ℕ) → divided 10 text ≡ line ∷ divided 10 rest → lines_of text ≡ without_cr line ∷ lines_of rest
line_first text line rest e =
    ap as_lines e ∙ ap (λ (b : Bool). (if b then line else without_cr line) ∷ lines_of rest) (pieces_there rest)

-- after the first line there is one fewer
pub one_fewer : (ls left : List (List ℕ)) (line : List ℕ) → ls ≡ line ∷ left → length left < length ls
one_fewer ls left line e =
    let count : length ls ≡ suc (length left) = ap (λ (xs : List (List ℕ)). length xs) e in
    omega (arith, count)
