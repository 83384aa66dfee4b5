-- The lines of a script, by what a cutter says of its bytes.
use Rattle.std.proofs.Common.{◌≡◌, ◌==◌, ℕ, List, [], ◌∷◌, ◌++◌, length, refl, sym, ◌∙◌, ap, arith, append_assoc}
use Rattle.std.proofs.Common.{append-nil, true, false}
use Rattle.std.specs.Prelude.{flat_map}
use Rattle.std.proofs.lemmas.Bool.{eqb-true, eqb-false}
use Rattle.ls_lines.specs.Lines.{IsPlain, EachLine, ended, AreLines}
use Rattle.ls_world.specs.Script.{whole_from, rest_from, last_line}
use Rattle.ls_run.proofs.ScriptLines.{whole_from-append, rest_from-append}

-- bytes that end no line are kept
pub whole_from-kept : (carry xs : List ℕ) → IsPlain xs → whole_from carry xs ≡ []
whole_from-kept carry [] h = refl
whole_from-kept carry (b ∷ xs) h = rw (h.0) (whole_from-kept (carry ++ b ∷ []) xs h.1)

pub rest_from-kept : (carry xs : List ℕ) → IsPlain xs → rest_from carry xs ≡ carry ++ xs
rest_from-kept carry [] h = sym (append-nil carry)
rest_from-kept carry (b ∷ xs) h = rw (h.0) (rest_from-kept (carry ++ b ∷ []) xs h.1 ∙ append_assoc carry (b ∷ []) xs)

whole_from-line : (xs : List ℕ) → IsPlain xs → whole_from [] (xs ++ 10 ∷ []) ≡ xs ∷ []
whole_from-line xs h = rw (whole_from-append [] xs (10 ∷ []), whole_from-kept [] xs h, rest_from-kept [] xs h) refl

rest_from-line : (xs : List ℕ) → rest_from [] (xs ++ 10 ∷ []) ≡ []
rest_from-line xs = rest_from-append [] xs (10 ∷ [])

-- lines, each with its end, and a rest are the whole lines of their bytes and what stands behind these
whole_of : (limit : ℕ) (lines : List (List ℕ)) (rest : List ℕ) → EachLine limit lines → IsPlain rest
    → whole_from [] (flat_map ended lines ++ rest) ≡ lines
whole_of limit [] rest e p = whole_from-kept [] rest p
whole_of limit (l ∷ ls) rest e p =
    let behind : List ℕ = flat_map ended ls ++ rest in
    ap (λ t. whole_from [] t) (append_assoc (ended l) (flat_map ended ls) rest)
    ∙ whole_from-append [] (ended l) behind
    ∙ ap (λ ys. ys ++ whole_from (rest_from [] (ended l)) behind) (whole_from-line l e.0.plain)
    ∙ ap (λ c. l ∷ whole_from c behind) (rest_from-line l)
    ∙ ap (λ ys. l ∷ ys) (whole_of limit ls rest e.1 p)

rest_of : (limit : ℕ) (lines : List (List ℕ)) (rest : List ℕ) → EachLine limit lines → IsPlain rest
    → rest_from [] (flat_map ended lines ++ rest) ≡ rest
rest_of limit [] rest e p = rest_from-kept [] rest p
rest_of limit (l ∷ ls) rest e p =
    let behind : List ℕ = flat_map ended ls ++ rest in
    ap (λ t. rest_from [] t) (append_assoc (ended l) (flat_map ended ls) rest)
    ∙ rest_from-append [] (ended l) behind
    ∙ ap (λ c. rest_from c behind) (rest_from-line l)
    ∙ rest_of limit ls rest e.1 p

-- what is kept stands in front of the bytes behind it
whole_front : (carry xs : List ℕ) → IsPlain carry → whole_from [] (carry ++ xs) ≡ whole_from carry xs
whole_front carry xs p =
    whole_from-append [] carry xs ∙ ap (λ ls. ls ++ whole_from (rest_from [] carry) xs) (whole_from-kept [] carry p)
    ∙ ap (λ c. whole_from c xs) (rest_from-kept [] carry p)

rest_front : (carry xs : List ℕ) → IsPlain carry → rest_from [] (carry ++ xs) ≡ rest_from carry xs
rest_front carry xs p = rest_from-append [] carry xs ∙ ap (λ c. rest_from c xs) (rest_from-kept [] carry p)

-- what was kept and these bytes are lines and a rest: the whole lines that end in the bytes, and what stands behind them
pub whole_are : (limit : ℕ) (carry xs : List ℕ) (lines : List (List ℕ)) (rest : List ℕ) → IsPlain carry
    → AreLines limit (carry ++ xs) lines rest → IsPlain rest → whole_from carry xs ≡ lines
whole_are limit carry xs lines rest c a p =
    sym (whole_front carry xs c) ∙ ap (λ t. whole_from [] t) a.text ∙ whole_of limit lines rest a.each p

pub rest_is : (limit : ℕ) (carry xs : List ℕ) (lines : List (List ℕ)) (rest : List ℕ) → IsPlain carry
    → AreLines limit (carry ++ xs) lines rest → IsPlain rest → rest_from carry xs ≡ rest
rest_is limit carry xs lines rest c a p =
    sym (rest_front carry xs c) ∙ ap (λ t. rest_from [] t) a.text ∙ rest_of limit lines rest a.each p

-- a rest that isn't empty is the last line
pub last_line-some : (carry : List ℕ) (n : ℕ) → n ≡ length carry → ((n == 0) ≡ false) → carry ∷ [] ≡ last_line carry
last_line-some [] n len h = absurd (eqb-false n 0 h len)
last_line-some (b ∷ bs) n len h = refl

pub last_line-none : (carry : List ℕ) (n : ℕ) → n ≡ length carry → ((n == 0) ≡ true) → last_line carry ≡ []
last_line-none [] n len h = refl
last_line-none (b ∷ bs) n len h = absurd (omega (arith, eqb-true n 0 h, len))

pub empty_of : (xs : List ℕ) (n : ℕ) → n ≡ length xs → ((n == 0) ≡ true) → xs ≡ []
empty_of [] n len h = refl
empty_of (x ∷ xs) n len h = absurd (omega (arith, eqb-true n 0 h, len))
