-- Texts that are appended in pieces.
use Rattle.std.proofs.Common.{◌≡◌, ℕ, List, ◌++◌, ap, ◌∙◌, append_assoc}

pub appended3 : (old a d b : List ℕ) → ((old ++ a) ++ d) ++ b ≡ old ++ (a ++ (d ++ b))
appended3 old a d b = append_assoc (old ++ a) d b ∙ append_assoc old a (d ++ b)

pub appended5 : (old a d s r b t1 t2 t3 t4 t5 : List ℕ)
    → t1 ≡ old ++ a → t2 ≡ t1 ++ d → t3 ≡ t2 ++ s → t4 ≡ t3 ++ r → t5 ≡ t4 ++ b
    → t5 ≡ old ++ (a ++ ((d ++ (s ++ r)) ++ b))
appended5 old a d s r b t1 t2 t3 t4 t5 e1 e2 e3 e4 e5 =
    e5 ∙ ap (λ (x : List ℕ). x ++ b) (e4 ∙ ap (λ (x : List ℕ). x ++ r) (e3 ∙ ap (λ (x : List ℕ). x ++ s) (e2 ∙ ap (λ (x : List ℕ). x ++ d) e1)))
    ∙ ap (λ (x : List ℕ). x ++ b) (append_assoc ((old ++ a) ++ d) s r) ∙ ap (λ (x : List ℕ). x ++ b) (appended3 old a d (s ++ r))
    ∙ append_assoc old (a ++ (d ++ (s ++ r))) b ∙ ap (λ (x : List ℕ). old ++ x) (append_assoc a (d ++ (s ++ r)) b)
