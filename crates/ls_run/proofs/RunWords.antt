-- Words of a command line.
use Rattle.std.proofs.Common.{◌≡◌, ℕ, ◌<◌, ◌≤◌, List, [], ◌∷◌, length, map, sym, ◌∙◌, ap, arith, Bool, get_or, IsTrue}
use Rattle.std.specs.Str.{bytes_eq}
use Rattle.std.proofs.lemmas.Slice.Eq.{bytes_eq-Decides}

-- the only word is this text
pub one_word : {X : Type 0} (f : X → List ℕ) (ws : List X) (d : X) (t : List ℕ) (v : Bool) → 1 ≤ length ws → length ws < 2 → v ≡ bytes_eq (f (get_or ws 0 d)) t
    → (IsTrue v → map f ws ≡ t ∷ []) × (map f ws ≡ t ∷ [] → IsTrue v)
one_word f [] d t v l m e = absurd (omega (arith, l))
one_word f (x ∷ []) d t v l m e =
    let same = bytes_eq-Decides (f x) t in
    (λ h. ap (λ y. y ∷ []) (same.0 (sym e ∙ h)), λ h. e ∙ same.1 (ap (λ ys. get_or ys 0 []) h))
one_word f (x ∷ y ∷ ws) d t v l m e = absurd (omega (arith, m))
